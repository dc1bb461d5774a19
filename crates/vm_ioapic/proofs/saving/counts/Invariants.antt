use Rattle.std.proofs.Common.{◌≡◌, ◌<◌, ℕ, get_or}
use Rattle.vm_ioapic.specs.Pin.{pin_at_start}
use Rattle.vm_ioapic.proofs.saving.counts.Given as goal

abbrev pub invariant-loop-n : goal.invariant-loop-n
invariant-loop-n l = (k : ℕ) → k < l.n → get_or l.count-items k 0 ≡ (get_or l.pins k pin_at_start).count
