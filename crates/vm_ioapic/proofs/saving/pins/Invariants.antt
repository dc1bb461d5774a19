use Rattle.std.proofs.Common.{◌≡◌, ◌<◌, ◌^◌, ℕ, length, get_or}
use Rattle.vm_ioapic.specs.Pin.{pin_at_start}
use Rattle.vm_ioapic.specs.Saved.{pin_of}
use Rattle.vm_ioapic.proofs.saving.pins.Given as goal

abbrev pub invariant-loop-n : goal.invariant-loop-n
invariant-loop-n l =
    ((k : ℕ) → k < l.n → get_or l.pin-items k pin_at_start ≡ pin_of (get_or l.words k 0) (get_or l.counts k 0))
    × (length l.pin-items ≡ 32)
    × (0 < l.n → (k : ℕ) → get_or l.words k 0 < 2 ^ 64)
