use Rattle.std.proofs.Common.{◌≡◌, ◌<◌, ℕ, get_or}
use Rattle.vm_ioapic.specs.Pin.{pin_at_start}
use Rattle.vm_ioapic.specs.Saved.{word_of}
use Rattle.vm_ioapic.proofs.saving.words.Given as goal

abbrev pub invariant-loop-n : goal.invariant-loop-n
invariant-loop-n l = (k : ℕ) → k < l.n → get_or l.word-items k 0 ≡ word_of (get_or l.pins k pin_at_start)
