use Rattle.std.proofs.Common.{◌≡◌, ◌<◌, ℕ, get_or, None, false, is_none}
use Rattle.vm_event.proofs.events.Events.lowest_free.Given as goal

abbrev pub invariant-loop-id : goal.invariant-loop-id
invariant-loop-id l = (k : ℕ) → k < l.id → is_none (get_or l.self k None) ≡ false
