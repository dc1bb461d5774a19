use Rattle.std.proofs.Common.{◌-◌, ◌++◌, length, replicate, ◌≡◌, None}
use Rattle.guest_ram.proofs.places.fill.Given as goal

abbrev pub invariant-loop-number : goal.invariant-loop-number
invariant-loop-number l = l.places.items ≡ l.fn.places.items ++ replicate (l._number - length l.fn.places.items) None
