use Rattle.std.proofs.Common.{◌≡◌, ℕ, List, ◌++◌, take, drop}
use Rattle.vm_host.specs.Past.{given_back}
use Rattle.vm_host.proofs.mem_host.place_of.Given as goal

abbrev pub invariant-loop-i : goal.invariant-loop-i
invariant-loop-i l = (b : List ℕ) → given_back l.past l.name b ≡ take l.i l.past ++ given_back (drop l.i l.past) l.name b
