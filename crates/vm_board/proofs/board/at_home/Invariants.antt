use Rattle.std.proofs.Common.{◌≡◌, map, Some}
use Rattle.vm_board.proofs.board.at_home.Given as goal

abbrev pub invariant-loop-image : goal.invariant-loop-image
invariant-loop-image g l = l.homes.items ≡ map Some l.yielded
