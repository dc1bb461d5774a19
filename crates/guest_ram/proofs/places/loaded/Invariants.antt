use Rattle.std.proofs.Common.{◌-◌, length}
use Rattle.guest_ram.proofs.Loaded.{Loaded}
use Rattle.guest_ram.proofs.places.loaded.Given as goal

abbrev pub invariant-loop-done : goal.invariant-loop-done
invariant-loop-done l = Loaded l.payload l.done l.places.items

abbrev pub decreases-loop-done : goal.decreases-loop-done
decreases-loop-done l = length l.payload - l.done
