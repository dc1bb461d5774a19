use Rattle.std.proofs.Common.{length, take, drop, ◌++◌, ◌-◌, ◌≤◌, ◌≡◌}
use Rattle.guest_ram.specs.Pages.{bytes_of}
use Rattle.guest_ram.proofs.places.read_across.Given as goal

abbrev pub invariant-loop-done : goal.invariant-loop-done
invariant-loop-done l = record {
  within : l.done ≤ length l.into;
  copied : l.into ≡ take l.done (drop l.at (bytes_of l.places)) ++ drop l.done l.fn.into;
}

abbrev pub decreases-loop-done : goal.decreases-loop-done
decreases-loop-done l = length l.initial.into - l.done
