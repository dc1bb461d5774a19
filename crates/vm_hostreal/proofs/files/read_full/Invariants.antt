use Rattle.std.proofs.Common.{◌≤◌, length}
use Rattle.vm_hostreal.proofs.files.read_full.Given as goal

abbrev pub invariant-reading : goal.invariant-reading
invariant-reading l = l.done ≤ length l.into
