use Rattle.std.proofs.Common.{◌≡◌, take}
use Rattle.vm_host.specs.MemState.{calls_of}
use Rattle.vm_host.proofs.image_calls.listed_for.Given as goal

abbrev pub invariant-loop-entry : goal.invariant-loop-entry
invariant-loop-entry l = l.calls.items ≡ calls_of (take l.entry-index l.listed) l.name
