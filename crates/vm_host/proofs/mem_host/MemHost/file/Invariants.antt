use Rattle.std.proofs.Common.{◌≡◌, drop}
use Rattle.vm_host.specs.Past.{file_of}
use Rattle.vm_host.proofs.mem_host.MemHost.file.Given as goal

abbrev pub invariant-loop-event : goal.invariant-loop-event
invariant-loop-event l = file_of (drop l.event-index l.event-items) l.name ≡ file_of l.event-items l.name
