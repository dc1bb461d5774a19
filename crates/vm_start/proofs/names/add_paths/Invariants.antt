use Rattle.std.proofs.Common.{◌≡◌, ◌++◌, take}
use Rattle.text_reader.specs.Word.{texts}
use Rattle.vm_start.specs.Start.{paths_of}
use Rattle.vm_start.proofs.names.add_paths.Given as goal

abbrev pub invariant-loop-disk : goal.invariant-loop-disk
invariant-loop-disk l = texts l.names.items ≡ texts l.initial.names.items ++ paths_of (take l.disk-index l.disks)
