use Rattle.std.proofs.Common.{◌≡◌, take, drop, []}
use Rattle.text_reader.specs.Word.{texts}
use Rattle.vm_start.specs.Start.{different_from}
use Rattle.vm_start.proofs.names.different.Given as goal

abbrev pub invariant-loop-k : goal.invariant-loop-k
invariant-loop-k l = different_from [] (texts l.names) ≡ different_from (texts (take l.k l.names)) (texts (drop l.k l.names))
