use Rattle.std.proofs.Common.{◌≡◌, ℕ, ◌<◌, ◌++◌, length, take, get_or}
use Rattle.std.specs.List.{flat_map}
use Rattle.vm_law.specs.declared.journal.Signed.{Signed}
use Rattle.vm_journal.specs.Spelling.{signed_bytes, gate, magic, qword, FitsSigned}
use Rattle.vm_journal.proofs.writing.encode.Given as goal

abbrev pub invariant-loop-signed : goal.invariant-loop-signed
invariant-loop-signed l = record {
  spelled : l.out.items ≡ gate ++ (magic ++ (qword (length l.journal) ++ flat_map signed_bytes (take l.signed-index l.signed-items)));
  fits : (k : ℕ) (d : Signed) → k < l.signed-index → FitsSigned (get_or l.signed-items k d);
}
