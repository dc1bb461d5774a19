use Rattle.std.proofs.Common.{◌≡◌, drop}
use Rattle.byte_reader.specs.Fixed.{same}
use Rattle.byte_reader.proofs.fixed.read_text.Given as goal

abbrev pub invariant-loop-i : goal.invariant-loop-i
invariant-loop-i g l = same l.fn.short l.other (drop l.i l.text) (drop l.i l.bytes) ≡ same l.fn.short l.other l.text l.bytes
