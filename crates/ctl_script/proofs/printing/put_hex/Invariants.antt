use Rattle.std.proofs.Common.{◌≡◌, ◌++◌, drop, string_bytes}
use Rattle.ctl_script.specs.Print.{hex_text}
use Rattle.ctl_script.proofs.printing.put_hex.Given as goal

abbrev pub invariant-loop-byte : goal.invariant-loop-byte
invariant-loop-byte l = string_bytes l.out ++ hex_text (drop l.byte-index l.bytes) ≡ string_bytes l.fn.out ++ hex_text l.bytes
