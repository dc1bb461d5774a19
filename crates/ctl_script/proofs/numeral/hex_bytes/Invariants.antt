use Rattle.std.proofs.Common.{◌≡◌, ◌++◌, length}
use Rattle.std.specs.Prelude.{option_map}
use Rattle.ctl_script.specs.Numeral.{hex_bytes}
use Rattle.ctl_script.proofs.numeral.hex_bytes.Given as goal

abbrev pub invariant-loop-pair : goal.invariant-loop-pair
invariant-loop-pair l = option_map (λ more. l.bytes.items ++ more) (hex_bytes l.rest) ≡ hex_bytes l.text

abbrev pub decreases-loop-pair : goal.decreases-loop-pair
decreases-loop-pair l = length l.rest
