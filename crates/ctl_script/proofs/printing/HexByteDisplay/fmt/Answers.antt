use Rattle.std.proofs.Common.{◌<◌, rules, subst, List, ℕ, arith, false}
use Rattle.std.specs.Fmt.{HasWritten}
use Rattle.std.proofs.lemmas.Fmt.{hex_byte}
use Rattle.ctl_script.proofs.printing.HexByteDisplay.fmt.Goals as goal

pub returns-clause-writes : goal.returns-clause-writes
returns-clause-writes g c =
    let small : c.args.self.now.0 < 256 = omega arith in
    λ plain ok. subst (λ (bs : List ℕ). HasWritten g.W.Write.write_str_gives c.args.f.now bs c.write.new.self) (hex_byte false c.args.self.now.0 small) (search rules)
