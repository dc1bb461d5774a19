use Rattle.std.proofs.Common.{rules, subst, List, ℕ}
use Rattle.std.specs.Fmt.{HasWritten}
use Rattle.ctl_script.proofs.Hexes.{hex_padded}
use Rattle.ctl_script.proofs.printing.Hex16Display.fmt.Goals as goal

pub returns-clause-writes : goal.returns-clause-writes
returns-clause-writes g c = λ plain ok. subst (λ (bs : List ℕ). HasWritten g.W.Write.write_str_gives c.args.f.now bs c.write.new.self) (hex_padded c.args.self.now.0) (search rules)
