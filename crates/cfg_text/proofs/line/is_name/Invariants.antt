use Rattle.std.proofs.Common.{◌≡◌, drop}
use Rattle.cfg_text.specs.Line.{is_name}
use Rattle.cfg_text.proofs.Text.{is_name_from}
use Rattle.cfg_text.proofs.line.is_name.Given as goal

abbrev pub invariant-loop-b : goal.invariant-loop-b
invariant-loop-b l = is_name_from l.is_empty (drop l.b-index l.name) ≡ is_name l.name
