use Rattle.std.proofs.Common.{◌≡◌, drop}
use Rattle.cfg_text.specs.Line.{is_open, is_open_from}
use Rattle.cfg_text.proofs.line.is_open.Given as goal

abbrev pub invariant-loop-b : goal.invariant-loop-b
invariant-loop-b l = is_open_from l.scan (drop l.b-index l.value) ≡ is_open l.value
