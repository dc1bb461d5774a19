-- The loop over lines.
use Rattle.std.proofs.Common.{◌≡◌, ◌∙◌, ap, ℕ, ◌+◌, List, ◌∷◌}
use Rattle.std.specs.Prelude.{Result, Ok, Err, Option, Some}
use Rattle.std.specs.Borrow.{Bor}
use Rattle.vm_law.specs.declared.script.Order.{Order}
use Rattle.vm_law.specs.declared.plan.Plan.{Plan}
use Rattle.text_reader.specs.Line.{Fault, lines, lines_after, read_lines}
use Rattle.text_reader.proofs.Lines as loop
use Rattle.ctl_script.specs.declared.fault.ScriptKind.{ScriptKind}
use Rattle.ctl_script.specs.Script.{read_line, at_line, line_step}

module _ (p : Plan) (n : ℕ) (before : List Order) (rest : Option (Bor (List ℕ))) (text : Bor (List ℕ)) (line : List ℕ) (after : Option (Bor (List ℕ))) (total : Result (List Order) (Fault ScriptKind))
    (is : rest ≡ Some text) (cut : lines text.now ≡ line ∷ lines_after after) (so_far : read_lines (line_step p) n before (lines_after rest) ≡ total) where
  pub goes_on : (new : List Order) → read_line p before line ≡ Ok new → read_lines (line_step p) (n + 1) new (lines_after after) ≡ total
  goes_on new e = loop.goes_on (line_step p) n before rest text line after total is cut so_far new (ap (at_line n) e)

  pub stops : (kind : ScriptKind) → read_line p before line ≡ Err kind → total ≡ Err (record { line = n; kind = kind })
  stops kind h = loop.stops (line_step p) n before rest text line after total is cut so_far (record { line = n; kind = kind }) (ap (at_line n) h)
