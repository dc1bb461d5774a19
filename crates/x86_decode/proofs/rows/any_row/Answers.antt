use Rattle.std.proofs.Common.{ap, ◌∙◌, List}
use Rattle.std.specs.List.{list_any}
use Rattle.x86_grammar.specs.declared.table.Row.{Row}
use Rattle.x86_grammar.specs.Rows.{takes}
use Rattle.x86_decode.proofs.Indexed.{any_in_part}
use Rattle.x86_decode.proofs.rows.any_row.Goals as goal

pub returns : goal.returns
returns c = c.any_of.ensures ∙ ap (λ (rs : List Row). list_any (λ r. takes r c.args.head.now) rs) c.rows_at.ensures ∙ any_in_part c.args.head.now
