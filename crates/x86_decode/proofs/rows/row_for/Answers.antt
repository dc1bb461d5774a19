use Rattle.std.proofs.Common.{ap, ◌∙◌, List}
use Rattle.std.specs.Prelude.{find}
use Rattle.x86_grammar.specs.declared.table.Row.{Row}
use Rattle.x86_grammar.specs.Rows.{fits}
use Rattle.x86_decode.proofs.Indexed.{found_in_part}
use Rattle.x86_decode.proofs.rows.row_for.Goals as goal

pub returns : goal.returns
returns c = c.first_of.ensures ∙ ap (λ (rs : List Row). find (λ r. fits r c.args.head.now c.args.modrm.now) rs) c.rows_at.ensures ∙ found_in_part c.args.head.now c.args.modrm.now
