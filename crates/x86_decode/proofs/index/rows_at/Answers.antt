use Rattle.std.proofs.Common.{ap, ◌∙◌, arith, ℕ}
use Rattle.std.specs.Prelude.{slice_range}
use Rattle.x86_grammar.specs.declared.table.TheConstants.{ROWS}
use Rattle.x86_decode.specs.Index.{key_of, from_of, upto_of}
use Rattle.x86_decode.proofs.Indexed.{in_table}
use Rattle.x86_decode.proofs.index.rows_at.Goals as goal

pub some_of-requires-clause-ordered : goal.some_of-requires-clause-ordered
some_of-requires-clause-ordered c =
    let k = in_table c.key_of-key.result c.key_of-key.ensures.small in
    omega (arith, k.0, c.from_of.ensures, c.upto_of.ensures)

pub some_of-requires-clause-within : goal.some_of-requires-clause-within
some_of-requires-clause-within c =
    let k = in_table c.key_of-key.result c.key_of-key.ensures.small in
    omega (arith, k.1, c.upto_of.ensures)

pub returns : goal.returns
returns c =
    let a = c.from_of.ensures ∙ ap from_of c.key_of-key.ensures.value in
    let b = c.upto_of.ensures ∙ ap upto_of c.key_of-key.ensures.value in
    c.some_of.ensures ∙ ap (λ (n : ℕ). slice_range ROWS n c.upto_of.result) a ∙ ap (λ (n : ℕ). slice_range ROWS (from_of (key_of c.args.head.now.map c.args.head.now.byte)) n) b
