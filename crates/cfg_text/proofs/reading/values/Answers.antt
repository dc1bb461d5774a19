use Rattle.std.proofs.Common.{◌≡◌, ◌∙◌, ◌++◌, ◌∷◌, List, ℕ, ap, sym}
use Rattle.std.specs.Borrow.{Bor}
use Rattle.cfg_text.specs.declared.expand.Written.{Written}
use Rattle.cfg_text.specs.Lines.{variables_of}
use Rattle.cfg_text.specs.Config.{pairs_of}
use Rattle.cfg_text.specs.Values.{expanded, values_of}
use Rattle.cfg_text.proofs.Kept.{distinct_names, next_is_new}
use Rattle.cfg_text.proofs.reading.values.Goals as goal

pub add_value-requires : goal.add_value-requires
add_value-requires c =
    let vs = variables_of c.args.variables.now.entries in
    let so_far = ap (λ (es : List (Bor (List ℕ) × Written)). pairs_of c.loop-name.expanded.entries ++ values_of vs (variables_of es)) (sym c.in-Some.ensures.steps) ∙ c.loop-name.invariant.so_far in
    next_is_new (pairs_of c.loop-name.expanded.entries) c.in-Some.name.now.now (expanded vs c.in-Some.written.now.value.now) (values_of vs (variables_of c.next.new.self)) (values_of vs vs) so_far
    (distinct_names c.args.variables.now.entries c.iter-name-items.ensures.unique vs)
