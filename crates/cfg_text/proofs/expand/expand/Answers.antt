use Rattle.std.proofs.Common.{◌≡◌, ◌++◌, ◌∷◌, ◌∙◌, [], ap, sym, List, ℕ, append_assoc, append-nil, refl, string_bytes}
use Rattle.std.proofs.lemmas.Result.{err_from_is_err_and}
use Rattle.cfg_text.specs.Lines.{variables_of}
use Rattle.cfg_text.specs.Values.{value_of, expanded}
use Rattle.cfg_text.proofs.Steps.{goes_named, goes_plain, ends_here, begins, longer_by}
use Rattle.cfg_text.proofs.expand.expand.Goals as goal

pub returns-in_err-add : goal.returns-in_err-add
returns-in_err-add c =
    let p = err_from_is_err_and c.from_residual.result c.from_residual.ensures.1 in
    let vs = variables_of c.args.variables.now.entries in
    let step = begins vs c.loop-before.rest.now c.in-Some.before.now c.in-Some.after.now (sym c.in-Some.ensures.value) in
    rw (p.1, p.2) (longer_by c.in_err-add.field-0.0 c.args.most (string_bytes c.loop-before.out) c.in-Some.before.now step.0 (expanded vs c.loop-before.rest.now) (expanded vs c.args.value.now) c.loop-before.invariant.told step.1 c.in_err-add.ensures)

pub loop-before-preserved-in-Some-name_of : goal.loop-before-preserved-in-Some-name_of
loop-before-preserved-in-Some-name_of c =
    let vs = variables_of c.args.variables.now.entries in
    let step = goes_named vs c.loop-before.rest.now c.in-Some.before.now c.in-Some.after.now c.in-Some-name_of.name.now c.in-Some-name_of.tail.now (sym c.in-Some.ensures.value) (sym c.in-Some-name_of.ensures.value) in
    record {
      told = rw (c.in_ok-add-in-Some-name_of.ensures.0, c.in_ok-add.ensures.0, c.value_of.ensures, append_assoc, append_assoc, ← step) c.loop-before.invariant.told;
      text = c.in-Some-name_of.ensures.text;
    }

pub loop-before-preserved : goal.loop-before-preserved
loop-before-preserved c =
    let vs = variables_of c.args.variables.now.entries in
    let step = goes_plain vs c.loop-before.rest.now c.in-Some.before.now c.in-Some.after.now (sym c.in-Some.ensures.value) (sym c.in-None.ensures.value) in
    record {
      told = rw (c.in_ok-add-in-None.ensures.0, c.in_ok-add.ensures.0, append_assoc, append_assoc, ← step) c.loop-before.invariant.told;
      text = c.in-Some.ensures.text;
    }

pub returns-in_err-add-in-Some-name_of : goal.returns-in_err-add-in-Some-name_of
returns-in_err-add-in-Some-name_of c =
    let p = err_from_is_err_and c.from_residual-in_err-add-in-Some-name_of.result c.from_residual-in_err-add-in-Some-name_of.ensures.1 in
    let vs = variables_of c.args.variables.now.entries in
    let step = goes_named vs c.loop-before.rest.now c.in-Some.before.now c.in-Some.after.now c.in-Some-name_of.name.now c.in-Some-name_of.tail.now (sym c.in-Some.ensures.value) (sym c.in-Some-name_of.ensures.value) in
    let more = expanded vs c.in-Some-name_of.tail.now in
    let told : string_bytes c.add.new.out ++ (value_of vs c.in-Some-name_of.name.now ++ more) ≡ expanded vs c.args.value.now = rw (c.in_ok-add.ensures.0, append_assoc, ← step) c.loop-before.invariant.told in
    rw (p.1, p.2) (longer_by c.in_err-add-in-Some-name_of.field-0.0 c.args.most (string_bytes c.add.new.out) c.value_of.result.now more (value_of vs c.in-Some-name_of.name.now ++ more) (expanded vs c.args.value.now)
    told (ap (λ (v : List ℕ). v ++ more) (sym c.value_of.ensures)) c.in_err-add-in-Some-name_of.ensures)

pub returns-in_err-add-in-None : goal.returns-in_err-add-in-None
returns-in_err-add-in-None c =
    let p = err_from_is_err_and c.from_residual-in_err-add-in-None.result c.from_residual-in_err-add-in-None.ensures.1 in
    let vs = variables_of c.args.variables.now.entries in
    let step = goes_plain vs c.loop-before.rest.now c.in-Some.before.now c.in-Some.after.now (sym c.in-Some.ensures.value) (sym c.in-None.ensures.value) in
    let more = expanded vs c.in-Some.after.now in
    let told : string_bytes c.add.new.out ++ (37 ∷ more) ≡ expanded vs c.args.value.now = rw (c.in_ok-add.ensures.0, append_assoc, ← step) c.loop-before.invariant.told in
    rw (p.1, p.2) (longer_by c.in_err-add-in-None.field-0.0 c.args.most (string_bytes c.add.new.out) (37 ∷ []) more (37 ∷ more) (expanded vs c.args.value.now)
    told refl c.in_err-add-in-None.ensures)

pub returns-in_err-add-2 : goal.returns-in_err-add-2
returns-in_err-add-2 c =
    let p = err_from_is_err_and c.from_residual-in_err-add-2.result c.from_residual-in_err-add-2.ensures.1 in
    let vs = variables_of c.args.variables.now.entries in
    let ends = ends_here vs c.loop-before.rest.now (sym c.in_default.ensures.value) in
    rw (p.1, p.2) (longer_by c.in_err-add-2.field-0.0 c.args.most (string_bytes c.loop-before.out) c.loop-before.rest.now [] (expanded vs c.loop-before.rest.now) (expanded vs c.args.value.now)
    c.loop-before.invariant.told (ends ∙ sym (append-nil c.loop-before.rest.now)) c.in_err-add-2.ensures)

pub returns : goal.returns
returns c =
    let vs = variables_of c.args.variables.now.entries in
    let is = ap (λ (t : List ℕ). string_bytes c.loop-before.out ++ t) (sym (ends_here vs c.loop-before.rest.now (sym c.in_default.ensures.value))) ∙ c.loop-before.invariant.told in
    (c.in_ok-add-2.ensures.0 ∙ is, rw (← is) c.in_ok-add-2.ensures.1)
