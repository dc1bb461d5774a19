use Rattle.std.proofs.Common.{◌≡◌, ◌-◌, length-take, length-drop, ◌++◌, ℕ, List, take, drop, refl, sym, ap, subst, ◌∙◌, arith, length}
use Rattle.std.proofs.lemmas.List.{append-nil, take_all}
use Rattle.vm_host.specs.Leaves.{Takes}
use Rattle.vm_status.proofs.Pieces.{took_more, on_any}
use Rattle.vm_status.proofs.writing.write_all.Goals as goal

pub loop-at-init : goal.loop-at-init
loop-at-init g c = record {
  within = omega arith;
  took = record { told = refl; taken = λ told. sym (append-nil (g.S.Sink.seen c.args.sink.now).taken) };
  faults = refl;
}

pub loop-at-preserved : goal.loop-at-preserved
loop-at-preserved g c =
    let inv = c.loop-at.invariant in
    let left = length c.args.bytes.now - c.loop-at.at in
    record {
      within = omega (arith, c.in_ok-at.ensures.within, length-take left (drop c.loop-at.at c.args.bytes.now), length-drop c.loop-at.at c.args.bytes.now);
      took = record {
        told = c.in_ok-at.ensures.takes.told ∙ inv.took.told;
        taken = λ told.
            c.in_ok-at.ensures.takes.taken (inv.took.told ∙ told)
            ∙ ap (λ (l : List ℕ). l ++ take c.in_ok-at.field-0 (take left (drop c.loop-at.at c.args.bytes.now))) (inv.took.taken told)
            ∙ took_more (g.S.Sink.seen c.args.sink.now).taken c.args.bytes.now c.loop-at.at c.in_ok-at.field-0 inv.within;
      };
      faults = c.in_ok-at.ensures.cause.quiet ∙ inv.faults;
    }

pub returns-in_err-at-clause-part : goal.returns-in_err-at-clause-part
returns-in_err-at-clause-part g c =
    let inv = c.loop-at.invariant in
    on_any c.from_residual.result _ (record {
      told = c.in_err-at.ensures.refused.told ∙ inv.took.told;
      taken = λ told. (c.loop-at.at, c.in_err-at.ensures.refused.taken (inv.took.told ∙ told) ∙ inv.took.taken told);
    })

pub returns-in_err-at-clause-refused : goal.returns-in_err-at-clause-refused
returns-in_err-at-clause-refused g c =
    let inv = c.loop-at.invariant in
    λ told. on_any c.from_residual.result _ (c.loop-at.at, c.loop-at-test.true, c.in_err-at.ensures.refused.taken (inv.took.told ∙ told) ∙ inv.took.taken told)

pub returns-clause-whole : goal.returns-clause-whole
returns-clause-whole g c =
    let all : take c.loop-at.at c.args.bytes.now ≡ c.args.bytes.now = take_all c.loop-at.at c.args.bytes.now (omega (arith, c.loop-at.invariant.within)) in
    subst (λ (l : List ℕ). Takes l (g.S.Sink.seen c.args.sink.now) (g.S.Sink.seen c.loop-at.sink)) all c.loop-at.invariant.took
