use Rattle.std.proofs.Common.{◌≡◌, ℕ, List, true, false, sym, ◌∙◌, ap, subst}
use Rattle.std.proofs.lemmas.List.{get_or_default}
use Rattle.std.specs.Str.{bytes_eq}
use Rattle.vm_host.specs.Past.{Change}
use Rattle.vm_host.proofs.GivenBack.{given_found, given_next}
use Rattle.vm_host.proofs.mem_host.place_of.Goals as goal

pub returns-then-eq : goal.returns-then-eq
returns-then-eq c =
    let item = c.index-past-i.result in
    let named = c.as_str.ensures.value ∙ ap (λ (e : Change). e.name) c.event.view_is in
    let test : bytes_eq c.args.name.now item.name ≡ true = ap (λ (n : List ℕ). bytes_eq c.args.name.now n) (sym named) ∙ sym c.eq.ensures ∙ c.if-eq.true in (
      c.loop-i-test.true,
      λ b e is.
          let same : item ≡ e = c.index-past-i.is ∙ get_or_default c.args.past.now c.loop-i.i item e c.loop-i-test.true ∙ sym is in
          given_found c.args.past.now c.loop-i.i e c.args.name.now c.loop-i-test.true is b (c.loop-i.invariant b) (subst (λ (x : Change). bytes_eq c.args.name.now x.name ≡ true) same test),
    )

pub loop-i-preserved : goal.loop-i-preserved
loop-i-preserved c = λ b.
    let item = c.index-past-i.result in
    let named = c.as_str.ensures.value ∙ ap (λ (e : Change). e.name) c.event.view_is in
    let test : bytes_eq c.args.name.now item.name ≡ false = ap (λ (n : List ℕ). bytes_eq c.args.name.now n) (sym named) ∙ sym c.eq.ensures ∙ c.if-eq.false in
    given_next c.args.past.now c.loop-i.i item c.args.name.now c.loop-i-test.true c.index-past-i.is b (c.loop-i.invariant b) test
