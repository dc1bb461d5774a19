use Rattle.std.proofs.Common.{◌≡◌, ◌<◌, ℕ, ◌+◌, suc, Option, Some, None, refl, sym, subst, ◌∙◌, arith}
use Rattle.vm_state.specs.declared.start.Start.{Start}
use Rattle.vm_board.specs.declared.actor.Went.{Went}
use Rattle.vm_board.specs.Going.{AreStays, HasGone, IsStay, end_of, place}
use Rattle.vm_board.proofs.Going.{added_or_none, ends_gone, has_left_where, not_some, one_more, same_then}
use Rattle.vm_blkwork.specs.Going.{TurnsAndCalls, leaves}
use Rattle.vm_blkwork.specs.Turn.{back_of}
use Rattle.vm_blkwork.proofs.worker.Worker.go.Goals as goal

pub returns-in-Some-clause-goes : goal.returns-in-Some-clause-goes
returns-in-Some-clause-goes g c = λ start root.
    let by = c.args.self.now.by in
    let old = place c.args.pass.now.view c.args.self.now in
    let mid = place c.loop.pass.view c.loop.self in
    let new = place c.stay-did.new.pass.view c.stay-did.new.self in
    let stay = subst (λ (n : ℕ). IsStay start n back_of leaves (TurnsAndCalls g.I.Image.seen) mid new c.stay-did.result) c.loop.invariant.numbers.1 (c.stay-did.ensures.stays start (c.loop.invariant.same.root ∙ root)) in
    let few : c.loop.counter < c.args.stays = omega arith in
    ends_gone start by back_of leaves (TurnsAndCalls g.I.Image.seen) c.loop.counter c.args.stays old mid new c.stay-did.result c.in-Some.went few (c.loop.invariant.stays start root) stay (sym c.end.ensures ∙ c.in-Some.is)

pub returns-in-Some-clause-left : goal.returns-in-Some-clause-left
returns-in-Some-clause-left g c = λ start root left.
    let by = c.args.self.now.by in
    let old = place c.args.pass.now.view c.args.self.now in
    let mid = place c.loop.pass.view c.loop.self in
    let new = place c.stay-did.new.pass.view c.stay-did.new.self in
    let stay = subst (λ (n : ℕ). IsStay start n back_of leaves (TurnsAndCalls g.I.Image.seen) mid new c.stay-did.result) c.loop.invariant.numbers.1 (c.stay-did.ensures.stays start (c.loop.invariant.same.root ∙ root)) in
    let few : c.loop.counter < c.args.stays = omega arith in
    let gone = ends_gone start by back_of leaves (TurnsAndCalls g.I.Image.seen) c.loop.counter c.args.stays old mid new c.stay-did.result c.in-Some.went few (c.loop.invariant.stays start root) stay (sym c.end.ensures ∙ c.in-Some.is) in
    has_left_where start by back_of leaves (TurnsAndCalls g.I.Image.seen) c.args.stays old new (subst (λ (w : Went). HasGone start by back_of leaves (TurnsAndCalls g.I.Image.seen) c.args.stays old new w) left gone)

pub loop-preserved : goal.loop-preserved
loop-preserved g c = record {
  own = c.stay-did.ensures.own ∙ c.loop.invariant.own;
  same = same_then c.args.pass.now.view c.loop.pass.view c.stay-did.new.pass.view c.loop.invariant.same c.stay-did.ensures.same;
  sits = c.stay-did.ensures.sits;
  numbers = (c.stay-did.ensures.numbers.0 ∙ c.loop.invariant.numbers.0, c.stay-did.ensures.numbers.1 ∙ c.loop.invariant.numbers.1);
  stays = λ start root.
      let by = c.args.self.now.by in
      let old = place c.args.pass.now.view c.args.self.now in
      let mid = place c.loop.pass.view c.loop.self in
      let new = place c.stay-did.new.pass.view c.stay-did.new.self in
      let stay = subst (λ (n : ℕ). IsStay start n back_of leaves (TurnsAndCalls g.I.Image.seen) mid new c.stay-did.result) c.loop.invariant.numbers.1 (c.stay-did.ensures.stays start (c.loop.invariant.same.root ∙ root)) in
      let none : end_of c.stay-did.result ≡ None = not_some (end_of c.stay-did.result) (λ w e. c.in_default.not-Some w (c.end.ensures ∙ e)) in
      let k : suc c.loop.counter ≡ c.loop.counter + 1 = omega arith in
      subst (λ (n : ℕ). AreStays start by back_of leaves (TurnsAndCalls g.I.Image.seen) n old new) k
      (one_more start by back_of leaves (TurnsAndCalls g.I.Image.seen) c.loop.counter old mid new c.stay-did.result (c.loop.invariant.stays start root) stay none);
}

pub returns-clause-again : goal.returns-clause-again
returns-clause-again g c = λ start root again.
    let some : 0 < c.loop.counter = omega arith in
    added_or_none start c.args.self.now.by back_of leaves (TurnsAndCalls g.I.Image.seen) c.loop.counter (place c.args.pass.now.view c.args.self.now) (place c.loop.pass.view c.loop.self) some (c.loop.invariant.stays start root)
