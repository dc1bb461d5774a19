use Rattle.std.proofs.Common.{◌≡◌, ℕ, List, refl, ap, subst, ◌∙◌}
use Rattle.vm_host.specs.Leaves.{Takes, TakesSome}
use Rattle.vm_host.proofs.Frames.{takes_is_some}
use Rattle.vm_state.specs.State.{State}
use Rattle.vm_table.specs.History.{console_of}
use Rattle.vm_replaying.specs.Answers as answer
use Rattle.vm_replaying.proofs.replaying.write_replayed.Goals as goal

pub returns-in-Ok-clause-answers : goal.returns-in-Ok-clause-answers
returns-in-Ok-clause-answers g c =
    let same : c.console.result.now ≡ console_of c.args.start c.args.history = c.console.ensures ∙ ap (λ (s : State). s.console) c.requires.last in
    λ name. answer.replayed _ refl refl (subst (λ (l : List ℕ). Takes l (g.S.Sink.seen c.args.console.now) (g.S.Sink.seen c.write_all-written.new.sink)) same c.in-Ok.ensures.whole) refl

pub returns-in-Ok-clause-console : goal.returns-in-Ok-clause-console
returns-in-Ok-clause-console g c =
    let same : c.console.result.now ≡ console_of c.args.start c.args.history = c.console.ensures ∙ ap (λ (s : State). s.console) c.requires.last in
    takes_is_some (g.S.Sink.seen c.args.console.now) (g.S.Sink.seen c.write_all-written.new.sink) (console_of c.args.start c.args.history)
    (subst (λ (l : List ℕ). Takes l (g.S.Sink.seen c.args.console.now) (g.S.Sink.seen c.write_all-written.new.sink)) same c.in-Ok.ensures.whole)

pub returns-in-Err-clause-answers : goal.returns-in-Err-clause-answers
returns-in-Err-clause-answers g c =
    let same : c.console.result.now ≡ console_of c.args.start c.args.history = c.console.ensures ∙ ap (λ (s : State). s.console) c.requires.last in
    λ name. answer.unwritten _ refl refl (subst (λ (l : List ℕ). TakesSome l (g.S.Sink.seen c.args.console.now) (g.S.Sink.seen c.write_all-written.new.sink)) same c.in-Err.ensures.part) refl
