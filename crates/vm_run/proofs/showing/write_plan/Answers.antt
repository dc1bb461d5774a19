use Rattle.std.proofs.Common.{ℕ, List, ◌≡◌, refl, subst, ◌∙◌}
use Rattle.vm_host.specs.Leaves.{Takes, TakesSome}
use Rattle.vm_report.specs.PlanText.{plan_text}
use Rattle.vm_run.specs.Showing as show_answer
use Rattle.vm_run.proofs.showing.write_plan.Goals as goal

pub returns-in-Ok-write_all-clause-shows : goal.returns-in-Ok-write_all-clause-shows
returns-in-Ok-write_all-clause-shows g c =
    let same : c.as_bytes.result.now ≡ plan_text c.args.plan.now = c.as_bytes.ensures.value ∙ c.in-Ok.ensures in
    show_answer.written (subst (λ (l : List ℕ). Takes l (g.S.Sink.seen c.args.console.now) (g.S.Sink.seen c.write_all.new.sink)) same c.in-Ok-write_all.ensures.whole) refl

pub returns-clause-shows : goal.returns-clause-shows
returns-clause-shows g c =
    let same : c.as_bytes.result.now ≡ plan_text c.args.plan.now = c.as_bytes.ensures.value ∙ c.in-Ok.ensures in
    show_answer.cut (subst (λ (l : List ℕ). TakesSome l (g.S.Sink.seen c.args.console.now) (g.S.Sink.seen c.write_all.new.sink)) same c.in-Err.ensures.part) refl
