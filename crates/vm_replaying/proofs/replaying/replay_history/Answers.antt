use Rattle.std.proofs.Common.{ℕ, Option, subst}
use Rattle.vm_journal.specs.Replaying.{ReplaysTo}
use Rattle.vm_replaying.proofs.Replays.{front_answers, kept_silent}
use Rattle.vm_replaying.proofs.replaying.replay_history.Goals as goal

pub returns-in-Some-clause-answers : goal.returns-in-Some-clause-answers
returns-in-Some-clause-answers g c =
    let told = subst (λ (b : Option ℕ). ReplaysTo c.args.start c.args.history c.in-Ok.replayed.run b) c.in-Some.is c.in-Ok.ensures.front in
    front_answers (g.S.Sink.seen c.args.console.now) c.args.start c.args.name.now c.args.history c.in-Some.at c.keep_front.result.ending c.keep_front.result.kept
    told.0 c.keep_front.ensures.spent c.keep_front.ensures.refused c.keep_front.ensures.run c.keep_front.ensures.front

pub returns-in-Some-clause-console : goal.returns-in-Some-clause-console
returns-in-Some-clause-console g c = kept_silent (g.S.Sink.seen c.args.console.now) c.keep_front.result.kept

pub returns-in-None-clause-answers : goal.returns-in-None-clause-answers
returns-in-None-clause-answers g c = c.write_replayed.ensures.answers c.args.name.now
