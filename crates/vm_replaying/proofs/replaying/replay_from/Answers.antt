use Rattle.vm_outcome.specs.declared.outcome.Kept.{Kept}
use Rattle.vm_replaying.specs.Answers as answer
use Rattle.vm_replaying.proofs.Replays.{no_journal, journal_named}
use Rattle.vm_replaying.proofs.replaying.replay_from.Goals as goal

pub returns-in-Ok-journal_from-clause-answers : goal.returns-in-Ok-journal_from-clause-answers
returns-in-Ok-journal_from-clause-answers g c = answer.read c.in-Ok-journal_from.history c.in-Ok-journal_from.ensures.reads c.replay_history.ensures.answers

pub returns-in-Err-journal_from-clause-answers : goal.returns-in-Err-journal_from-clause-answers
returns-in-Err-journal_from-clause-answers g c =
    let k : Kept = record { start = c.args.start; journal = c.new.result; run = c.in-Ok.run' } in
    no_journal (g.H.Host.seen c.args.host.now) (g.H.Host.seen c.journal_from.new.host) (g.S.Sink.seen c.args.console.now) c.args.journal.now k c.in-Err-journal_from.refusal
    c.new.ensures c.in-Err-journal_from.ensures.reads

pub returns-in-Err-journal_from-clause-named : goal.returns-in-Err-journal_from-clause-named
returns-in-Err-journal_from-clause-named g c = λ name e.
    journal_named (g.H.Host.seen c.args.host.now) (g.H.Host.seen c.journal_from.new.host) c.args.journal.now c.in-Err-journal_from.refusal name
    c.in-Err-journal_from.ensures.reads c.in-Err-journal_from.ensures.causes e
