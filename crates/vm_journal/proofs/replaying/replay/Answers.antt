use Rattle.std.proofs.Common.{ℕ, Option, subst}
use Rattle.vm_laws.specs.Laws.{Laws}
use Rattle.vm_journal.specs.Replaying.{front_of, ReplaysTo}
use Rattle.vm_journal.proofs.Histories.{first_bad}
use Rattle.vm_journal.proofs.replaying.replay.Goals as goal

pub returns-in-Some-clause-legal_is_replayed : goal.returns-in-Some-clause-legal_is_replayed
returns-in-Some-clause-legal_is_replayed c =
    let told = subst (λ (b : Option ℕ). ReplaysTo c.args.start.now c.args.journal.now c.in_ok-replayed.replayed.run b) c.in-Some.is c.in_ok-replayed.ensures.front in
    λ legal. absurd (first_bad c.args.start.now c.args.journal.now c.in-Some.at told.0 legal)

pub returns-in-None-clause-laws : goal.returns-in-None-clause-laws
returns-in-None-clause-laws c =
    subst (λ (b : Option ℕ). Laws c.args.start.now (front_of b c.args.journal.now)) c.in-None.is c.in_ok-replayed.ensures.laws
