use Rattle.std.proofs.Common.{◌≡◌, ℕ, false, Result, [], ◌∷◌, Option, Some, None, IfSome, IsNone, Contains, Err, refl, sym, subst, ◌∙◌, ap}
use Rattle.vm_cmd.specs.Word.{texts}
use Rattle.vm_cmd.specs.declared.command.Command.{Command}
use Rattle.vm_cmd.specs.declared.command.CmdError.{CmdError}
use Rattle.vm_outcome.specs.declared.outcome.Ending.{Ending}
use Rattle.vm_outcome.specs.declared.outcome.Ending.TheVariants as how
use Rattle.vm_outcome.specs.declared.outcome.Kept.{Kept}
use Rattle.vm_outcome.specs.Ends.{ending_status}
use Rattle.vm_outcome.specs.Telling.{IsRun}
use Rattle.vm_run.specs.Answer.{Does}
use Rattle.vm_run.specs.Refusing.{TellsRefusal, refusal_of}
use Rattle.vm_run.proofs.Limits.{limits}
use Rattle.vm_run.proofs.Refusing.{is_usage, no_usage, not_usage, spent_does, tells_refusal, told_refusal, usage_status}
use Rattle.vm_status.specs.declared.refusal.Refusal.{Refusal}
use Rattle.vm_status.specs.declared.refusal.Refusal.TheVariants.{Memory}
use Rattle.vm_run.proofs.top.vmrun.Goals as goal

-- ---- the words give a command

pub do_command-requires-after_bounds : goal.do_command-requires-after_bounds
do_command-requires-after_bounds g c κs within = limits (texts c.args.words.now) c.in-Ok.command c.in-Ok.ensures.command

pub returns-in-Ok-clause-does : goal.returns-in-Ok-clause-does
returns-in-Ok-clause-does g c = λ command says.
    let same : c.in-Ok.command ≡ command = (let s : Some c.in-Ok.command ≡ Some command = sym c.in-Ok.ensures.command ∙ says in cc) in
    subst (λ (x : Command). Does g.H.Host.seen g.S.Sink.seen g.L.Sink.seen x c.args.host.now c.do_command.new.host c.args.console.now c.do_command.new.console c.args.log.now c.do_command.new.log c.of.result.ending c.of.result.kept) same
    (subst (λ (e : Ending). Does g.H.Host.seen g.S.Sink.seen g.L.Sink.seen c.in-Ok.command c.args.host.now c.do_command.new.host c.args.console.now c.do_command.new.console c.args.log.now c.do_command.new.log e c.of.result.kept) (sym c.of.ensures.ending)
    (subst (λ (k : Option Kept). Does g.H.Host.seen g.S.Sink.seen g.L.Sink.seen c.in-Ok.command c.args.host.now c.do_command.new.host c.args.console.now c.do_command.new.console c.args.log.now c.do_command.new.log c.do_command.result.ending k) (sym c.of.ensures.kept)
    c.do_command.ensures))

pub returns-in-Ok-clause-usage : goal.returns-in-Ok-clause-usage
returns-in-Ok-clause-usage g c = λ none. absurd (let s : Some c.in-Ok.command ≡ None = sym c.in-Ok.ensures.command ∙ none in cc)

pub returns-in-Ok-clause-only_usage : goal.returns-in-Ok-clause-only_usage
returns-in-Ok-clause-only_usage g c = λ two. absurd (no_usage (ending_status c.do_command.result.ending) c.do_command.ensures.known (sym c.of.ensures.status ∙ two))

pub returns-in-Ok-clause-unused : goal.returns-in-Ok-clause-unused
returns-in-Ok-clause-unused g c = λ none. absurd (let s : Some c.in-Ok.command ≡ None = sym c.in-Ok.ensures.command ∙ none in cc)

-- ---- they give none, or memory is out

pub tell-requires : goal.tell-requires
tell-requires g c = subst (λ (k : Option Kept). IfSome k IsRun) (sym c.refused.ensures.kept) tt

pub returns-in-Err-clause-does : goal.returns-in-Err-clause-does
returns-in-Err-clause-does g c = λ command says.
    let memory = not_usage c.in-Err.error (λ u. absurd (let s : Some command ≡ None = sym says ∙ c.read.ensures.usage (c.in-Err.is ∙ ap {A = CmdError} {B = Result Command CmdError} (λ e. Err e) u) in cc)) in
    let before : c.refused.result.ending ≡ how.Refused Memory = c.refused.ensures.ending ∙ ap {A = Refusal} {B = Ending} (λ r. how.Refused r) memory in
    let said = told_refusal Memory c.refused.result.ending c.tell.result.ending c.refused.result.kept false c.args.log.now c.tell.new.log (g.L.Sink.seen c.args.log.now) (g.L.Sink.seen c.tell.new.log) before
    c.tell.ensures.told in
    subst (λ (e : Ending). Does g.H.Host.seen g.S.Sink.seen g.L.Sink.seen command c.args.host.now c.args.host.now c.args.console.now c.args.console.now c.args.log.now c.tell.new.log e c.of-in-Err.result.kept) (sym c.of-in-Err.ensures.ending)
    (subst (λ (k : Option Kept). Does g.H.Host.seen g.S.Sink.seen g.L.Sink.seen command c.args.host.now c.args.host.now c.args.console.now c.args.console.now c.args.log.now c.tell.new.log c.tell.result.ending k)
    (sym (c.of-in-Err.ensures.kept ∙ c.tell.ensures.kept ∙ c.refused.ensures.kept))
    (spent_does g.H.Host.seen g.S.Sink.seen g.L.Sink.seen c.args.host.now c.args.console.now c.args.log.now c.tell.new.log (λ told. g.met.H.Host.since_earlier c.args.host.now told) command c.tell.result.ending said))

pub returns-in-Err-clause-usage : goal.returns-in-Err-clause-usage
returns-in-Err-clause-usage g c = λ none.
    let said = told_refusal (refusal_of c.in-Err.error) c.refused.result.ending c.tell.result.ending c.refused.result.kept false c.args.log.now c.tell.new.log (g.L.Sink.seen c.args.log.now)
    (g.L.Sink.seen c.tell.new.log) c.refused.ensures.ending c.tell.ensures.told in
    subst (λ (n : ℕ). Contains (2 ∷ 71 ∷ []) n) (sym (c.of-in-Err.ensures.status ∙ ap ending_status said.0)) (usage_status c.in-Err.error)

pub returns-in-Err-clause-only_usage : goal.returns-in-Err-clause-only_usage
returns-in-Err-clause-only_usage g c = λ two.
    let said = told_refusal (refusal_of c.in-Err.error) c.refused.result.ending c.tell.result.ending c.refused.result.kept false c.args.log.now c.tell.new.log (g.L.Sink.seen c.args.log.now)
    (g.L.Sink.seen c.tell.new.log) c.refused.ensures.ending c.tell.ensures.told in
    c.read.ensures.usage (c.in-Err.is ∙ ap {A = CmdError} {B = Result Command CmdError} (λ e. Err e) (is_usage c.in-Err.error (sym (c.of-in-Err.ensures.status ∙ ap ending_status said.0) ∙ two)))

pub returns-in-Err-clause-unused : goal.returns-in-Err-clause-unused
returns-in-Err-clause-unused g c = λ none. (
  refl,
  refl,
  subst (λ (k : Option Kept). IsNone k) (sym (c.of-in-Err.ensures.kept ∙ c.tell.ensures.kept ∙ c.refused.ensures.kept)) refl,
  subst (λ (e : Ending). TellsRefusal e (g.L.Sink.seen c.args.log.now) (g.L.Sink.seen c.tell.new.log)) (sym c.of-in-Err.ensures.ending)
      (tells_refusal (refusal_of c.in-Err.error) c.refused.result.ending c.tell.result.ending c.refused.result.kept false c.args.log.now c.tell.new.log (g.L.Sink.seen c.args.log.now)
      (g.L.Sink.seen c.tell.new.log) c.refused.ensures.ending c.tell.ensures.told),
)
