-- What `show` answers.
use Rattle.std.specs.Prelude.{◌≡◌, ℕ, List, Err}
use Rattle.vm_host.specs.Leaves.{LeavesSink, Takes, TakesSome}
use Rattle.vm_host.specs.Views.{SinkView}
use Rattle.vm_law.specs.declared.plan.Plan.{Plan}
use Rattle.vm_outcome.specs.declared.outcome.Ending.{Ending}
use Rattle.vm_outcome.specs.declared.outcome.Ending.TheVariants.{Done, Refused}
use Rattle.vm_outcome.specs.Outside.{Outside}
use Rattle.vm_report.specs.PlanText.{plan_text}
use Rattle.vm_start.specs.Start.{PlanOf, IsPlanOf}
use Rattle.vm_status.specs.declared.refusal.Refusal.{Refusal}
use Rattle.vm_status.specs.declared.refusal.Refusal.TheVariants.{Console, Memory}

-- what the writing of a plan to a console ends with
pub data Shows (plan : Plan) (old new : SinkView) (ending : Ending) : Type 0 where
  written : Takes (plan_text plan) old new → ending ≡ Done → Shows plan old new ending
  cut : TakesSome (plan_text plan) old new → ending ≡ Refused Console → Shows plan old new ending
  unread : LeavesSink old new → ending ≡ Refused Memory → Shows plan old new ending

pub data ShowAnswers (o : Outside) (config : List ℕ) (ending : Ending) : Type 0 where
  -- the console took the plan in the file
  shown : (plan : Plan) → IsPlanOf o.host.tells o.host.file config plan → Takes (plan_text plan) o.console o.console_now → ending ≡ Done → ShowAnswers o config ending
  -- it refused some of that
  unwritten : (plan : Plan) → IsPlanOf o.host.tells o.host.file config plan → TakesSome (plan_text plan) o.console o.console_now → ending ≡ Refused Console
      → ShowAnswers o config ending
  -- the file gives no plan: the first refusal
  refused : (refusal : Refusal) → PlanOf o.host.tells o.host.file config (Err refusal) → LeavesSink o.console o.console_now → ending ≡ Refused refusal → ShowAnswers o config ending
  -- memory is out
  spent : LeavesSink o.console o.console_now → ending ≡ Refused Memory → ShowAnswers o config ending
