-- What `show` answers, from the reading of its plan and what the console took.
use Rattle.std.proofs.Common.{◌≡◌, ◌⊎◌, inl, inr, ℕ, List, [], ◌∷◌, Contains, Err, refl, sym, ap, arith}
use Rattle.vm_host.specs.Views.{HostView, SinkView}
use Rattle.vm_law.specs.declared.plan.Plan.{Plan}
use Rattle.vm_outcome.specs.declared.outcome.Ending.{Ending}
use Rattle.vm_outcome.specs.declared.outcome.Ending.TheVariants as how
use Rattle.vm_outcome.specs.Causes.{HasSinkCauses, IsNamed, NoneRose}
use Rattle.vm_outcome.specs.Ends.{ending_status}
use Rattle.vm_outcome.specs.Outside.{outside}
use Rattle.vm_replaying.proofs.Starting.{as_ending}
use Rattle.vm_replaying.proofs.Starts.{of_files_no_console, plan_of_files}
use Rattle.vm_run.specs.Showing as show_answer
use Rattle.vm_run.specs.Showing.{Shows, ShowAnswers}
use Rattle.vm_start.specs.Start.{PlanOf, IsPlanOf}
use Rattle.vm_status.specs.Lines.{status_of}
use Rattle.vm_status.specs.declared.refusal.Refusal.{Refusal}
use Rattle.vm_status.specs.declared.refusal.Refusal.TheVariants as refusal

-- ---- a plan was read

module _ (old new : HostView) (console console_now : SinkView) (ending : Ending) where
  pub plan_shown : (config : List ℕ) (plan : Plan) → IsPlanOf old.tells old.file config plan → Shows plan console console_now ending → ShowAnswers (outside old new console console_now) config ending
  plan_shown config plan is (show_answer.written takes e) = show_answer.shown plan is takes e
  plan_shown config plan is (show_answer.cut part e) = show_answer.unwritten plan is part e
  plan_shown config plan is (show_answer.unread still e) = show_answer.spent still e

  pub plan_done : (plan : Plan) → HasSinkCauses (ending_status ending) console console_now → NoneRose old new console console_now → Shows plan console console_now ending → Contains (0 ∷ 71 ∷ []) (ending_status ending)
  plan_done plan causes calm (show_answer.written takes e) = (0, omega arith, sym (ap ending_status e))
  plan_done plan causes calm (show_answer.cut part e) = absurd (calm.not_unwritten (causes.unwritten (ap ending_status e)))
  plan_done plan causes calm (show_answer.unread still e) = (1, omega arith, sym (ap ending_status e))

  pub no_host_named : (name : List ℕ) → HasSinkCauses (ending_status ending) console console_now → ending ≡ how.Refused (refusal.HostFault name) → IsNamed name new
  no_host_named name causes e = absurd (causes.no_host.0 (ap ending_status e))

-- ---- the file gives none

pub no_plan : (old new : HostView) (console : SinkView) (config : List ℕ) (r : Refusal) → (r ≡ refusal.Memory) ⊎ PlanOf old.tells old.file config (Err r)
    → ShowAnswers (outside old new console console) config (how.Refused r)
no_plan old new console config r (inl is) = show_answer.spent (record { told = refl; taken = λ told. refl }) (as_ending r refusal.Memory is)
no_plan old new console config r (inr is) = show_answer.refused r is (record { told = refl; taken = λ told. refl }) refl

pub plan_no_console : (old : HostView) (config : List ℕ) (r : Refusal) → (r ≡ refusal.Memory) ⊎ PlanOf old.tells old.file config (Err r) → status_of r ≡ 9 → ⊥
plan_no_console old config r (inl is) nine = omega (arith, ap status_of is, nine)
plan_no_console old config r (inr is) nine = of_files_no_console r (plan_of_files old.tells old.file config r is) nine

pub plan_spent : (r : Refusal) → r ≡ refusal.Memory → Contains (0 ∷ 71 ∷ []) (status_of r)
plan_spent r e = (1, omega arith, sym (ap status_of e))
