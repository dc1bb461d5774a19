-- What the work of a command does, before the log is told how it ended.
use Rattle.std.specs.Prelude.{◌≡◌, ℕ, List, [], ◌∷◌, Option, IfSome, Contains}
use Rattle.vm_host.specs.Counts.{Rose}
use Rattle.vm_host.specs.Told.{WhereTold}
use Rattle.vm_host.specs.Leaves.{TakesSome}
use Rattle.vm_host.specs.Views.{HostView, SinkView}
use Rattle.vm_cmd.specs.declared.command.Command.{Command}
use Rattle.vm_outcome.specs.declared.outcome.Ending.{Ending}
use Rattle.vm_outcome.specs.declared.outcome.Ending.TheVariants.{Refused}
use Rattle.vm_outcome.specs.declared.outcome.Kept.{Kept}
use Rattle.vm_outcome.specs.Causes.{HasCauses, IsNamed, NoneRose}
use Rattle.vm_outcome.specs.Ends.{ending_status}
use Rattle.vm_outcome.specs.Outside.{IsEnd, outside}
use Rattle.vm_outcome.specs.Telling.{IsRun}
use Rattle.vm_run.specs.Answer.{Answers, Changes, CanDo, DisksOf, IsOrderlyOf, IsStartedBy, MustRefuse, NoneFailedOf, Untouched, done_statuses, sent_by}
use Rattle.vm_status.specs.declared.refusal.Refusal.TheVariants.{HostFault}

pub record Works {A B : Type 0} (see : A → HostView) (watch : B → SinkView) (command : Command)
    (host host_now : A) (console console_now : B) (ending : Ending) (kept : Option Kept) : Type 0 where
  pub answers : Answers command (outside (see host) (see host_now) (watch console) (watch console_now)) ending kept
  pub started : IfSome kept (λ k. IsStartedBy (see host) command k)
  pub run : IfSome kept (λ k. IsRun k)
  pub orderly : IfSome kept (λ k. IsOrderlyOf command k)
  pub console_part : IfSome kept (λ k. TakesSome (sent_by command k) (watch console) (watch console_now))
  pub untouched : Untouched command kept console console_now
  pub files : Changes command (see host) (see host_now)
  pub disks : IsEnd (ending_status ending) → IfSome kept (λ k. DisksOf command (see host) (see host_now) k)
  pub causes : HasCauses (ending_status ending) (see host) (see host_now) (watch console) (watch console_now)
  pub named : (name : List ℕ) → ending ≡ Refused (HostFault name) → IsNamed name (see host_now)
  pub complete : WhereTold (see host).tells (CanDo (see host).file command → NoneRose (see host) (see host_now) (watch console) (watch console_now)
      → Contains (done_statuses command) (ending_status ending))
  pub refusal : WhereTold (see host).tells (MustRefuse (see host).file command → NoneRose (see host) (see host_now) (watch console) (watch console_now)
      → Contains (3 ∷ 71 ∷ []) (ending_status ending))
  pub doubted : ending_status ending ≡ 8 → Rose (see host).image_faults (see host_now).image_faults
  pub sound_images : IsEnd (ending_status ending) → (Rose (see host).image_faults (see host_now).image_faults → ⊥) → IfSome kept (λ k. NoneFailedOf command k)
