-- What the log takes of a command that ended.
use Rattle.std.specs.Prelude.{◌≡◌, ℕ, ◌<◌, ◌≤◌, Bool, true, false, nat_lt, List, Option, Some, None}
use Rattle.std.specs.List.{list_any, range_with_len}
use Rattle.vm_host.specs.Counts.{Rose}
use Rattle.vm_host.specs.Leaves.{Takes, TakesSome}
use Rattle.vm_host.specs.Views.{SinkView}
use Rattle.vm_report.specs.Report.{report_text}
use Rattle.vm_state.specs.Machine.{drive_numbers}
use Rattle.vm_state.specs.Start.{IsSound}
use Rattle.vm_state.specs.State.{State}
use Rattle.vm_status.specs.Lines.{line_of}
use Rattle.vm_status.specs.declared.refusal.Refusal.{Refusal}
use Rattle.vm_status.specs.declared.refusal.Refusal.TheVariants.{Memory}
use Rattle.vm_table.specs.History.{IsLegal, last_state}
use Rattle.vm_table.specs.Tally.{tally_of}
use Rattle.vm_outcome.specs.declared.outcome.Ending.{Ending}
use Rattle.vm_outcome.specs.declared.outcome.Ending.TheVariants.{Done, Ran, Untold, Refused}
use Rattle.vm_outcome.specs.declared.outcome.Kept.{Kept}

-- a sector of a disk is in doubt
abbrev pub has_doubt : State → Bool
has_doubt s = list_any (λ d. nat_lt 0 (tally_of s d).doubt) (drive_numbers s.machine)

-- it is a run: its journal is a history from a sound start, and it is the state after that
pub record IsRun (k : Kept) : Type 0 where
  pub sound : IsSound k.start
  pub legal : IsLegal k.start k.journal
  pub last : k.run.state ≡ last_state k.start k.journal

-- its report, with the state of each vCPU where that is asked for
abbrev pub report_of : Kept → Bool → List ℕ
report_of k state = report_text k.run.state k.start.plan state

-- a line: the whole of it where the log's count didn't rise, and else a first part
pub record TakesLine (line : List ℕ) (old new : SinkView) : Type 0 where
  pub part : TakesSome line old new
  pub whole : (Rose old.faults new.faults → ⊥) → Takes line old new
  pub later : old.faults ≤ new.faults

-- what is said of a run, whose command ends so before that
pub data TellsRun (before : Ending) (k : Kept) (state : Bool) (ending : Ending) (old new : SinkView) : Type 0 where
  -- the log took its report
  told : ending ≡ before → Takes (report_of k state) old new → new.faults ≡ old.faults → TellsRun before k state ending old new
  -- it failed at that
  untold : ending ≡ Untold → TakesSome (report_of k state) old new → Rose old.faults new.faults → old.faults ≤ new.faults → TellsRun before k state ending old new
  -- memory is out
  spent : ending ≡ Refused Memory → TakesLine (line_of Memory) old new → TellsRun before k state ending old new

abbrev pub IsRefusal : Ending → Type 0
IsRefusal (Refused refusal) = Unit {0}
IsRefusal other = ⊥

-- what is said of a command that ends so before that
pub data Tells {L : Type 0} (before : Ending) (kept : Option Kept) (state : Bool) (ending : Ending) (log log_now : L) (old new : SinkView) : Type 0 where
  -- the line of a refusal
  refused : (refusal : Refusal) → before ≡ Refused refusal → ending ≡ before → TakesLine (line_of refusal) old new → Tells before kept state ending log log_now old new
  -- the report of the run
  ran : (k : Kept) → kept ≡ Some k → (IsRefusal before → ⊥) → TellsRun before k state ending old new → Tells before kept state ending log log_now old new
  -- nothing
  silent : kept ≡ None → (IsRefusal before → ⊥) → ending ≡ before → log_now ≡ log → Tells before kept state ending log log_now old new
