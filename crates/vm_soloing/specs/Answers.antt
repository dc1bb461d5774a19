-- What the commands that run a guest answer and keep.
use Rattle.std.specs.Prelude.{◌≡◌, ◌≢◌, ℕ, ◌<◌, Bool, true, List, [], length, Option, Some, None, Err}
use Rattle.vm_host.specs.Leaves.{Takes, LeavesSink}
use Rattle.vm_host.specs.Told.{WhereTold}
use Rattle.vm_host.specs.Views.{HostView}
use Rattle.vm_cmd.specs.declared.command.RunWords.{RunWords}
use Rattle.vm_journal.specs.Spelling.{spelling}
use Rattle.vm_law.specs.declared.journal.Signed.{Signed}
use Rattle.vm_outcome.specs.declared.outcome.Ending.{Ending}
use Rattle.vm_outcome.specs.declared.outcome.Ending.TheVariants.{Ran, Refused}
use Rattle.vm_outcome.specs.declared.outcome.Kept.{Kept}
use Rattle.vm_outcome.specs.Outside.{Outside, sent_in}
use Rattle.vm_outcome.specs.Telling.{has_doubt}
use Rattle.vm_solo.specs.Ending.{IsCutShort}
use Rattle.vm_start.specs.Images.{path_of}
use Rattle.vm_start.specs.Start.{StartOf}
use Rattle.vm_state.specs.declared.run_state.Why.{Why}
use Rattle.vm_state.specs.declared.run_state.Why.TheVariants.{Outside as EndedOutside}
use Rattle.vm_state.specs.declared.start.Start.{Start}
use Rattle.vm_status.specs.declared.refusal.Refusal.{Refusal}
use Rattle.vm_status.specs.declared.refusal.Refusal.TheVariants.{HostFault, Console, Memory}
use Rattle.vm_table.specs.History.{is_closed, last_state, why_ended}
use Rattle.vm_table.specs.Rounds.{IsSolo}

-- how the actors of a run are played: by the rounds of one thread, or each in a thread of its own
pub data Way : Type 0 where
  by_rounds : Way
  in_threads : Way

-- the history of a run that came to its end: by rounds it is theirs, where the calls of the disk images answered so; threads may
-- interleave in any way
abbrev pub GoesBy : Way → Start → List Signed → Type 0
GoesBy by_rounds start history = (calls : List Bool) × IsSolo start calls history
GoesBy in_threads start history = Unit {0}

-- and that of a run whose console failed, which ended so
abbrev pub IsCutBy : Way → Start → List Signed → Option Why → Type 0
IsCutBy by_rounds start history why = IsCutShort start history why
IsCutBy in_threads start history why = Unit {0}

-- the run came to its end, closed, and the console took all that its guest sent
pub record HasRun (way : Way) (o : Outside) (k : Kept) : Type 0 where
  pub went : GoesBy way k.start k.journal
  pub closed : is_closed k.start k.journal ≡ true
  pub no_fault : why_ended k.start k.journal ≢ Some EndedOutside
  pub wrote : Takes (sent_in k) o.console o.console_now

-- the journal stands in its file, if it was to be written to one
abbrev pub IsSaved : HostView → HostView → Option (List ℕ) → List Signed → Type 0
IsSaved old new None history = Unit {0}
IsSaved old new (Some name) history = WhereTold old.tells (new.file name ≡ Some (spelling history))

-- what a run answers that is kept, where its journal is to be written to the file of this name
pub data RunAnswers (way : Way) (o : Outside) (journal : Option (List ℕ)) (k : Kept) (ending : Ending) : Type 0 where
  -- the host didn't lend the file of a disk, and nothing was run
  unopened : k.journal ≡ [] → LeavesSink o.console o.console_now → (d : ℕ) → d < length k.start.plan.disks → ending ≡ Refused (HostFault (path_of k.start.plan d))
      → RunAnswers way o journal k ending
  -- it came to its end, and a sector of a disk is in doubt or none
  ran : HasRun way o k → (why : Why) → why_ended k.start k.journal ≡ Some why → ending ≡ Ran why (has_doubt (last_state k.start k.journal))
      → IsSaved o.host o.host_now journal k.journal → RunAnswers way o journal k ending
  -- it did, and the host refused its journal
  unsaved : HasRun way o k → (name : List ℕ) → journal ≡ Some name → ending ≡ Refused (HostFault name) → RunAnswers way o journal k ending
  -- the console refused what the guest sent; the run then ended by that, unless it had ended
  unwritten : is_closed k.start k.journal ≡ true → IsCutBy way k.start k.journal (why_ended k.start k.journal) → ending ≡ Refused Console
      → RunAnswers way o journal k ending
  -- memory is out
  spent : ending ≡ Refused Memory → RunAnswers way o journal k ending

-- what `solo` and `run` answer and keep
pub data GuestAnswers (way : Way) (o : Outside) (w : RunWords) (ending : Ending) (kept : Option Kept) : Type 0 where
  -- the files give no start: the first refusal
  unstarted : (refusal : Refusal) → kept ≡ None → StartOf o.host.tells o.host.file w w.journal (Err refusal) → ending ≡ Refused refusal → GuestAnswers way o w ending kept
  -- the run began
  began : (k : Kept) → kept ≡ Some k → RunAnswers way o w.journal k ending → GuestAnswers way o w ending kept
  -- memory is out
  spent : ending ≡ Refused Memory → GuestAnswers way o w ending kept
