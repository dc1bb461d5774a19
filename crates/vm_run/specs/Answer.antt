-- What a command does, clause by clause.
use Rattle.std.specs.Prelude.{◌≡◌, ◌≢◌, ◌⊎◌, ◌<◌, ℕ, zero, true, List, [], ◌∷◌, ◌++◌, Option, Some, None, Err, IfSome, IfNone, Contains, option_map}
use Rattle.vm_host.specs.Counts.{Rose}
use Rattle.vm_host.specs.Told.{WhereTold}
use Rattle.vm_host.specs.Leaves.{LeavesSink, ReadsHost, WritesFile, Takes, TakesSome}
use Rattle.vm_host.specs.Views.{HostView, SinkView}
use Rattle.vm_cmd.specs.Word.{Word}
use Rattle.vm_cmd.specs.declared.command.Command.{Command}
use Rattle.vm_cmd.specs.declared.command.Command.TheVariants.{Run, Solo, Replay, Show, Asm, Make}
use Rattle.vm_cmd.specs.declared.command.RunWords.{RunWords}
use Rattle.vm_law.specs.declared.image.FlatImage.{FlatImage}
use Rattle.vm_law.specs.declared.journal.Signed.{Signed}
use Rattle.vm_law.specs.declared.plan.Plan.{Plan}
use Rattle.vm_laws.specs.Laws.{Laws}
use Rattle.vm_making.specs.Answers.{MakeAnswers}
use Rattle.vm_making.specs.Line.{total_line}
use Rattle.vm_making.specs.Start.{IsStartOf as IsMadeFrom}
use Rattle.vm_outcome.specs.declared.outcome.Ending.{Ending}
use Rattle.vm_outcome.specs.declared.outcome.Ending.TheVariants.{Refused}
use Rattle.vm_outcome.specs.declared.outcome.Kept.{Kept}
use Rattle.vm_outcome.specs.Causes.{IsNamed, NoneRose}
use Rattle.vm_outcome.specs.Ends.{ending_status, why_status}
use Rattle.vm_outcome.specs.Outside.{IsEnd, Outside, outside, sent_in}
use Rattle.vm_outcome.specs.Telling.{IsRun, Tells, has_doubt, report_of}
use Rattle.vm_replaying.specs.Answers.{ReplayAnswers}
use Rattle.vm_replaying.specs.Files.{IsJournal}
use Rattle.vm_assembling.specs.Answers.{AsmAnswers}
use Rattle.vm_assembling.specs.Assembling.{IsAssembly}
use Rattle.vm_outcome.specs.Files.{IsFileOf, IsRefused}
use Rattle.vm_run.specs.Showing.{ShowAnswers}
use Rattle.vm_run.specs.Words.{asks_state, unbuilt}
use Rattle.vm_soloing.specs.Answers.{GuestAnswers, IsSaved, by_rounds, in_threads}
use Rattle.vm_soloing.specs.Disks.{ChangesOwn, HoldDisks}
use Rattle.vm_soloing.specs.Keeping.{NoneFailed}
use Rattle.vm_start.specs.Start.{StartOf, IsStartOf, PlanOf, IsPlanOf}
use Rattle.vm_state.specs.declared.start.Start.{Start}
use Rattle.vm_status.specs.declared.kind.Kind.TheVariants.{Later}
use Rattle.vm_status.specs.declared.refusal.Refusal.{Refusal}
use Rattle.vm_status.specs.declared.refusal.Refusal.TheVariants.{Bad, HostFault, Memory}
use Rattle.vm_status.specs.declared.role.Role.TheVariants as roles
use Rattle.vm_table.specs.History.{IsLegal, is_closed, last_state, why_ended}
use Rattle.vm_table.specs.Turns.{IsOrderly}

-- ---- how a command's work ends, with each refusal's file, place and kind

pub data Answers (command : Command) (o : Outside) (ending : Ending) (kept : Option Kept) : Type 0 where
  ran_solo : (w : RunWords) → command ≡ Solo w → GuestAnswers by_rounds o w ending kept → Answers command o ending kept
  ran_threads : (w : RunWords) → command ≡ Run w → GuestAnswers in_threads o w ending kept → Answers command o ending kept
  ran_replay : (w : RunWords) (journal : Word) → command ≡ Replay w journal → ReplayAnswers o w journal ending kept → Answers command o ending kept
  ran_show : (config : Word) → command ≡ Show config → kept ≡ None → ShowAnswers o config ending → Answers command o ending kept
  ran_asm : (file out : Word) → command ≡ Asm file out → kept ≡ None → AsmAnswers o.host o.host_now file out ending → Answers command o ending kept
  ran_make : (cpus number : ℕ) → command ≡ Make cpus number → MakeAnswers cpus number o.console o.console_now ending kept → Answers command o ending kept
  -- the command isn't built yet
  unbuilt_yet : (word : Word) → unbuilt command ≡ Some word → kept ≡ None → ending ≡ Refused (Bad roles.Start word 0 Later) → Answers command o ending kept
  -- memory is out
  spent : kept ≡ None → ending ≡ Refused Memory → Answers command o ending kept

-- ---- the run that is kept

-- it began at the start that the words and the files as they stood give, that of `make` at the one that its numbers give; no
-- other command keeps a run
abbrev pub IsStartedBy : HostView → Command → Kept → Type 0
IsStartedBy host (Solo w) k = IsStartOf host.tells host.file w w.journal k.start
IsStartedBy host (Run w) k = IsStartOf host.tells host.file w w.journal k.start
IsStartedBy host (Replay w journal) k = IsStartOf host.tells host.file w (Some journal) k.start
IsStartedBy host (Make cpus number) k = IsMadeFrom cpus number k.start
IsStartedBy host other k = ⊥

-- none is kept: the files give no start, by this refusal, or memory is out
abbrev pub NoStart : HostView → RunWords → Option (List ℕ) → Ending → Type 0
NoStart host w journal ending = (ending_status ending ≡ 71) ⊎ ((refusal : Refusal) × StartOf host.tells host.file w journal (Err refusal) × (ending ≡ Refused refusal))

abbrev pub IsUnstartedBy : HostView → Command → Ending → Type 0
IsUnstartedBy host (Solo w) ending = NoStart host w w.journal ending
IsUnstartedBy host (Run w) ending = NoStart host w w.journal ending
IsUnstartedBy host (Replay w journal) ending = NoStart host w (Some journal) ending
IsUnstartedBy host (Make cpus number) ending = ending_status ending ≡ 71
IsUnstartedBy host other ending = Unit {0}

-- a history of `solo`, `run` and `make` is what passes add in orderly turns
abbrev pub IsOrderlyOf : Command → Kept → Type 0
IsOrderlyOf (Solo w) k = IsOrderly k.start k.journal
IsOrderlyOf (Run w) k = IsOrderly k.start k.journal
IsOrderlyOf (Make cpus number) k = IsOrderly k.start k.journal
IsOrderlyOf other k = Unit {0}

-- and it is closed, unless memory ran out or a disk's file couldn't be opened
abbrev pub IsClosedBy : Command → ℕ → Kept → Type 0
IsClosedBy (Solo w) status k = status ≢ 71 → (is_closed k.start k.journal ≡ true) ⊎ ((status ≡ 6) × (k.journal ≡ []))
IsClosedBy (Run w) status k = status ≢ 71 → (is_closed k.start k.journal ≡ true) ⊎ ((status ≡ 6) × (k.journal ≡ []))
IsClosedBy (Make cpus number) status k = status ≢ 71 → is_closed k.start k.journal ≡ true
IsClosedBy other status k = Unit {0}

-- ---- what it leaves outside

-- where no run is kept only `show` writes to the console
abbrev pub Untouched : {B : Type 0} → Command → Option Kept → B → B → Type 0
Untouched (Show config) kept console console_now = Unit {0}
Untouched other kept console console_now = IfNone kept (console_now ≡ console)

-- what a command sends to the console: what its guest sent, and `make` then the line of the total
abbrev pub sent_by : Command → Kept → List ℕ
sent_by (Make cpus number) k = sent_in k ++ total_line cpus number
sent_by other k = sent_in k

-- the console took all of it; the line of the total comes at status 0 alone
abbrev pub TakesAll : Command → ℕ → Kept → SinkView → SinkView → Type 0
TakesAll (Make cpus number) zero k old new = Takes (sent_in k ++ total_line cpus number) old new
TakesAll other status k old new = Takes (sent_in k) old new

-- the run that the log is told of: none of `make`
abbrev pub reported : Command → Option Kept → Option Kept
reported (Make cpus number) kept = None
reported other kept = kept

-- what the log took of a run whose work was done
abbrev pub TakesReport : Command → Kept → SinkView → SinkView → Type 0
TakesReport (Make cpus number) k old new = LeavesSink old new
TakesReport other k old new = Takes (report_of k (asks_state other)) old new

-- what may change among the files
abbrev pub Changes : Command → HostView → HostView → Type 0
Changes (Solo w) old new = ChangesOwn w old new
Changes (Run w) old new = ChangesOwn w old new
Changes (Asm file out) old new = WritesFile out old new
Changes other old new = ReadsHost old new

-- a run that ended so left each disk's file as its history has the disk, where the host's files tell their bytes
abbrev pub DisksOf : Command → HostView → HostView → Kept → Type 0
DisksOf (Solo w) old new k = WhereTold old.tells (HoldDisks old.file new.file k)
DisksOf (Run w) old new k = WhereTold old.tells (HoldDisks old.file new.file k)
DisksOf other old new k = Unit {0}

-- and its journal in its file
abbrev pub JournalOf : Command → HostView → HostView → Kept → Type 0
JournalOf (Solo w) old new k = IsSaved old new w.journal k.journal
JournalOf (Run w) old new k = IsSaved old new w.journal k.journal
JournalOf other old new k = Unit {0}

-- and where no image of the host came back with a failure, no call of one failed
abbrev pub NoneFailedOf : Command → Kept → Type 0
NoneFailedOf (Solo w) k = NoneFailed k
NoneFailedOf (Run w) k = NoneFailed k
NoneFailedOf other k = Unit {0}

-- ---- statuses

-- the status of a closed run: why it ended, and whether a sector of a disk is in doubt
abbrev pub status_of_run : Kept → Option ℕ
status_of_run k = option_map (λ why. why_status why (has_doubt (last_state k.start k.journal))) (why_ended k.start k.journal)

abbrev pub HasStatus : Command → ℕ → Kept → Type 0
HasStatus (Solo w) status k = status_of_run k ≡ Some status
HasStatus (Run w) status k = status_of_run k ≡ Some status
HasStatus (Make cpus number) status k = status_of_run k ≡ Some status
HasStatus other status k = status ≡ 0

-- The counts behind statuses: those of a host, a console and a log. Of the images of a host one has failed where a sector is
-- left in doubt. And no count of host or console rises without a status for it: the first failure decides.
pub record HasTopCauses (status : ℕ) (old new : HostView) (console console_now log log_now : SinkView) : Type 0 where
  pub failed : status ≡ 6 → Rose old.faults new.faults
  pub missing : status ≡ 7 → Rose old.misses new.misses
  pub doubted : status ≡ 8 → Rose old.image_faults new.image_faults
  pub unwritten : status ≡ 9 → Rose console.faults console_now.faults ⊎ Rose log.faults log_now.faults
  pub only_failed : old.faults < new.faults → (status ≡ 6) ⊎ (status ≡ 9)
  pub only_missing : old.misses < new.misses → status ≡ 7
  pub only_unwritten : console.faults < console_now.faults → (status ≡ 9) ⊎ (status ≡ 71)

-- the statuses of a command whose words are right
abbrev pub statuses : List ℕ
statuses = 0 ∷ 3 ∷ 4 ∷ 5 ∷ 6 ∷ 7 ∷ 8 ∷ 9 ∷ 71 ∷ []

-- ---- what can be done is done

-- the files give what the command asks for
abbrev pub CanDo : (List ℕ → Option (List ℕ)) → Command → Type 0
CanDo files (Solo w) = (start : Start) × IsStartOf true files w w.journal start
CanDo files (Run w) = (start : Start) × IsStartOf true files w w.journal start
CanDo files (Replay w journal) =
    (start : Start) × (history : List Signed) × IsStartOf true files w (Some journal) start × IsFileOf true (files journal) IsJournal history × IsLegal start history
CanDo files (Show config) = (plan : Plan) × IsPlanOf true files config plan
CanDo files (Asm file out) = (f : FlatImage) × IsFileOf true (files file) IsAssembly f
CanDo files (Make cpus number) = Unit {0}
CanDo files other = ⊥

-- the statuses of what can be done, where nothing outside refuses
abbrev pub done_statuses : Command → List ℕ
done_statuses (Solo w) = 0 ∷ 4 ∷ 5 ∷ 8 ∷ 71 ∷ []
done_statuses (Run w) = 0 ∷ 4 ∷ 5 ∷ 8 ∷ 71 ∷ []
done_statuses (Make cpus number) = 0 ∷ 4 ∷ 5 ∷ 71 ∷ []
done_statuses other = 0 ∷ 71 ∷ []

-- a refusal that isn't a failure of the host
abbrev pub IsOfFiles : Refusal → Type 0
IsOfFiles e = (name : List ℕ) → e ≡ HostFault name → ⊥

-- the files don't give what the command asks for
abbrev pub MustRefuse : (List ℕ → Option (List ℕ)) → Command → Type 0
MustRefuse files (Solo w) = (e : Refusal) × StartOf true files w w.journal (Err e) × IsOfFiles e
MustRefuse files (Run w) = (e : Refusal) × StartOf true files w w.journal (Err e) × IsOfFiles e
MustRefuse files (Replay w journal) =
    ((e : Refusal) × StartOf true files w (Some journal) (Err e) × IsOfFiles e)
    ⊎ ((start : Start) × IsStartOf true files w (Some journal) start
    × (IsRefused true (files journal) IsJournal ⊎ ((history : List Signed) × IsFileOf true (files journal) IsJournal history × (IsLegal start history → ⊥))))
MustRefuse files (Show config) = (e : Refusal) × PlanOf true files config (Err e) × IsOfFiles e
MustRefuse files (Asm file out) = IsRefused true (files file) IsAssembly
MustRefuse files (Make cpus number) = ⊥
MustRefuse files other = Unit {0}

-- ---- the whole

-- `see` and `watch` are how a host, and a console or a log, are seen.
pub record Does {A B L : Type 0} (see : A → HostView) (watch : B → SinkView) (heed : L → SinkView) (command : Command)
    (host host_now : A) (console console_now : B) (log log_now : L) (ending : Ending) (kept : Option Kept) : Type 0 where
  -- how its work ended, each refusal with its file, its place and its kind, and what was then said of it to the log: the line
  -- of a refusal, or the report
  pub before : Ending
  pub answers : Answers command (outside (see host) (see host_now) (watch console) (watch console_now)) before kept
  pub told : Tells before (reported command kept) (asks_state command) ending log log_now (heed log) (heed log_now)
  -- a run is kept where a start was made: it began at the start of words and files, its journal is a history, and it is the
  -- state after it
  pub started : IfSome kept (λ k. IsStartedBy (see host) command k)
  pub unstarted : IfNone kept (IsUnstartedBy (see host) command ending)
  pub run : IfSome kept (λ k. IsRun k)
  pub orderly : IfSome kept (λ k. IsOrderlyOf command k)
  pub closed : IfSome kept (λ k. IsClosedBy command (ending_status ending) k)
  -- the console took a first part of what the command sends to it, and all of it where the work was done
  pub console_part : IfSome kept (λ k. TakesSome (sent_by command k) (watch console) (watch console_now))
  pub console_all : IsEnd (ending_status ending) → IfSome kept (λ k. TakesAll command (ending_status ending) k (watch console) (watch console_now))
  pub untouched : Untouched command kept console console_now
  -- only files of the command change; where a run was done disks and journal follow its history
  pub files : Changes command (see host) (see host_now)
  pub disks : IsEnd (ending_status ending) → IfSome kept (λ k. DisksOf command (see host) (see host_now) k)
  pub journal : IsEnd (ending_status ending) → IfSome kept (λ k. JournalOf command (see host) (see host_now) k)
  -- the status is the run's, and the log took its report and nothing else; that of `make` has none
  pub known : Contains statuses (ending_status ending)
  pub status : IsEnd (ending_status ending) → IfSome kept (λ k. HasStatus command (ending_status ending) k)
  pub report : IsEnd (ending_status ending) → IfSome kept (λ k. TakesReport command k (heed log) (heed log_now))
  -- other statuses have their causes
  pub causes : HasTopCauses (ending_status ending) (see host) (see host_now) (watch console) (watch console_now) (heed log) (heed log_now)
  pub named : (name : List ℕ) → ending ≡ Refused (HostFault name) → IsNamed name (see host_now)
  -- what the files allow is done where nobody refuses
  pub complete : WhereTold (see host).tells (CanDo (see host).file command → NoneRose (see host) (see host_now) (watch console) (watch console_now)
      → (Rose (heed log).faults (heed log_now).faults → ⊥) → Contains (done_statuses command) (ending_status ending))
  -- and what they don't allow is refused
  pub refusal : WhereTold (see host).tells (MustRefuse (see host).file command → NoneRose (see host) (see host_now) (watch console) (watch console_now)
      → Contains (3 ∷ 71 ∷ []) (ending_status ending))
  -- where no image came back with a failure no call of one failed
  pub sound_images : IsEnd (ending_status ending) → (Rose (see host).image_faults (see host_now).image_faults → ⊥) → IfSome kept (λ k. NoneFailedOf command k)
  -- the laws of histories hold of what is kept
  pub laws : IfSome kept (λ k. Laws k.start k.journal)
