-- What replays answer.
use Rattle.std.proofs.Common.{◌≡◌, ◌≢◌, ◌<◌, ◌≤◌, inl, inr, ◌⊎◌, ℕ, true, List, [], take, Option, Some, None, IfSome, IfNone, Ok, Err, refl, sym, subst, ◌∙◌, ap, arith}
use Rattle.vm_law.specs.declared.journal.Signed.{Signed}
use Rattle.vm_host.specs.Counts.{Rose}
use Rattle.vm_host.specs.Leaves.{ReadsHost, LeavesSink, TakesSome}
use Rattle.vm_host.specs.Views.{HostView, SinkView}
use Rattle.vm_host.proofs.Frames.{leaves_is_some}
use Rattle.vm_cmd.specs.declared.command.RunWords.{RunWords}
use Rattle.vm_journal.specs.Replaying.{IsFirstBad}
use Rattle.vm_outcome.specs.declared.outcome.Ending.{Ending}
use Rattle.vm_outcome.specs.declared.outcome.Ending.TheVariants as how
use Rattle.vm_outcome.specs.declared.outcome.Kept.{Kept}
use Rattle.vm_outcome.specs.Causes.{HasCauses, HasHostCauses, HasSinkCauses, IsNamed}
use Rattle.vm_outcome.specs.Ends.{ending_status}
use Rattle.vm_outcome.specs.Files.{IsFileOf, IsRefusedAt, Unread, bad, missing, failed, spent}
use Rattle.vm_outcome.specs.Outside.{outside, sent_in, StartsAt}
use Rattle.vm_outcome.specs.Telling.{IsRun}
use Rattle.vm_replaying.specs.Answers as answer
use Rattle.vm_replaying.specs.Answers.{HistoryAnswers, JournalAnswers, ReplayAnswers}
use Rattle.vm_replaying.specs.Files.{IsJournal, IsJournalFault}
use Rattle.vm_replaying.specs.Keeping.{IsRunFrom}
use Rattle.vm_start.specs.Start.{StartOf}
use Rattle.vm_state.specs.declared.start.Start.{Start}
use Rattle.vm_status.specs.Lines.{status_of}
use Rattle.vm_status.specs.declared.kind.Kind.{Kind}
use Rattle.vm_status.specs.declared.kind.Kind.TheVariants as kinds
use Rattle.vm_status.specs.declared.refusal.Refusal.{Refusal}
use Rattle.vm_status.specs.declared.refusal.Refusal.TheVariants.{Bad, HostFault, Missing, Memory}
use Rattle.vm_status.specs.declared.role.Role.TheVariants as roles

-- a console that nobody called
pub silent : (console : SinkView) → LeavesSink console console
silent console = record { told = refl; taken = λ _. refl }

pub kept_silent : (console : SinkView) (kept : Option Kept) → IfSome kept (λ k. TakesSome (sent_in k) console console)
kept_silent console None = tt
kept_silent console (Some k) = leaves_is_some console console (sent_in k) (silent console)

-- what is kept before the first entry that isn't lawful
pub front_answers : (console : SinkView) (start : Start) (name : List ℕ) (history : List Signed) (at : ℕ) (ending : Ending) (kept : Option Kept) → IsFirstBad start history at
    → IfNone kept (ending ≡ how.Refused Memory) → IfSome kept (λ _. ending ≡ how.Refused (Bad roles.Journal name at kinds.Entry)) → IfSome kept (λ k. IsRunFrom start k) → IfSome kept (λ k. k.journal ≡ take at history)
    → HistoryAnswers console console name history ending kept
front_answers console start name history at ending None first none some begins front = answer.spent none
front_answers console start name history at ending (Some k) first none some begins front =
    answer.unlawful k at refl (subst (λ (s : Start). IsFirstBad s history at) (sym begins.start) first) front (silent console) some

as_ending : (a b : Refusal) → a ≡ b → how.Refused a ≡ how.Refused b
as_ending a b e = ap {A = Refusal} {B = Ending} (λ r. how.Refused r) e

module _ (old new : HostView) where
  -- a journal that wasn't read
  pub no_journal : (console : SinkView) (journal : List ℕ) (k : Kept) (refusal : Refusal) → k.journal ≡ []
      → Unread old.tells (old.file journal) roles.Journal journal IsJournal IsJournalFault refusal
      → JournalAnswers (outside old new console console) journal (how.Refused refusal) (Some k)
  no_journal console journal k refusal none (bad at kind is refused) = answer.unspelled k refl none at kind refused (silent console) (as_ending _ _ is)
  no_journal console journal k refusal none (missing is gone) = answer.absent k refl none gone (silent console) (as_ending _ _ is)
  no_journal console journal k refusal none (failed is) = answer.unread k refl none (silent console) (as_ending _ _ is)
  no_journal console journal k refusal none (spent is) = answer.spent (as_ending _ _ is)

  -- the host's failure was one on that file
  pub journal_named : (journal : List ℕ) (refusal : Refusal) (name : List ℕ)
      → Unread old.tells (old.file journal) roles.Journal journal IsJournal IsJournalFault refusal → HasHostCauses journal (status_of refusal) old new
      → how.Refused refusal ≡ how.Refused (HostFault name) → IsNamed name new
  journal_named journal refusal name (bad at kind is refused) causes e = absurd (let x : how.Refused (Bad roles.Journal journal at kind) ≡ how.Refused (HostFault name) = as_ending _ _ (sym is) ∙ e in cc)
  journal_named journal refusal name (missing is gone) causes e = absurd (let x : how.Refused (Missing journal) ≡ how.Refused (HostFault name) = as_ending _ _ (sym is) ∙ e in cc)
  journal_named journal refusal name (spent is) causes e = absurd (let x : how.Refused Memory ≡ how.Refused (HostFault name) = as_ending _ _ (sym is) ∙ e in cc)
  journal_named journal refusal name (failed is) causes e =
      let x : how.Refused (HostFault journal) ≡ how.Refused (HostFault name) = as_ending _ _ (sym is) ∙ e in
      let same : journal ≡ name = cc in
      subst (λ (n : List ℕ). IsNamed n new) same (causes.named (ap status_of is))

-- the start wasn't read
pub no_start : (old new : HostView) (console : SinkView) (w : RunWords) (journal : List ℕ) (refusal : Refusal)
    → (refusal ≡ Memory) ⊎ StartOf old.tells old.file w (Some journal) (Err refusal) → ReplayAnswers (outside old new console console) w journal (how.Refused refusal) None
no_start old new console w journal refusal (inl is) = answer.began (answer.spent (as_ending _ _ is))
no_start old new console w journal refusal (inr is) = answer.unstarted refusal refl is refl

module _ (old mid : HostView) (same : ReadsHost old mid) (name : List ℕ) where
  same_file : {X : Type 0} (Means : List ℕ → X → Type 0) (x : X) → IsFileOf mid.tells (mid.file name) Means x → IsFileOf old.tells (old.file name) Means x
  same_file Means x f = record {
    bytes = f.bytes;
    is_file = λ t. ap (λ F. F name) (sym (same.files t)) ∙ f.is_file (same.told ∙ t);
    means = f.means;
  }

  same_refused : {X : Type 0} (Means : List ℕ → X → Type 0) (IsFirst : List ℕ → ℕ → Kind → Type 0) (at : ℕ) (kind : Kind) → IsRefusedAt mid.tells (mid.file name) Means IsFirst at kind → IsRefusedAt old.tells (old.file name) Means IsFirst at kind
  same_refused Means IsFirst at kind r = record {
    bytes = r.bytes;
    is_file = λ t. ap (λ F. F name) (sym (same.files t)) ∙ r.is_file (same.told ∙ t);
    none = r.none;
    first = r.first;
  }

  -- the files stay while the start is read
  moved : (new : HostView) (console console_now : SinkView) (ending : Ending) (kept : Option Kept)
      → JournalAnswers (outside mid new console console_now) name ending kept → JournalAnswers (outside old new console console_now) name ending kept
  moved new console console_now ending kept (answer.read history file h) = answer.read history (same_file IsJournal history file) h
  moved new console console_now ending kept (answer.unspelled k is none at kind refused still e) =
      answer.unspelled k is none at kind (same_refused IsJournal IsJournalFault at kind refused) still e
  moved new console console_now ending kept (answer.absent k is none gone still e) =
      answer.absent k is none (λ t. ap (λ F. F name) (sym (same.files t)) ∙ gone (same.told ∙ t)) still e
  moved new console console_now ending kept (answer.unread k is none still e) = answer.unread k is none still e
  moved new console console_now ending kept (answer.spent e) = answer.spent e

  pub replay_began : (new : HostView) (console console_now : SinkView) (w : RunWords) (ending : Ending) (kept : Option Kept)
      → JournalAnswers (outside mid new console console_now) name ending kept → ReplayAnswers (outside old new console console_now) w name ending kept
  replay_began new console console_now w ending kept answers = answer.began (moved new console console_now ending kept answers)

-- what is kept of a replay is from its start
pub starts_at : (first start : Start) (ending : Ending) (kept : Option Kept) → first ≡ start → IfNone kept (ending ≡ how.Refused Memory) → IfSome kept (λ k. IsRunFrom first k) → StartsAt start ending kept
starts_at first start ending None same out from = out
starts_at first start ending (Some k) same out from = from.start ∙ same

pub is_run : (first : Start) (kept : Option Kept) → IfSome kept (λ k. IsRunFrom first k) → IfSome kept (λ k. IsRun k)
is_run first None from = tt
is_run first (Some k) from = from.run

pub is_start : (Means : Start → Type 0) (first : Start) (kept : Option Kept) → Means first → IfSome kept (λ k. IsRunFrom first k) → IfSome kept (λ k. Means k.start)
is_start Means first None means from = tt
is_start Means first (Some k) means from = subst Means (sym from.start) means
