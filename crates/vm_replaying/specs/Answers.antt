-- What replays answer and keep.
use Rattle.std.specs.Prelude.{◌≡◌, ℕ, List, [], take, Option, Some, None, Err}
use Rattle.vm_host.specs.Leaves.{LeavesSink, Takes, TakesSome}
use Rattle.vm_host.specs.Told.{WhereTold}
use Rattle.vm_host.specs.Views.{SinkView}
use Rattle.vm_cmd.specs.declared.command.RunWords.{RunWords}
use Rattle.vm_journal.specs.Replaying.{IsFirstBad}
use Rattle.vm_law.specs.declared.journal.Signed.{Signed}
use Rattle.vm_outcome.specs.declared.outcome.Ending.{Ending}
use Rattle.vm_outcome.specs.declared.outcome.Ending.TheVariants.{Done, Refused}
use Rattle.vm_outcome.specs.declared.outcome.Kept.{Kept}
use Rattle.vm_outcome.specs.Outside.{Outside, sent_in}
use Rattle.vm_outcome.specs.Files.{IsFileOf, IsRefusedAt}
use Rattle.vm_replaying.specs.Files.{IsJournal, IsJournalFault}
use Rattle.vm_start.specs.Start.{StartOf}
use Rattle.vm_status.specs.declared.kind.Kind.{Kind}
use Rattle.vm_status.specs.declared.kind.Kind.TheVariants.{Entry}
use Rattle.vm_status.specs.declared.refusal.Refusal.{Refusal}
use Rattle.vm_status.specs.declared.refusal.Refusal.TheVariants.{Bad, HostFault, Missing, Console, Memory}
use Rattle.vm_status.specs.declared.role.Role.TheVariants.{Journal}

-- what the replay of a history answers and keeps, which the file of this name holds
pub data HistoryAnswers (old new : SinkView) (name : List ℕ) (history : List Signed) (ending : Ending) (kept : Option Kept) : Type 0 where
  -- it was replayed, and the console took what its guest sent
  replayed : (k : Kept) → kept ≡ Some k → k.journal ≡ history → Takes (sent_in k) old new → ending ≡ Done → HistoryAnswers old new name history ending kept
  -- it was, and the console refused some of that
  unwritten : (k : Kept) → kept ≡ Some k → k.journal ≡ history → TakesSome (sent_in k) old new → ending ≡ Refused Console
      → HistoryAnswers old new name history ending kept
  -- what stands before its first entry that isn't lawful was replayed
  unlawful : (k : Kept) (at : ℕ) → kept ≡ Some k → IsFirstBad k.start history at → k.journal ≡ take at history → LeavesSink old new
      → ending ≡ Refused (Bad Journal name at Entry) → HistoryAnswers old new name history ending kept
  -- memory is out
  spent : ending ≡ Refused Memory → HistoryAnswers old new name history ending kept

-- what the replay of a journal's file answers and keeps
pub data JournalAnswers (o : Outside) (journal : List ℕ) (ending : Ending) (kept : Option Kept) : Type 0 where
  -- the file is that of a journal
  read : (history : List Signed) → IsFileOf o.host.tells (o.host.file journal) IsJournal history
      → HistoryAnswers o.console o.console_now journal history ending kept → JournalAnswers o journal ending kept
  -- its bytes spell none, and nothing was replayed: their first fault
  unspelled : (k : Kept) → kept ≡ Some k → k.journal ≡ [] → (at : ℕ) (kind : Kind)
      → IsRefusedAt o.host.tells (o.host.file journal) IsJournal IsJournalFault at kind → LeavesSink o.console o.console_now
      → ending ≡ Refused (Bad Journal journal at kind) → JournalAnswers o journal ending kept
  -- there is no such file
  absent : (k : Kept) → kept ≡ Some k → k.journal ≡ [] → WhereTold o.host.tells (o.host.file journal ≡ None) → LeavesSink o.console o.console_now
      → ending ≡ Refused (Missing journal) → JournalAnswers o journal ending kept
  -- the host refused to read it
  unread : (k : Kept) → kept ≡ Some k → k.journal ≡ [] → LeavesSink o.console o.console_now
      → ending ≡ Refused (HostFault journal) → JournalAnswers o journal ending kept
  -- memory is out
  spent : ending ≡ Refused Memory → JournalAnswers o journal ending kept

-- what `replay` answers and keeps
pub data ReplayAnswers (o : Outside) (w : RunWords) (journal : List ℕ) (ending : Ending) (kept : Option Kept) : Type 0 where
  -- the files give no start: the first refusal
  unstarted : (refusal : Refusal) → kept ≡ None → StartOf o.host.tells o.host.file w (Some journal) (Err refusal) → ending ≡ Refused refusal → ReplayAnswers o w journal ending kept
  -- they give one
  began : JournalAnswers o journal ending kept → ReplayAnswers o w journal ending kept
