-- The statuses that commands end with.
use Rattle.std.proofs.Common.{◌≡◌, ◌≢◌, ℕ, zero, suc, Bool, true, false, List, [], ◌∷◌, Option, Some, Contains, refl, sym, subst, ◌∙◌, ap, arith}
use Rattle.vm_cmd.specs.Word.{Word}
use Rattle.vm_cmd.specs.declared.command.Command.{Command}
use Rattle.vm_cmd.specs.declared.command.Command.TheVariants.{Run, Solo, Replay, Show, Asm, Make, Convert, Arrive, Inspect}
use Rattle.vm_cmd.specs.declared.command.RunWords.{RunWords}
use Rattle.vm_assembling.specs.Answers as asm_answer
use Rattle.vm_assembling.specs.Answers.{AsmAnswers}
use Rattle.vm_law.specs.declared.journal.Signed.{Signed}
use Rattle.vm_making.specs.Answers as make_answer
use Rattle.vm_making.specs.Answers.{MakeAnswers}
use Rattle.vm_outcome.specs.declared.outcome.Ending.{Ending}
use Rattle.vm_outcome.specs.declared.outcome.Ending.TheVariants as how
use Rattle.vm_outcome.specs.declared.outcome.Kept.{Kept}
use Rattle.vm_outcome.specs.Ends.{ending_status, why_status}
use Rattle.vm_outcome.specs.Outside.{IsEnd, Outside}
use Rattle.vm_outcome.specs.Telling.{IsRefusal}
use Rattle.vm_replaying.specs.Answers as replay_answer
use Rattle.vm_replaying.specs.Answers.{HistoryAnswers, JournalAnswers, ReplayAnswers}
use Rattle.vm_run.specs.Answer as answer
use Rattle.vm_run.specs.Answer.{Answers, done_statuses, statuses}
use Rattle.vm_run.specs.Showing as show_answer
use Rattle.vm_run.specs.Showing.{ShowAnswers}
use Rattle.vm_run.proofs.Facts.{end_known}
use Rattle.vm_replaying.proofs.Starts.{plan_of_files, start_of_files}
use Rattle.vm_soloing.specs.Answers as guest_answer
use Rattle.vm_soloing.specs.Answers.{GuestAnswers, RunAnswers, Way, by_rounds, in_threads}
use Rattle.vm_state.specs.declared.run_state.Why.{Why}
use Rattle.vm_state.specs.declared.run_state.Why.TheVariants as why
use Rattle.vm_status.specs.Lines.{status_of}
use Rattle.vm_status.specs.declared.refusal.Refusal.{Refusal}

pub spent_done : (c : Command) → Contains (done_statuses c) 71
spent_done (Solo w) = (4, omega arith, refl)
spent_done (Replay w journal) = (1, omega arith, refl)
spent_done (Run w) = (4, omega arith, refl)
spent_done (Show config) = (1, omega arith, refl)
spent_done (Asm file out) = (1, omega arith, refl)
spent_done (Make cpus number) = (3, omega arith, refl)
spent_done (Convert file out) = (1, omega arith, refl)
spent_done (Arrive file out) = (1, omega arith, refl)
spent_done (Inspect w i) = (1, omega arith, refl)

pub untold_known : Contains statuses 9
untold_known = (7, omega arith, refl)

pub spent_known : Contains statuses 71
spent_known = (8, omega arith, refl)

-- ---- the status is one of the table

files_known : (n : ℕ) → Contains (3 ∷ 6 ∷ 7 ∷ []) n → Contains statuses n
files_known n (zero, l, e) = (1, omega arith, e)
files_known n (suc zero, l, e) = (4, omega arith, e)
files_known n (suc (suc zero), l, e) = (5, omega arith, e)
files_known n (suc (suc (suc k)), l, e) = absurd (omega (arith, l))

-- and where no refusal ends the work it is done
pub ran_ends : (y : Why) (doubt : Bool) → y ≢ why.Outside → IsEnd (why_status y doubt)
ran_ends why.Finished false ne = (0, omega arith, refl)
ran_ends why.Finished true ne = (3, omega arith, refl)
ran_ends (why.Stopped cpu stop rip) doubt ne = (1, omega arith, refl)
ran_ends why.Budget doubt ne = (2, omega arith, refl)
ran_ends why.Outside doubt ne = absurd (ne refl)

-- what is known of an ending
record IsKnown (before : Ending) : Type 0 where
  status : Contains statuses (ending_status before)
  ends : (IsRefusal before → ⊥) → IsEnd (ending_status before)

by_status : (all : List ℕ) (before : Ending) (n : ℕ) → ending_status before ≡ n → Contains all n → Contains all (ending_status before)
by_status all before n e h = subst (λ (m : ℕ). Contains all m) (sym e) h

refused : (before : Ending) (r : Refusal) → before ≡ how.Refused r → Contains statuses (status_of r) → IsKnown before
refused before r e h = record {
  status = by_status statuses before (status_of r) (ap ending_status e) h;
  ends = λ fine. absurd (fine (subst IsRefusal (sym e) tt));
}

done : (before : Ending) → before ≡ how.Done → IsKnown before
done before e = record {
  status = by_status statuses before 0 (ap ending_status e) (0, omega arith, refl);
  ends = λ fine. by_status (0 ∷ 4 ∷ 5 ∷ 8 ∷ []) before 0 (ap ending_status e) (0, omega arith, refl);
}

module _ (o : Outside) (before : Ending) where
  run_known : (way : Way) (w : RunWords) (k : Kept) → RunAnswers way o w.journal k before → IsKnown before
  run_known way w k (guest_answer.unopened none still d within e) = refused before _ e (4, omega arith, refl)
  run_known way w k (guest_answer.ran h y found e saved) = record {
    status = by_status statuses before (why_status y _) (ap ending_status e) (end_known y _);
    ends = λ fine. by_status (0 ∷ 4 ∷ 5 ∷ 8 ∷ []) before (why_status y _) (ap ending_status e)
        (ran_ends y _ (λ outside. h.no_fault (found ∙ ap {A = Why} {B = Option Why} (λ z. Some z) outside)));
  }
  run_known way w k (guest_answer.unsaved h name named e) = refused before _ e (4, omega arith, refl)
  run_known way w k (guest_answer.unwritten closed cut e) = refused before _ e (7, omega arith, refl)
  run_known way w k (guest_answer.spent e) = refused before _ e (8, omega arith, refl)

  guest_known : (way : Way) (w : RunWords) (kept : Option Kept) → GuestAnswers way o w before kept → IsKnown before
  guest_known way w kept (guest_answer.unstarted r none start e) = refused before r e (files_known _ (start_of_files o.host.tells o.host.file w w.journal r start))
  guest_known way w kept (guest_answer.began j at h) = run_known way w j h
  guest_known way w kept (guest_answer.spent e) = refused before _ e (8, omega arith, refl)

  history_known : (journal : Word) (history : List Signed) (kept : Option Kept) → HistoryAnswers o.console o.console_now journal history before kept → IsKnown before
  history_known journal history kept (replay_answer.replayed j at same wrote e) = done before e
  history_known journal history kept (replay_answer.unwritten j at same wrote e) = refused before _ e (7, omega arith, refl)
  history_known journal history kept (replay_answer.unlawful j at found bad same silent e) = refused before _ e (1, omega arith, refl)
  history_known journal history kept (replay_answer.spent e) = refused before _ e (8, omega arith, refl)

  journal_known : (journal : Word) (kept : Option Kept) → JournalAnswers o journal before kept → IsKnown before
  journal_known journal kept (replay_answer.read history file h) = history_known journal history kept h
  journal_known journal kept (replay_answer.unspelled j at none place kind bad silent e) = refused before _ e (1, omega arith, refl)
  journal_known journal kept (replay_answer.absent j at none gone silent e) = refused before _ e (5, omega arith, refl)
  journal_known journal kept (replay_answer.unread j at none silent e) = refused before _ e (4, omega arith, refl)
  journal_known journal kept (replay_answer.spent e) = refused before _ e (8, omega arith, refl)

  replay_known : (w : RunWords) (journal : Word) (kept : Option Kept) → ReplayAnswers o w journal before kept → IsKnown before
  replay_known w journal kept (replay_answer.unstarted r none start e) = refused before r e (files_known _ (start_of_files o.host.tells o.host.file w (Some journal) r start))
  replay_known w journal kept (replay_answer.began h) = journal_known journal kept h

  show_known : (config : Word) → ShowAnswers o config before → IsKnown before
  show_known config (show_answer.shown plan is wrote e) = done before e
  show_known config (show_answer.unwritten plan is wrote e) = refused before _ e (7, omega arith, refl)
  show_known config (show_answer.refused r bad silent e) = refused before r e (files_known _ (plan_of_files o.host.tells o.host.file config r bad))
  show_known config (show_answer.spent silent e) = refused before _ e (8, omega arith, refl)

  asm_known : (file out : Word) → AsmAnswers o.host o.host_now file out before → IsKnown before
  asm_known file out (asm_answer.assembled f is holds e) = done before e
  asm_known file out (asm_answer.unwritten f is named e) = refused before _ e (4, omega arith, refl)
  asm_known file out (asm_answer.refused at kind bad reads e) = refused before _ e (1, omega arith, refl)
  asm_known file out (asm_answer.missing gone reads e) = refused before _ e (5, omega arith, refl)
  asm_known file out (asm_answer.unread named reads e) = refused before _ e (4, omega arith, refl)
  asm_known file out (asm_answer.spent e) = refused before _ e (8, omega arith, refl)

  made_known : (cpus number : ℕ) (k : Kept) → make_answer.RunAnswers cpus number k o.console o.console_now before → IsKnown before
  made_known cpus number k (make_answer.told h takes e) = record {
    status = by_status statuses before 0 (ap ending_status e) (0, omega arith, refl);
    ends = λ fine. by_status (0 ∷ 4 ∷ 5 ∷ 8 ∷ []) before 0 (ap ending_status e) (0, omega arith, refl);
  }
  made_known cpus number k (make_answer.untold h takes e) = refused before _ e (7, omega arith, refl)
  made_known cpus number k (make_answer.ended reason h ne inside takes e) = record {
    status = by_status statuses before (why_status reason false) (ap ending_status e) (end_known reason false);
    ends = λ fine. by_status (0 ∷ 4 ∷ 5 ∷ 8 ∷ []) before (why_status reason false) (ap ending_status e) (ran_ends reason false inside);
  }
  made_known cpus number k (make_answer.unwritten closed cut takes e) = refused before _ e (7, omega arith, refl)
  made_known cpus number k (make_answer.spent takes e) = refused before _ e (8, omega arith, refl)

  make_known : (cpus number : ℕ) (kept : Option Kept) → MakeAnswers cpus number o.console o.console_now before kept → IsKnown before
  make_known cpus number kept (make_answer.began k at h) = made_known cpus number k h
  make_known cpus number kept (make_answer.spent none e) = refused before _ e (8, omega arith, refl)

  known_in : (command : Command) (kept : Option Kept) → Answers command o before kept → IsKnown before
  known_in command kept (answer.ran_solo w e h) = guest_known by_rounds w kept h
  known_in command kept (answer.ran_threads w e h) = guest_known in_threads w kept h
  known_in command kept (answer.ran_replay w journal e h) = replay_known w journal kept h
  known_in command kept (answer.ran_show config e none h) = show_known config h
  known_in command kept (answer.ran_asm file out e none h) = asm_known file out h
  known_in command kept (answer.ran_make cpus number e h) = make_known cpus number kept h
  known_in command kept (answer.unbuilt_yet word un none e) = refused before _ e (1, omega arith, refl)
  known_in command kept (answer.spent none e) = refused before _ e (8, omega arith, refl)

  pub known_of : (command : Command) (kept : Option Kept) → Answers command o before kept → Contains statuses (ending_status before)
  known_of command kept h = (known_in command kept h).status

  pub ends_of : (command : Command) (kept : Option Kept) → Answers command o before kept → (IsRefusal before → ⊥) → IsEnd (ending_status before)
  ends_of command kept h fine = (known_in command kept h).ends fine
