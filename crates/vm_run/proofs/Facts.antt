-- What each answer of a command says of the run that is kept.
use Rattle.std.specs.Prelude.{option_map}
use Rattle.std.proofs.Common.{◌≡◌, ◌≢◌, ◌⊎◌, inl, inr, ℕ, zero, suc, Bool, true, false, List, Option, Some, None, Contains, refl, sym, subst, ◌∙◌, ap, arith}
use Rattle.vm_cmd.specs.Word.{Word}
use Rattle.vm_cmd.specs.declared.command.Command.{Command}
use Rattle.vm_cmd.specs.declared.command.Command.TheVariants.{Run, Solo, Replay, Make}
use Rattle.vm_cmd.specs.declared.command.RunWords.{RunWords}
use Rattle.vm_host.specs.Leaves.{Takes}
use Rattle.vm_law.specs.declared.journal.Signed.{Signed}
use Rattle.vm_making.specs.Answers as make_answer
use Rattle.vm_making.specs.Answers.{HasEnded, MakeAnswers}
use Rattle.vm_outcome.specs.declared.outcome.Ending.{Ending}
use Rattle.vm_outcome.specs.declared.outcome.Ending.TheVariants as how
use Rattle.vm_outcome.specs.declared.outcome.Kept.{Kept}
use Rattle.vm_outcome.specs.Ends.{ending_status, why_status}
use Rattle.vm_outcome.specs.Outside.{IsEnd, Outside, sent_in}
use Rattle.vm_outcome.specs.Telling.{has_doubt}
use Rattle.vm_replaying.specs.Answers as replay_answer
use Rattle.vm_replaying.specs.Answers.{HistoryAnswers, JournalAnswers, ReplayAnswers}
use Rattle.vm_run.specs.Answer as answer
use Rattle.vm_run.specs.Answer.{Answers, HasStatus, IsClosedBy, JournalOf, NoStart, IsUnstartedBy, TakesAll, status_of_run, statuses}
use Rattle.vm_run.specs.Words.{unbuilt}
use Rattle.vm_soloing.specs.Answers as guest_answer
use Rattle.vm_soloing.specs.Answers.{GuestAnswers, RunAnswers, Way, by_rounds, in_threads}
use Rattle.vm_state.specs.declared.run_state.Why.{Why}
use Rattle.vm_state.specs.declared.run_state.Why.TheVariants as why
use Rattle.vm_status.specs.Lines.{status_of}
use Rattle.vm_status.specs.declared.refusal.Refusal.{Refusal}
use Rattle.vm_status.specs.declared.refusal.Refusal.TheVariants as refusal
use Rattle.vm_table.specs.History.{last_state}

-- ---- statuses

pub is_end : (n : ℕ) → IsEnd n → (n ≡ 0) ⊎ ((n ≡ 4) ⊎ ((n ≡ 5) ⊎ (n ≡ 8)))
is_end n (zero, l, e) = inl (sym e)
is_end n (suc zero, l, e) = inr (inl (sym e))
is_end n (suc (suc zero), l, e) = inr (inr (inl (sym e)))
is_end n (suc (suc (suc zero)), l, e) = inr (inr (inr (sym e)))
is_end n (suc (suc (suc (suc k))), l, e) = absurd (omega (arith, l))

no_end : (n m : ℕ) → m ≡ n → (n ≡ 0 → ⊥) → (n ≡ 4 → ⊥) → (n ≡ 5 → ⊥) → (n ≡ 8 → ⊥) → IsEnd m → ⊥
no_end n m e a b c d h = elim (is_end m h) [
  | inl p ↦ a (sym e ∙ p)
  | inr (inl p) ↦ b (sym e ∙ p)
  | inr (inr (inl p)) ↦ c (sym e ∙ p)
  | inr (inr (inr p)) ↦ d (sym e ∙ p)
]

pub no_end_of : (r : Refusal) → IsEnd (status_of r) → ⊥
no_end_of refusal.Usage h = no_end 2 2 refl (λ e. omega (arith, e)) (λ e. omega (arith, e)) (λ e. omega (arith, e)) (λ e. omega (arith, e)) h
no_end_of (refusal.Bad role name at kind) h = no_end 3 3 refl (λ e. omega (arith, e)) (λ e. omega (arith, e)) (λ e. omega (arith, e)) (λ e. omega (arith, e)) h
no_end_of (refusal.BadPlan name variable kind) h = no_end 3 3 refl (λ e. omega (arith, e)) (λ e. omega (arith, e)) (λ e. omega (arith, e)) (λ e. omega (arith, e)) h
no_end_of (refusal.HostFault name) h = no_end 6 6 refl (λ e. omega (arith, e)) (λ e. omega (arith, e)) (λ e. omega (arith, e)) (λ e. omega (arith, e)) h
no_end_of (refusal.Missing name) h = no_end 7 7 refl (λ e. omega (arith, e)) (λ e. omega (arith, e)) (λ e. omega (arith, e)) (λ e. omega (arith, e)) h
no_end_of refusal.Console h = no_end 9 9 refl (λ e. omega (arith, e)) (λ e. omega (arith, e)) (λ e. omega (arith, e)) (λ e. omega (arith, e)) h
no_end_of refusal.Memory h = no_end 71 71 refl (λ e. omega (arith, e)) (λ e. omega (arith, e)) (λ e. omega (arith, e)) (λ e. omega (arith, e)) h

pub refused_no_end : (ending : Ending) (r : Refusal) → ending ≡ how.Refused r → IsEnd (ending_status ending) → ⊥
refused_no_end ending r e h = no_end_of r (subst IsEnd (ap ending_status e) h)

pub untold_no_end : IsEnd 9 → ⊥
untold_no_end h = no_end_of refusal.Console h

-- ---- facts

pub record Facts (command : Command) (o : Outside) (before : Ending) (k : Kept) : Type 0 where
  pub closed : IsClosedBy command (ending_status before) k
  pub all : IsEnd (ending_status before) → TakesAll command (ending_status before) k o.console o.console_now
  pub journal : IsEnd (ending_status before) → JournalOf command o.host o.host_now k
  pub status : IsEnd (ending_status before) → HasStatus command (ending_status before) k

module _ (o : Outside) (before : Ending) where
  refused_facts : (w : RunWords) (k : Kept) (r : Refusal) → before ≡ how.Refused r → IsClosedBy (Solo w) (ending_status before) k → Facts (Solo w) o before k
  refused_facts w k r e closed = record {
    closed = closed;
    all = λ h. absurd (refused_no_end before r e h);
    journal = λ h. absurd (refused_no_end before r e h);
    status = λ h. absurd (refused_no_end before r e h);
  }

  run_facts : (way : Way) (w : RunWords) (k : Kept) → RunAnswers way o w.journal k before → Facts (Solo w) o before k
  run_facts way w k (guest_answer.unopened none still d within e) = refused_facts w k _ e (λ ne. inr (ap ending_status e, none))
  run_facts way w k (guest_answer.ran h y found e saved) = record {
    closed = λ ne. inl h.closed;
    all = λ end. h.wrote;
    journal = λ end. saved;
    status = λ end. ap (λ (x : Option Why). option_map (λ (z : Why). why_status z (has_doubt (last_state k.start k.journal))) x) found ∙ ap (λ (n : ℕ). Some n) (sym (ap ending_status e));
  }
  run_facts way w k (guest_answer.unsaved h name named e) = refused_facts w k _ e (λ ne. inl h.closed)
  run_facts way w k (guest_answer.unwritten closed cut e) = refused_facts w k _ e (λ ne. inl closed)
  run_facts way w k (guest_answer.spent e) = refused_facts w k _ e (λ ne. absurd (ne (ap ending_status e)))

  same_kept : (P : Kept → Type 0) (kept : Option Kept) (k j : Kept) → kept ≡ Some k → kept ≡ Some j → P k → P j
  same_kept P kept k j a b h = let e : k ≡ j = (let s : Some k ≡ Some j = sym a ∙ b in cc) in subst P e h

  guest_facts : (way : Way) (w : RunWords) (kept : Option Kept) (k : Kept) → kept ≡ Some k → GuestAnswers way o w before kept → Facts (Solo w) o before k
  guest_facts way w kept k is (guest_answer.unstarted r none start e) = absurd (let s : None ≡ Some k = sym none ∙ is in cc)
  guest_facts way w kept k is (guest_answer.began j at h) = same_kept (Facts (Solo w) o before) kept j k at is (run_facts way w j h)
  guest_facts way w kept k is (guest_answer.spent e) = refused_facts w k _ e (λ ne. absurd (ne (ap ending_status e)))

  -- they are the same on threads
  run_on : (w : RunWords) (k : Kept) → Facts (Solo w) o before k → Facts (Run w) o before k
  run_on w k f = record { closed = f.closed; all = f.all; journal = f.journal; status = f.status }

  replay_refused : (w : RunWords) (journal : Word) (k : Kept) (r : Refusal) → before ≡ how.Refused r → Facts (Replay w journal) o before k
  replay_refused w journal k r e = record { closed = tt; all = λ h. absurd (refused_no_end before r e h); journal = λ h. tt; status = λ h. absurd (refused_no_end before r e h) }

  history_facts : (w : RunWords) (journal : Word) (history : List Signed) (kept : Option Kept) (k : Kept) → kept ≡ Some k → HistoryAnswers o.console o.console_now journal history before kept → Facts (Replay w journal) o before k
  history_facts w journal history kept k is (replay_answer.replayed j at same wrote e) = record {
    closed = tt;
    all = λ h. same_kept (λ x. Takes (sent_in x) o.console o.console_now) kept j k at is wrote;
    journal = λ h. tt;
    status = λ h. ap ending_status e;
  }
  history_facts w journal history kept k is (replay_answer.unwritten j at same wrote e) = replay_refused w journal k _ e
  history_facts w journal history kept k is (replay_answer.unlawful j at found bad same silent e) = replay_refused w journal k _ e
  history_facts w journal history kept k is (replay_answer.spent e) = replay_refused w journal k _ e

  journal_facts : (w : RunWords) (journal : Word) (kept : Option Kept) (k : Kept) → kept ≡ Some k → JournalAnswers o journal before kept → Facts (Replay w journal) o before k
  journal_facts w journal kept k is (replay_answer.read history file h) = history_facts w journal history kept k is h
  journal_facts w journal kept k is (replay_answer.unspelled j at none place kind bad silent e) = replay_refused w journal k _ e
  journal_facts w journal kept k is (replay_answer.absent j at none gone silent e) = replay_refused w journal k _ e
  journal_facts w journal kept k is (replay_answer.unread j at none silent e) = replay_refused w journal k _ e
  journal_facts w journal kept k is (replay_answer.spent e) = replay_refused w journal k _ e

  replay_facts : (w : RunWords) (journal : Word) (kept : Option Kept) (k : Kept) → kept ≡ Some k → ReplayAnswers o w journal before kept → Facts (Replay w journal) o before k
  replay_facts w journal kept k is (replay_answer.unstarted r none start e) = absurd (let s : None ≡ Some k = sym none ∙ is in cc)
  replay_facts w journal kept k is (replay_answer.began h) = journal_facts w journal kept k is h

  -- ---- make

  make_refused : (cpus number : ℕ) (k : Kept) (r : Refusal) → before ≡ how.Refused r → IsClosedBy (Make cpus number) (ending_status before) k → Facts (Make cpus number) o before k
  make_refused cpus number k r e closed = record {
    closed = closed;
    all = λ h. absurd (refused_no_end before r e h);
    journal = λ h. tt;
    status = λ h. absurd (refused_no_end before r e h);
  }

  ended_status : (k : Kept) (reason : Why) → HasEnded k reason → before ≡ how.Ran reason false → status_of_run k ≡ Some (ending_status before)
  ended_status k reason h e =
      ap (λ (x : Option Why). option_map (λ (z : Why). why_status z (has_doubt (last_state k.start k.journal))) x) h.ended
      ∙ ap (λ (b : Bool). Some (why_status reason b)) h.no_doubt ∙ ap (λ (n : ℕ). Some n) (sym (ap ending_status e))

  ended_facts : (cpus number : ℕ) (k : Kept) (reason : Why) → HasEnded k reason → before ≡ how.Ran reason false → TakesAll (Make cpus number) (why_status reason false) k o.console o.console_now
      → Facts (Make cpus number) o before k
  ended_facts cpus number k reason h e takes = record {
    closed = λ ne. h.closed;
    all = λ end. subst (λ (n : ℕ). TakesAll (Make cpus number) n k o.console o.console_now) (sym (ap ending_status e)) takes;
    journal = λ end. tt;
    status = λ end. ended_status k reason h e;
  }

  unfinished : (cpus number : ℕ) (k : Kept) (reason : Why) → HasEnded k reason → reason ≢ why.Finished → reason ≢ why.Outside → Takes (sent_in k) o.console o.console_now → before ≡ how.Ran reason false
      → Facts (Make cpus number) o before k
  unfinished cpus number k why.Finished h ne inside takes e = absurd (ne refl)
  unfinished cpus number k (why.Stopped cpu stop rip) h ne inside takes e = ended_facts cpus number k (why.Stopped cpu stop rip) h e takes
  unfinished cpus number k why.Budget h ne inside takes e = ended_facts cpus number k why.Budget h e takes
  unfinished cpus number k why.Outside h ne inside takes e = absurd (inside refl)

  made_facts : (cpus number : ℕ) (k : Kept) → make_answer.RunAnswers cpus number k o.console o.console_now before → Facts (Make cpus number) o before k
  made_facts cpus number k (make_answer.told h takes e) = ended_facts cpus number k why.Finished h e takes
  made_facts cpus number k (make_answer.untold h takes e) = make_refused cpus number k _ e (λ ne. h.closed)
  made_facts cpus number k (make_answer.ended reason h ne inside takes e) = unfinished cpus number k reason h ne inside takes e
  made_facts cpus number k (make_answer.unwritten closed cut takes e) = make_refused cpus number k _ e (λ ne. closed)
  made_facts cpus number k (make_answer.spent takes e) = make_refused cpus number k _ e (λ ne. absurd (ne (ap ending_status e)))

  make_facts : (cpus number : ℕ) (kept : Option Kept) (k : Kept) → kept ≡ Some k → MakeAnswers cpus number o.console o.console_now before kept → Facts (Make cpus number) o before k
  make_facts cpus number kept k is (make_answer.began j at h) = same_kept (Facts (Make cpus number) o before) kept j k at is (made_facts cpus number j h)
  make_facts cpus number kept k is (make_answer.spent none e) = absurd (let s : None ≡ Some k = sym none ∙ is in cc)

  nothing_kept : (command : Command) (kept : Option Kept) (k : Kept) → kept ≡ Some k → kept ≡ None → Facts command o before k
  nothing_kept command kept k is none = absurd (let s : None ≡ Some k = sym none ∙ is in cc)

  pub facts_of : (command : Command) (kept : Option Kept) (k : Kept) → kept ≡ Some k → Answers command o before kept → Facts command o before k
  facts_of command kept k is (answer.ran_solo w e h) = subst (λ (c : Command). Facts c o before k) (sym e) (guest_facts by_rounds w kept k is h)
  facts_of command kept k is (answer.ran_threads w e h) = subst (λ (c : Command). Facts c o before k) (sym e) (run_on w k (guest_facts in_threads w kept k is h))
  facts_of command kept k is (answer.ran_replay w journal e h) = subst (λ (c : Command). Facts c o before k) (sym e) (replay_facts w journal kept k is h)
  facts_of command kept k is (answer.ran_show config e none h) = nothing_kept command kept k is none
  facts_of command kept k is (answer.ran_asm file out e none h) = nothing_kept command kept k is none
  facts_of command kept k is (answer.ran_make cpus number e h) = subst (λ (c : Command). Facts c o before k) (sym e) (make_facts cpus number kept k is h)
  facts_of command kept k is (answer.unbuilt_yet word un none e) = nothing_kept command kept k is none
  facts_of command kept k is (answer.spent none e) = nothing_kept command kept k is none

  -- ---- where nothing is kept

  guest_unkept : (way : Way) (w : RunWords) → GuestAnswers way o w before None → NoStart o.host w w.journal before
  guest_unkept way w (guest_answer.unstarted r none start e) = inr (r, start, e)
  guest_unkept way w (guest_answer.began j at h) = absurd (let s : None ≡ Some j = at in cc)
  guest_unkept way w (guest_answer.spent e) = inl (ap ending_status e)

  pub unkept : (command : Command) → Answers command o before None → IsUnstartedBy o.host command before
  unkept command (answer.ran_solo w e h) = subst (λ (c : Command). IsUnstartedBy o.host c before) (sym e) (guest_unkept by_rounds w h)
  unkept command (answer.ran_threads w e h) = subst (λ (c : Command). IsUnstartedBy o.host c before) (sym e) (guest_unkept in_threads w h)
  unkept command (answer.ran_replay w journal e h) = subst (λ (c : Command). IsUnstartedBy o.host c before) (sym e) (replay_unkept w journal h) where
    history_unkept : (w : RunWords) (journal : Word) (history : List Signed) → HistoryAnswers o.console o.console_now journal history before None → NoStart o.host w (Some journal) before
    history_unkept w journal history (replay_answer.replayed j at same wrote e) = absurd (let s : None ≡ Some j = at in cc)
    history_unkept w journal history (replay_answer.unwritten j at same wrote e) = absurd (let s : None ≡ Some j = at in cc)
    history_unkept w journal history (replay_answer.unlawful j at found bad same silent e) = absurd (let s : None ≡ Some j = found in cc)
    history_unkept w journal history (replay_answer.spent e) = inl (ap ending_status e)

    journal_unkept : (w : RunWords) (journal : Word) → JournalAnswers o journal before None → NoStart o.host w (Some journal) before
    journal_unkept w journal (replay_answer.read history file h) = history_unkept w journal history h
    journal_unkept w journal (replay_answer.unspelled j at none place kind bad silent e) = absurd (let s : None ≡ Some j = at in cc)
    journal_unkept w journal (replay_answer.absent j at none gone silent e) = absurd (let s : None ≡ Some j = at in cc)
    journal_unkept w journal (replay_answer.unread j at none silent e) = absurd (let s : None ≡ Some j = at in cc)
    journal_unkept w journal (replay_answer.spent e) = inl (ap ending_status e)

    replay_unkept : (w : RunWords) (journal : Word) → ReplayAnswers o w journal before None → NoStart o.host w (Some journal) before
    replay_unkept w journal (replay_answer.unstarted r none start e) = inr (r, start, e)
    replay_unkept w journal (replay_answer.began h) = journal_unkept w journal h
  unkept command (answer.ran_show config e none h) = subst (λ (c : Command). IsUnstartedBy o.host c before) (sym e) tt
  unkept command (answer.ran_asm file out e none h) = subst (λ (c : Command). IsUnstartedBy o.host c before) (sym e) tt
  unkept command (answer.ran_make cpus number e h) = subst (λ (c : Command). IsUnstartedBy o.host c before) (sym e) (make_unkept cpus number h) where
    make_unkept : (cpus number : ℕ) → MakeAnswers cpus number o.console o.console_now before None → ending_status before ≡ 71
    make_unkept cpus number (make_answer.began j at h) = absurd (let s : None ≡ Some j = at in cc)
    make_unkept cpus number (make_answer.spent none e) = ap ending_status e
  unkept command (answer.unbuilt_yet word un none e) = later command word un where
    later : (command : Command) (word : Word) → unbuilt command ≡ Some word → IsUnstartedBy o.host command before
    later (Solo w) word un = absurd (let s : None ≡ Some word = un in cc)
    later (Run w) word un = absurd (let s : None ≡ Some word = un in cc)
    later (Replay w journal) word un = absurd (let s : None ≡ Some word = un in cc)
    later (Make cpus number) word un = absurd (let s : None ≡ Some word = un in cc)
    later c word un = tt
  unkept command (answer.spent none e) = spent command (ap ending_status e) where
    spent : (command : Command) → ending_status before ≡ 71 → IsUnstartedBy o.host command before
    spent (Solo w) e = inl e
    spent (Run w) e = inl e
    spent (Replay w journal) e = inl e
    spent (Make cpus number) e = e
    spent c e = tt

-- ---- the statuses that there are

pub end_known : (y : Why) (doubt : Bool) → Contains statuses (why_status y doubt)
end_known why.Finished false = (0, omega arith, refl)
end_known why.Finished true = (6, omega arith, refl)
end_known (why.Stopped cpu stop rip) doubt = (2, omega arith, refl)
end_known why.Budget doubt = (3, omega arith, refl)
end_known why.Outside doubt = (7, omega arith, refl)
