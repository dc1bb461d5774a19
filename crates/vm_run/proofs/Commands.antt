-- What the work of each command does, from what its calls ensure.
use Rattle.std.proofs.Common.{◌≡◌, ◌≢◌, ◌⊎◌, inl, inr, ℕ, zero, suc, Bool, true, false, List, [], ◌∷◌, ◌++◌, Option, Some, None, Result, Ok, Err, IfSome, IfNone, IsNone, Contains, refl, sym, subst, ◌∙◌, ap, arith}
use Rattle.byte_reader.specs.declared.reading.Refusal.{Refusal as Fault}
use Rattle.vm_cmd.specs.Word.{Word}
use Rattle.vm_cmd.specs.declared.command.Command.{Command}
use Rattle.vm_cmd.specs.declared.command.Command.TheVariants.{Run, Solo, Replay, Show, Asm, Make, Convert, Arrive, Inspect}
use Rattle.vm_cmd.specs.declared.command.RunWords.{RunWords}
use Rattle.vm_assembling.specs.Answers as asm_answer
use Rattle.vm_assembling.specs.Answers.{AsmAnswers}
use Rattle.vm_assembling.specs.Assembling.{IsAssembly, IsAssemblyFault}
use Rattle.vm_host.specs.Counts.{Rose}
use Rattle.vm_host.specs.Crash.{SinceEarlier}
use Rattle.vm_host.specs.Leaves.{ReadsHost, TakesSome, WritesFile}
use Rattle.vm_host.specs.Told.{WhereTold}
use Rattle.vm_host.specs.Views.{HostView, SinkView}
use Rattle.vm_host.proofs.Frames.{reads_itself, reads_writes}
use Rattle.vm_journal.specs.declared.fault.JournalKind.{JournalKind}
use Rattle.vm_journal.specs.Reading.{whole}
use Rattle.vm_journal.proofs.Histories.{first_bad}
use Rattle.vm_journal.proofs.Whole.{whole_again}
use Rattle.vm_law.specs.declared.image.FlatImage.{FlatImage}
use Rattle.vm_law.specs.declared.journal.Signed.{Signed}
use Rattle.vm_law.specs.declared.plan.Plan.{Plan}
use Rattle.vm_making.specs.Answers as make_answer
use Rattle.vm_making.specs.Answers.{HasMakeCauses, MakeAnswers}
use Rattle.vm_making.specs.Line.{total_line}
use Rattle.vm_making.specs.Start.{IsStartOf as IsMadeFrom}
use Rattle.vm_outcome.specs.declared.outcome.Ending.{Ending}
use Rattle.vm_outcome.specs.declared.outcome.Ending.TheVariants as how
use Rattle.vm_outcome.specs.declared.outcome.Kept.{Kept}
use Rattle.vm_outcome.specs.Causes.{HasCauses, IsNamed, NoneRose}
use Rattle.vm_outcome.specs.Ends.{ending_status, why_status}
use Rattle.vm_outcome.specs.Files.{IsFileOf, IsRefused, IsRefusedAt}
use Rattle.vm_outcome.specs.Outside.{IsEnd, Outside, StartsAt, outside, sent_in}
use Rattle.vm_outcome.specs.Telling.{IsRefusal, IsRun}
use Rattle.vm_outcome.proofs.Frames.{no_causes}
use Rattle.vm_replaying.specs.Answers as replay_answer
use Rattle.vm_replaying.specs.Answers.{HistoryAnswers, JournalAnswers, ReplayAnswers}
use Rattle.vm_replaying.specs.Files.{IsJournal, IsJournalFault}
use Rattle.vm_run.specs.Answer as answer
use Rattle.vm_run.specs.Answer.{Answers, CanDo, Changes, DisksOf, IsOfFiles, MustRefuse, NoneFailedOf, Untouched, done_statuses}
use Rattle.vm_run.specs.Showing as show_answer
use Rattle.vm_run.specs.Showing.{ShowAnswers}
use Rattle.vm_run.specs.Words.{IsLater, unbuilt}
use Rattle.vm_run.specs.Works.{Works}
use Rattle.vm_run.proofs.Known.{spent_done}
use Rattle.vm_replaying.proofs.Starts.{OfFiles, plan_of_files, start_of_files}
use Rattle.vm_soloing.specs.Answers as guest_answer
use Rattle.vm_soloing.specs.Answers.{GuestAnswers, RunAnswers, Way, by_rounds, in_threads}
use Rattle.vm_soloing.specs.Disks.{ChangesOwn, HoldDisks}
use Rattle.vm_soloing.specs.Keeping.{NoneFailed}
use Rattle.vm_start.specs.Causes.{NoneRefused}
use Rattle.vm_start.specs.Start.{IsPlanOf, IsStartOf, PlanOf, StartOf}
use Rattle.vm_state.specs.declared.run_state.Why.{Why}
use Rattle.vm_state.specs.declared.run_state.Why.TheVariants as why
use Rattle.vm_state.specs.declared.start.Start.{Start}
use Rattle.vm_status.specs.Lines.{status_of}
use Rattle.vm_status.specs.declared.kind.Kind.{Kind}
use Rattle.vm_status.specs.declared.refusal.Refusal.{Refusal}
use Rattle.vm_status.specs.declared.refusal.Refusal.TheVariants as refusal
use Rattle.vm_table.specs.History.{IsLegal}
use Rattle.vm_table.specs.Turns.{IsOrderly}

-- ---- endings

by_ending : (all : List ℕ) (a b : Ending) → a ≡ b → Contains all (ending_status b) → Contains all (ending_status a)
by_ending all a b e h = subst (λ (n : ℕ). Contains all n) (sym (ap ending_status e)) h

-- done, or refused
abbrev IsPlain : Ending → Type 0
IsPlain ending = (ending ≡ how.Done) ⊎ ((r : Refusal) × (ending ≡ how.Refused r))

status_not_eight : (r : Refusal) → status_of r ≡ 8 → ⊥
status_not_eight refusal.Usage e = omega (arith, e)
status_not_eight (refusal.Bad role name at kind) e = omega (arith, e)
status_not_eight (refusal.BadPlan name variable kind) e = omega (arith, e)
status_not_eight (refusal.HostFault name) e = omega (arith, e)
status_not_eight (refusal.Missing name) e = omega (arith, e)
status_not_eight refusal.Console e = omega (arith, e)
status_not_eight refusal.Memory e = omega (arith, e)

plain_not_eight : (ending : Ending) → IsPlain ending → ending_status ending ≡ 8 → ⊥
plain_not_eight ending (inl e) h = omega (arith, sym (ap ending_status e) ∙ h)
plain_not_eight ending (inr (r, e)) h = status_not_eight r (sym (ap ending_status e) ∙ h)

none_refused : (old new : HostView) (console console_now : SinkView) → NoneRose old new console console_now → NoneRefused old new
none_refused old new console console_now calm = record { not_failed = calm.not_failed; not_missing = calm.not_missing }

none_kept : (kept : Option Kept) → IsNone kept → kept ≡ None
none_kept None h = refl
none_kept (Some k) h = absurd (let s : true ≡ false = h in cc)

-- ---- files

same_bytes : (file : Option (List ℕ)) (a b : List ℕ) → file ≡ Some a → file ≡ Some b → a ≡ b
same_bytes file a b p q = let e : ◌≡◌ {A = Option (List ℕ)} (Some a) (Some b) = sym p ∙ q in cc e

not_gone : (file : Option (List ℕ)) (a : List ℕ) → file ≡ Some a → file ≡ None → ⊥
not_gone file a p q = let e : ◌≡◌ {A = Option (List ℕ)} (Some a) None = sym p ∙ q in cc e

module _ {X : Type 0} (told : Bool) (is_told : told ≡ true) (file : Option (List ℕ)) (Means : List ℕ → X → Type 0) where
  refused_not_file : (IsFirst : List ℕ → ℕ → Kind → Type 0) (at : ℕ) (kind : Kind) (x : X) → IsRefusedAt told file Means IsFirst at kind → IsFileOf true file Means x → ⊥
  refused_not_file IsFirst at kind x r f = r.none x (subst (λ (b : List ℕ). Means b x) (same_bytes file f.bytes r.bytes (f.is_file refl) (r.is_file is_told)) f.means)

  file_not_refused : (x : X) → IsFileOf told file Means x → IsRefused true file Means → ⊥
  file_not_refused x f r = r.none x (subst (λ (b : List ℕ). Means b x) (same_bytes file f.bytes r.bytes (f.is_file is_told) (r.is_file refl)) f.means)

  one_meaning : ((bytes : List ℕ) (x y : X) → Means bytes x → Means bytes y → x ≡ y) → (x y : X) → IsFileOf told file Means x → IsFileOf true file Means y → x ≡ y
  one_meaning one x y f h =
      one h.bytes x y (subst (λ (b : List ℕ). Means b x) (same_bytes file f.bytes h.bytes (f.is_file is_told) (h.is_file refl)) f.means) h.means

one_journal : (bytes : List ℕ) (a b : List Signed) → IsJournal bytes a → IsJournal bytes b → a ≡ b
one_journal bytes a b p q =
    let e : ◌≡◌ {A = Result (List Signed) (Fault JournalKind)} (Ok a) (Ok b) =
    sym (whole_again a p.fits) ∙ ap (λ (l : List ℕ). whole l) (sym p.spelled ∙ q.spelled) ∙ whole_again b q.fits in
    cc e

-- ---- solo

module _ {A B : Type 0} (see : A → HostView) (watch : B → SinkView) (host host_now : A) (console console_now : B) (ending : Ending) (kept : Option Kept) where
  abbrev o : Outside
  o = outside (see host) (see host_now) (watch console) (watch console_now)

  module _ (causes : HasCauses (ending_status ending) (see host) (see host_now) (watch console) (watch console_now)) where
    module _ (calm : NoneRose (see host) (see host_now) (watch console) (watch console_now)) where
      six : ending_status ending ≡ 6 → ⊥
      six e = calm.not_failed (causes.failed e)

      seven : ending_status ending ≡ 7 → ⊥
      seven e = calm.not_missing (causes.missing e)

      nine : ending_status ending ≡ 9 → ⊥
      nine e = calm.not_unwritten (causes.unwritten e)

      end_done : (y : Why) (doubt : Bool) → y ≢ why.Outside → Contains (0 ∷ 4 ∷ 5 ∷ 8 ∷ 71 ∷ []) (why_status y doubt)
      end_done why.Finished false ne = (0, omega arith, refl)
      end_done why.Finished true ne = (3, omega arith, refl)
      end_done (why.Stopped cpu stop rip) doubt ne = (1, omega arith, refl)
      end_done why.Budget doubt ne = (2, omega arith, refl)
      end_done why.Outside doubt ne = absurd (ne refl)

      run_completes : (way : Way) (w : RunWords) (k : Kept) → RunAnswers way o w.journal k ending → Contains (0 ∷ 4 ∷ 5 ∷ 8 ∷ 71 ∷ []) (ending_status ending)
      run_completes way w k (guest_answer.unopened none still d within e) = absurd (six (ap ending_status e))
      run_completes way w k (guest_answer.ran h y found e saved) =
          by_ending (0 ∷ 4 ∷ 5 ∷ 8 ∷ 71 ∷ []) _ _ e (end_done y _ (λ x. h.no_fault (found ∙ ap {A = Why} {B = Option Why} (λ z. Some z) x)))
      run_completes way w k (guest_answer.unsaved h name named e) = absurd (six (ap ending_status e))
      run_completes way w k (guest_answer.unwritten closed cut e) = absurd (nine (ap ending_status e))
      run_completes way w k (guest_answer.spent e) = (4, omega arith, sym (ap ending_status e))

      guest_completes : (way : Way) (w : RunWords) (start : Start) (x : Option Kept) → kept ≡ x → StartsAt start ending x → GuestAnswers way o w ending kept → Contains (0 ∷ 4 ∷ 5 ∷ 8 ∷ 71 ∷ []) (ending_status ending)
      guest_completes way w start None none spent answers = (4, omega arith, sym (ap ending_status spent))
      guest_completes way w start (Some k) is begins (guest_answer.unstarted r none bad e) = absurd (let s : None ≡ Some k = sym none ∙ is in cc)
      guest_completes way w start (Some k) is begins (guest_answer.began j at h) = run_completes way w j h
      guest_completes way w start (Some k) is begins (guest_answer.spent e) = (4, omega arith, sym (ap ending_status e))

      -- ---- replay

      history_completes : (journal : Word) (history : List Signed) (k : Kept) → kept ≡ Some k → IsLegal k.start history → HistoryAnswers (watch console) (watch console_now) journal history ending kept → Contains (0 ∷ 71 ∷ []) (ending_status ending)
      history_completes journal history k is legal (replay_answer.replayed j at same wrote e) = (0, omega arith, sym (ap ending_status e))
      history_completes journal history k is legal (replay_answer.unwritten j at same wrote e) = absurd (nine (ap ending_status e))
      history_completes journal history k is legal (replay_answer.unlawful j at found bad same silent e) =
          let s : k ≡ j = (let t : Some k ≡ Some j = sym is ∙ found in cc) in
          absurd (first_bad j.start history at bad (subst (λ (x : Kept). IsLegal x.start history) s legal))
      history_completes journal history k is legal (replay_answer.spent e) = (1, omega arith, sym (ap ending_status e))

      module _ (told : (see host).tells ≡ true) (journal : Word) (history : List Signed) (file : IsFileOf true ((see host).file journal) IsJournal history) where
        journal_completes : (k : Kept) → kept ≡ Some k → IsLegal k.start history → JournalAnswers o journal ending kept → Contains (0 ∷ 71 ∷ []) (ending_status ending)
        journal_completes k is legal (replay_answer.read other at h) =
            let same = one_meaning (see host).tells told ((see host).file journal) IsJournal one_journal other history at file in
            history_completes journal other k is (subst (λ (l : List Signed). IsLegal k.start l) (sym same) legal) h
        journal_completes k is legal (replay_answer.unspelled j at none place kind bad silent e) =
            absurd (refused_not_file (see host).tells told ((see host).file journal) IsJournal IsJournalFault place kind history bad file)
        journal_completes k is legal (replay_answer.absent j at none gone silent e) = absurd (seven (ap ending_status e))
        journal_completes k is legal (replay_answer.unread j at none silent e) = absurd (six (ap ending_status e))
        journal_completes k is legal (replay_answer.spent e) = (1, omega arith, sym (ap ending_status e))

        replay_completes : (w : RunWords) (start : Start) (x : Option Kept) → kept ≡ x → StartsAt start ending x → IsLegal start history → ReplayAnswers o w journal ending kept → Contains (0 ∷ 71 ∷ []) (ending_status ending)
        replay_completes w start None none spent legal answers = (1, omega arith, sym (ap ending_status spent))
        replay_completes w start (Some k) is begins legal (replay_answer.unstarted r none bad e) = absurd (let s : None ≡ Some k = sym none ∙ is in cc)
        replay_completes w start (Some k) is begins legal (replay_answer.began h) = journal_completes k is (subst (λ (s : Start). IsLegal s history) (sym begins) legal) h

      -- ---- what must be refused

      files_refused : (r : Refusal) → ending ≡ how.Refused r → OfFiles r → Contains (3 ∷ 71 ∷ []) (ending_status ending)
      files_refused r e (zero, l, is) = (0, omega arith, is ∙ sym (ap ending_status e))
      files_refused r e (suc zero, l, is) = absurd (six (ap ending_status e ∙ sym is))
      files_refused r e (suc (suc zero), l, is) = absurd (seven (ap ending_status e ∙ sym is))
      files_refused r e (suc (suc (suc k)), l, is) = absurd (omega (arith, l))

      guest_refuses : (way : Way) (w : RunWords) → kept ≡ None → GuestAnswers way o w ending kept → Contains (3 ∷ 71 ∷ []) (ending_status ending)
      guest_refuses way w none (guest_answer.unstarted r gone start e) = files_refused r e (start_of_files (see host).tells (see host).file w w.journal r start)
      guest_refuses way w none (guest_answer.began j at h) = absurd (let s : None ≡ Some j = sym none ∙ at in cc)
      guest_refuses way w none (guest_answer.spent e) = (1, omega arith, sym (ap ending_status e))

      history_refused : (journal : Word) (history : List Signed) → kept ≡ None → HistoryAnswers (watch console) (watch console_now) journal history ending kept → Contains (3 ∷ 71 ∷ []) (ending_status ending)
      history_refused journal history none (replay_answer.replayed j at same wrote e) = absurd (let s : None ≡ Some j = sym none ∙ at in cc)
      history_refused journal history none (replay_answer.unwritten j at same wrote e) = absurd (nine (ap ending_status e))
      history_refused journal history none (replay_answer.unlawful j at found bad same silent e) = (0, omega arith, sym (ap ending_status e))
      history_refused journal history none (replay_answer.spent e) = (1, omega arith, sym (ap ending_status e))

      journal_refused : (journal : Word) → kept ≡ None → JournalAnswers o journal ending kept → Contains (3 ∷ 71 ∷ []) (ending_status ending)
      journal_refused journal none (replay_answer.read history file h) = history_refused journal history none h
      journal_refused journal none (replay_answer.unspelled j at gone place kind bad silent e) = (0, omega arith, sym (ap ending_status e))
      journal_refused journal none (replay_answer.absent j at gone away silent e) = absurd (seven (ap ending_status e))
      journal_refused journal none (replay_answer.unread j at gone silent e) = absurd (six (ap ending_status e))
      journal_refused journal none (replay_answer.spent e) = (1, omega arith, sym (ap ending_status e))

      replay_refused : (w : RunWords) (journal : Word) → kept ≡ None → ReplayAnswers o w journal ending kept → Contains (3 ∷ 71 ∷ []) (ending_status ending)
      replay_refused w journal none (replay_answer.unstarted r gone start e) = files_refused r e (start_of_files (see host).tells (see host).file w (Some journal) r start)
      replay_refused w journal none (replay_answer.began h) = journal_refused journal none h

      -- the file is no journal's, or that of no history
      abbrev IsWrong : Word → Start → Type 0
      IsWrong journal start = IsRefused true ((see host).file journal) IsJournal ⊎ ((history : List Signed) × IsFileOf true ((see host).file journal) IsJournal history × (IsLegal start history → ⊥))

      module _ (told : (see host).tells ≡ true) (journal : Word) (k : Kept) (is : kept ≡ Some k) (run : IsRun k) (wrong : IsWrong journal k.start) where
        wrong_history : (history : List Signed) → IsFileOf (see host).tells ((see host).file journal) IsJournal history → k.journal ≡ history → IsWrong journal k.start → ⊥
        wrong_history history file same (inl refused) = file_not_refused (see host).tells told ((see host).file journal) IsJournal history file refused
        wrong_history history file same (inr (other, is_other, bad)) =
            bad (subst (λ (l : List Signed). IsLegal k.start l) (same ∙ one_meaning (see host).tells told ((see host).file journal) IsJournal one_journal history other file is_other) run.legal)

        history_wrong : (history : List Signed) → IsFileOf (see host).tells ((see host).file journal) IsJournal history → HistoryAnswers (watch console) (watch console_now) journal history ending kept
            → Contains (3 ∷ 71 ∷ []) (ending_status ending)
        history_wrong history file (replay_answer.replayed j at same wrote e) =
            let s : j ≡ k = (let t : Some j ≡ Some k = sym at ∙ is in cc) in absurd (wrong_history history file (sym (ap (λ (x : Kept). x.journal) s) ∙ same) wrong)
        history_wrong history file (replay_answer.unwritten j at same wrote e) = absurd (nine (ap ending_status e))
        history_wrong history file (replay_answer.unlawful j at found bad same silent e) = (0, omega arith, sym (ap ending_status e))
        history_wrong history file (replay_answer.spent e) = (1, omega arith, sym (ap ending_status e))

        journal_wrong : JournalAnswers o journal ending kept → Contains (3 ∷ 71 ∷ []) (ending_status ending)
        journal_wrong (replay_answer.read history file h) = history_wrong history file h
        journal_wrong (replay_answer.unspelled j at gone place kind bad silent e) = (0, omega arith, sym (ap ending_status e))
        journal_wrong (replay_answer.absent j at gone away silent e) = absurd (seven (ap ending_status e))
        journal_wrong (replay_answer.unread j at gone silent e) = absurd (six (ap ending_status e))
        journal_wrong (replay_answer.spent e) = (1, omega arith, sym (ap ending_status e))

        replay_wrong : (w : RunWords) → ReplayAnswers o w journal ending kept → Contains (3 ∷ 71 ∷ []) (ending_status ending)
        replay_wrong w (replay_answer.unstarted r gone start e) = files_refused r e (start_of_files (see host).tells (see host).file w (Some journal) r start)
        replay_wrong w (replay_answer.began h) = journal_wrong h

      replay_must : (w : RunWords) (journal : Word) (told : (see host).tells ≡ true) (start : Start) (x : Option Kept) → kept ≡ x → StartsAt start ending x → IfSome x (λ k. IsRun k) → IsWrong journal start
          → ReplayAnswers o w journal ending kept → Contains (3 ∷ 71 ∷ []) (ending_status ending)
      replay_must w journal told start None none spent run wrong answers = (1, omega arith, sym (ap ending_status spent))
      replay_must w journal told start (Some k) is begins run wrong answers = replay_wrong told journal k is run (subst (IsWrong journal) (sym begins) wrong) w answers

    -- ---- the works of solo

    disks_of : (w : RunWords) (x : Option Kept) → (WhereTold (see host).tells (IfSome x (λ k. HoldDisks (see host).file (see host_now).file k))) → IfSome x (λ k. DisksOf (Solo w) (see host) (see host_now) k)
    disks_of w None h = tt
    disks_of w (Some k) h = h

    module _ (run : IfSome kept (λ k. IsRun k)) (named : (name : List ℕ) → ending ≡ how.Refused (refusal.HostFault name) → IsNamed name (see host_now))
        (part : IfSome kept (λ k. TakesSome (sent_in k) (watch console) (watch console_now))) (silent : IfNone kept (console_now ≡ console)) where
      pub solo_works : (w : RunWords) → GuestAnswers by_rounds o w ending kept → IfSome kept (λ k. IsStartOf (see host).tells (see host).file w w.journal k.start)
          → ((start : Start) → (see host).tells ≡ true → IsStartOf true (see host).file w w.journal start → NoneRefused (see host) (see host_now) → StartsAt start ending kept)
          → ((e : Refusal) → (see host).tells ≡ true → StartOf true (see host).file w w.journal (Err e) → IsOfFiles e → IsNone kept)
          → IfSome kept (λ k. IsOrderly k.start k.journal) → ChangesOwn w (see host) (see host_now)
          → (IsEnd (ending_status ending) → WhereTold (see host).tells (IfSome kept (λ k. HoldDisks (see host).file (see host_now).file k)))
          → (IsEnd (ending_status ending) → (Rose (see host).image_faults (see host_now).image_faults → ⊥) → (ending_status ending ≢ 8) × IfSome kept (λ k. NoneFailed k))
          → (ending_status ending ≡ 8 → Rose (see host).image_faults (see host_now).image_faults)
          → Works see watch (Solo w) host host_now console console_now ending kept
      solo_works w answers start begins refuses orderly files disks sound doubted = record {
        answers = answer.ran_solo w refl answers;
        started = start;
        run = run;
        orderly = orderly;
        console_part = part;
        untouched = silent;
        files = files;
        disks = λ end. disks_of w kept (disks end);
        causes = causes;
        named = named;
        complete = λ told can calm. guest_completes calm by_rounds w can.0 kept refl (begins can.0 told can.1 (none_refused (see host) (see host_now) (watch console) (watch console_now) calm)) answers;
        refusal = λ told must calm. guest_refuses calm by_rounds w (none_kept kept (refuses must.0 told must.1 must.2)) answers;
        doubted = doubted;
        sound_images = λ end calm. (sound end calm).1;
      }

      -- ---- and of run

      pub run_works : (w : RunWords) → GuestAnswers in_threads o w ending kept → IfSome kept (λ k. IsStartOf (see host).tells (see host).file w w.journal k.start)
          → ((start : Start) → (see host).tells ≡ true → IsStartOf true (see host).file w w.journal start → NoneRefused (see host) (see host_now) → StartsAt start ending kept)
          → ((e : Refusal) → (see host).tells ≡ true → StartOf true (see host).file w w.journal (Err e) → IsOfFiles e → IsNone kept)
          → IfSome kept (λ k. IsOrderly k.start k.journal) → ChangesOwn w (see host) (see host_now)
          → (IsEnd (ending_status ending) → WhereTold (see host).tells (IfSome kept (λ k. HoldDisks (see host).file (see host_now).file k)))
          → (IsEnd (ending_status ending) → (Rose (see host).image_faults (see host_now).image_faults → ⊥) → (ending_status ending ≢ 8) × IfSome kept (λ k. NoneFailed k))
          → (ending_status ending ≡ 8 → Rose (see host).image_faults (see host_now).image_faults)
          → Works see watch (Run w) host host_now console console_now ending kept
      run_works w answers start begins refuses orderly files disks sound doubted = record {
        answers = answer.ran_threads w refl answers;
        started = start;
        run = run;
        orderly = orderly;
        console_part = part;
        untouched = silent;
        files = files;
        disks = λ end. disks_of w kept (disks end);
        causes = causes;
        named = named;
        complete = λ told can calm. guest_completes calm in_threads w can.0 kept refl (begins can.0 told can.1 (none_refused (see host) (see host_now) (watch console) (watch console_now) calm)) answers;
        refusal = λ told must calm. guest_refuses calm in_threads w (none_kept kept (refuses must.0 told must.1 must.2)) answers;
        doubted = doubted;
        sound_images = λ end calm. (sound end calm).1;
      }

      -- ---- and of replay

      history_plain : (journal : Word) (history : List Signed) → HistoryAnswers (watch console) (watch console_now) journal history ending kept → IsPlain ending
      history_plain journal history (replay_answer.replayed j at same wrote e) = inl e
      history_plain journal history (replay_answer.unwritten j at same wrote e) = inr (_, e)
      history_plain journal history (replay_answer.unlawful j at found bad same silent e) = inr (_, e)
      history_plain journal history (replay_answer.spent e) = inr (_, e)

      journal_plain : (journal : Word) → JournalAnswers o journal ending kept → IsPlain ending
      journal_plain journal (replay_answer.read history file h) = history_plain journal history h
      journal_plain journal (replay_answer.unspelled j at none place kind bad silent e) = inr (_, e)
      journal_plain journal (replay_answer.absent j at none gone silent e) = inr (_, e)
      journal_plain journal (replay_answer.unread j at none silent e) = inr (_, e)
      journal_plain journal (replay_answer.spent e) = inr (_, e)

      replay_plain : (w : RunWords) (journal : Word) → ReplayAnswers o w journal ending kept → IsPlain ending
      replay_plain w journal (replay_answer.unstarted r none bad e) = inr (r, e)
      replay_plain w journal (replay_answer.began h) = journal_plain journal h

      units : (P : Kept → Type 0) (x : Option Kept) → ((k : Kept) → P k) → IfSome x P
      units P None f = tt
      units P (Some k) f = f k

      pub replay_works : (w : RunWords) (journal : Word) → ReplayAnswers o w journal ending kept → IfSome kept (λ k. IsStartOf (see host).tells (see host).file w (Some journal) k.start)
          → ((start : Start) → (see host).tells ≡ true → IsStartOf true (see host).file w (Some journal) start → NoneRefused (see host) (see host_now) → StartsAt start ending kept)
          → ((e : Refusal) → (see host).tells ≡ true → StartOf true (see host).file w (Some journal) (Err e) → IsOfFiles e → IsNone kept)
          → ReadsHost (see host) (see host_now) → Works see watch (Replay w journal) host host_now console console_now ending kept
      replay_works w journal answers start begins refuses files = record {
        answers = answer.ran_replay w journal refl answers;
        started = start;
        run = run;
        orderly = units _ kept (λ k. tt);
        console_part = part;
        untouched = silent;
        files = files;
        disks = λ end. units _ kept (λ k. tt);
        causes = causes;
        named = named;
        complete = λ told can calm. replay_completes calm told journal can.1 can.3 w can.0 kept refl
            (begins can.0 told can.2 (none_refused (see host) (see host_now) (watch console) (watch console_now) calm)) can.4 answers;
        refusal = λ told must calm. replay_refusal told calm must;
        doubted = λ e. absurd (plain_not_eight ending (replay_plain w journal answers) e);
        sound_images = λ end calm. units _ kept (λ k. tt);
      } where
        replay_refusal : (see host).tells ≡ true → (calm : NoneRose (see host) (see host_now) (watch console) (watch console_now)) → MustRefuse (see host).file (Replay w journal) → Contains (3 ∷ 71 ∷ []) (ending_status ending)
        replay_refusal told calm (inl (e, bad, of_files)) = replay_refused calm w journal (none_kept kept (refuses e told bad of_files)) answers
        replay_refusal told calm (inr (first, is_first, wrong)) =
            replay_must calm w journal told first kept refl (begins first told is_first (none_refused (see host) (see host_now) (watch console) (watch console_now) calm)) run wrong answers

-- ---- make

abbrev MadeAnswers : ℕ → ℕ → Kept → SinkView → SinkView → Ending → Type 0
MadeAnswers cpus number k old new ending = make_answer.RunAnswers cpus number k old new ending

module _ {A B : Type 0} (see : A → HostView) (watch : B → SinkView) (host : A) (console console_now : B) (ending : Ending) (kept : Option Kept)
    (cpus number : ℕ) where
  sink_only : HasMakeCauses (ending_status ending) (watch console) (watch console_now) → HasCauses (ending_status ending) (see host) (see host) (watch console) (watch console_now)
  sink_only c = record {
    failed = λ e. absurd (c.no_host.0 e);
    missing = λ e. absurd (c.no_host.1 e);
    unwritten = c.unwritten;
    only_failed = λ lt. absurd (omega (arith, lt));
    only_missing = λ lt. absurd (omega (arith, lt));
    only_unwritten = c.only_unwritten;
    later = (omega arith, omega arith, c.later);
  }

  reason_done : (reason : Why) → reason ≢ why.Outside → Contains (0 ∷ 4 ∷ 5 ∷ 71 ∷ []) (why_status reason false)
  reason_done why.Finished ne = (0, omega arith, refl)
  reason_done (why.Stopped cpu stop rip) ne = (1, omega arith, refl)
  reason_done why.Budget ne = (2, omega arith, refl)
  reason_done why.Outside ne = absurd (ne refl)

  made_completes : (ending_status ending ≡ 9 → ⊥) → (k : Kept) → MadeAnswers cpus number k (watch console) (watch console_now) ending → Contains (0 ∷ 4 ∷ 5 ∷ 71 ∷ []) (ending_status ending)
  made_completes nine k (make_answer.told h takes e) = (0, omega arith, sym (ap ending_status e))
  made_completes nine k (make_answer.untold h takes e) = absurd (nine (ap ending_status e))
  made_completes nine k (make_answer.ended reason h ne inside takes e) = by_ending (0 ∷ 4 ∷ 5 ∷ 71 ∷ []) _ _ e (reason_done reason inside)
  made_completes nine k (make_answer.unwritten closed cut takes e) = absurd (nine (ap ending_status e))
  made_completes nine k (make_answer.spent takes e) = (3, omega arith, sym (ap ending_status e))

  make_completes : (ending_status ending ≡ 9 → ⊥) → MakeAnswers cpus number (watch console) (watch console_now) ending kept → Contains (0 ∷ 4 ∷ 5 ∷ 71 ∷ []) (ending_status ending)
  make_completes nine (make_answer.began k at h) = made_completes nine k h
  make_completes nine (make_answer.spent none e) = (3, omega arith, sym (ap ending_status e))

  reason_not_eight : (reason : Why) → why_status reason false ≡ 8 → ⊥
  reason_not_eight why.Finished e = omega (arith, e)
  reason_not_eight (why.Stopped cpu stop rip) e = omega (arith, e)
  reason_not_eight why.Budget e = omega (arith, e)
  reason_not_eight why.Outside e = omega (arith, e)

  made_not_eight : (k : Kept) → MadeAnswers cpus number k (watch console) (watch console_now) ending → ending_status ending ≡ 8 → ⊥
  made_not_eight k (make_answer.told h takes e) n = omega (arith, sym (ap ending_status e) ∙ n)
  made_not_eight k (make_answer.untold h takes e) n = omega (arith, sym (ap ending_status e) ∙ n)
  made_not_eight k (make_answer.ended reason h ne inside takes e) n = reason_not_eight reason (sym (ap ending_status e) ∙ n)
  made_not_eight k (make_answer.unwritten closed cut takes e) n = omega (arith, sym (ap ending_status e) ∙ n)
  made_not_eight k (make_answer.spent takes e) n = omega (arith, sym (ap ending_status e) ∙ n)

  make_not_eight : MakeAnswers cpus number (watch console) (watch console_now) ending kept → ending_status ending ≡ 8 → ⊥
  make_not_eight (make_answer.began k at h) n = made_not_eight k h n
  make_not_eight (make_answer.spent none e) n = omega (arith, sym (ap ending_status e) ∙ n)

  for_all : (P : Kept → Type 0) (x : Option Kept) → ((k : Kept) → P k) → IfSome x P
  for_all P None f = tt
  for_all P (Some k) f = f k

  pub make_works : ((see host).tells ≡ true → SinceEarlier (see host).left) → MakeAnswers cpus number (watch console) (watch console_now) ending kept → IfSome kept (λ k. IsMadeFrom cpus number k.start)
      → IfSome kept (λ k. IsRun k) → IfSome kept (λ k. IsOrderly k.start k.journal) → HasMakeCauses (ending_status ending) (watch console) (watch console_now)
      → IfSome kept (λ k. TakesSome (sent_in k ++ total_line cpus number) (watch console) (watch console_now)) → IfNone kept (console_now ≡ console)
      → Works see watch (Make cpus number) host host console console_now ending kept
  make_works earlier answers start run orderly causes part silent = record {
    answers = answer.ran_make cpus number refl answers;
    started = start;
    run = run;
    orderly = orderly;
    console_part = part;
    untouched = silent;
    files = reads_itself (see host) earlier;
    disks = λ end. for_all _ kept (λ k. tt);
    causes = sink_only causes;
    named = λ name e. absurd (causes.no_host.0 (ap ending_status e));
    complete = λ told can calm. make_completes (λ e. calm.not_unwritten (causes.unwritten e)) answers;
    refusal = λ told must calm. absurd must;
    doubted = λ e. absurd (make_not_eight answers e);
    sound_images = λ end calm. for_all _ kept (λ k. tt);
  }

-- ---- what keeps no run

module _ {A B : Type 0} (see : A → HostView) (watch : B → SinkView) (host host_now : A) (console console_now : B) (ending : Ending) (kept : Option Kept) (none : kept ≡ None) where
  abbrev around : Outside
  around = outside (see host) (see host_now) (watch console) (watch console_now)

  nothing : (P : Kept → Type 0) → IfSome kept P
  nothing P = subst (λ (x : Option Kept). IfSome x P) (sym none) tt

  kept_none : (command : Command) → IsPlain ending → Answers command around ending kept → Untouched command kept console console_now → Changes command (see host) (see host_now)
      → HasCauses (ending_status ending) (see host) (see host_now) (watch console) (watch console_now)
      → ((name : List ℕ) → ending ≡ how.Refused (refusal.HostFault name) → IsNamed name (see host_now))
      → ((see host).tells ≡ true → CanDo (see host).file command → NoneRose (see host) (see host_now) (watch console) (watch console_now) → Contains (done_statuses command) (ending_status ending))
      → ((see host).tells ≡ true → MustRefuse (see host).file command → NoneRose (see host) (see host_now) (watch console) (watch console_now) → Contains (3 ∷ 71 ∷ []) (ending_status ending))
      → Works see watch command host host_now console console_now ending kept
  kept_none command plain answers untouched files causes named complete refusal_of = record {
    answers = answers;
    started = nothing _;
    run = nothing _;
    orderly = nothing _;
    console_part = nothing _;
    untouched = untouched;
    files = files;
    disks = λ end. nothing _;
    causes = causes;
    named = named;
    complete = complete;
    refusal = refusal_of;
    doubted = λ e. absurd (plain_not_eight ending plain e);
    sound_images = λ end calm. nothing _;
  }

  show_plain : (config : Word) → ShowAnswers around config ending → IsPlain ending
  show_plain config (show_answer.shown plan is wrote e) = inl e
  show_plain config (show_answer.unwritten plan is wrote e) = inr (_, e)
  show_plain config (show_answer.refused r bad silent e) = inr (r, e)
  show_plain config (show_answer.spent silent e) = inr (_, e)

  files_only : HasCauses (ending_status ending) (see host) (see host_now) (watch console) (watch console_now) → NoneRose (see host) (see host_now) (watch console) (watch console_now)
      → (r : Refusal) → ending ≡ how.Refused r → OfFiles r → Contains (3 ∷ 71 ∷ []) (ending_status ending)
  files_only causes calm r e (zero, l, is) = (0, omega arith, is ∙ sym (ap ending_status e))
  files_only causes calm r e (suc zero, l, is) = absurd (calm.not_failed (causes.failed (ap ending_status e ∙ sym is)))
  files_only causes calm r e (suc (suc zero), l, is) = absurd (calm.not_missing (causes.missing (ap ending_status e ∙ sym is)))
  files_only causes calm r e (suc (suc (suc k)), l, is) = absurd (omega (arith, l))

  show_refuses : (config : Word) → HasCauses (ending_status ending) (see host) (see host_now) (watch console) (watch console_now) → NoneRose (see host) (see host_now) (watch console) (watch console_now)
      → IsRefusal ending → ShowAnswers around config ending → Contains (3 ∷ 71 ∷ []) (ending_status ending)
  show_refuses config causes calm refused (show_answer.shown plan is wrote e) = absurd (subst IsRefusal e refused)
  show_refuses config causes calm refused (show_answer.unwritten plan is wrote e) = absurd (calm.not_unwritten (causes.unwritten (ap ending_status e)))
  show_refuses config causes calm refused (show_answer.refused r bad silent e) = files_only causes calm r e (plan_of_files (see host).tells (see host).file config r bad)
  show_refuses config causes calm refused (show_answer.spent silent e) = (1, omega arith, sym (ap ending_status e))

  -- ---- show
  pub show_works : (config : Word) → ShowAnswers around config ending → HasCauses (ending_status ending) (see host) (see host_now) (watch console) (watch console_now)
      → ((name : List ℕ) → ending ≡ how.Refused (refusal.HostFault name) → IsNamed name (see host_now)) → ReadsHost (see host) (see host_now)
      → ((plan : Plan) → (see host).tells ≡ true → IsPlanOf true (see host).file config plan → NoneRose (see host) (see host_now) (watch console) (watch console_now) → Contains (0 ∷ 71 ∷ []) (ending_status ending))
      → ((e : Refusal) → (see host).tells ≡ true → PlanOf true (see host).file config (Err e) → IsOfFiles e → IsRefusal ending)
      → Works see watch (Show config) host host_now console console_now ending kept
  show_works config answers causes named files complete refuses =
      kept_none (Show config) (show_plain config answers) (answer.ran_show config refl none answers) tt files causes named (λ told can calm. complete can.0 told can.1 calm)
      (λ told must calm. show_refuses config causes calm (refuses must.0 told must.1 must.2) answers)

  -- ---- asm

  asm_plain : (file out : Word) → AsmAnswers (see host) (see host_now) file out ending → IsPlain ending
  asm_plain file out (asm_answer.assembled f is holds e) = inl e
  asm_plain file out (asm_answer.unwritten f is named e) = inr (_, e)
  asm_plain file out (asm_answer.refused at kind bad reads e) = inr (_, e)
  asm_plain file out (asm_answer.missing gone reads e) = inr (_, e)
  asm_plain file out (asm_answer.unread named reads e) = inr (_, e)
  asm_plain file out (asm_answer.spent e) = inr (_, e)

  named_as : (a name : List ℕ) → ending ≡ how.Refused (refusal.HostFault a) → ending ≡ how.Refused (refusal.HostFault name) → IsNamed a (see host_now) → IsNamed name (see host_now)
  named_as a name p q h = let e : how.Refused (refusal.HostFault a) ≡ how.Refused (refusal.HostFault name) = sym p ∙ q in let s : a ≡ name = cc in subst (λ (n : List ℕ). IsNamed n (see host_now)) s h

  asm_named : (file out : Word) → AsmAnswers (see host) (see host_now) file out ending → (name : List ℕ) → ending ≡ how.Refused (refusal.HostFault name) → IsNamed name (see host_now)
  asm_named file out (asm_answer.assembled f is holds e) name q = absurd (let s : how.Done ≡ how.Refused (refusal.HostFault name) = sym e ∙ q in cc)
  asm_named file out (asm_answer.unwritten f is named e) name q = named_as out name e q named
  asm_named file out (asm_answer.refused at kind bad reads e) name q = absurd (let s : how.Refused (refusal.Bad _ file at kind) ≡ how.Refused (refusal.HostFault name) = sym e ∙ q in cc)
  asm_named file out (asm_answer.missing gone reads e) name q = absurd (let s : how.Refused (refusal.Missing file) ≡ how.Refused (refusal.HostFault name) = sym e ∙ q in cc)
  asm_named file out (asm_answer.unread named reads e) name q = named_as file name e q named
  asm_named file out (asm_answer.spent e) name q = absurd (let s : how.Refused refusal.Memory ≡ how.Refused (refusal.HostFault name) = sym e ∙ q in cc)

  asm_completes : (file out : Word) (told : (see host).tells ≡ true) → HasCauses (ending_status ending) (see host) (see host_now) (watch console) (watch console_now)
      → NoneRose (see host) (see host_now) (watch console) (watch console_now) → (f : FlatImage) → IsFileOf true ((see host).file file) IsAssembly f
      → AsmAnswers (see host) (see host_now) file out ending → Contains (0 ∷ 71 ∷ []) (ending_status ending)
  asm_completes file out told causes calm f can (asm_answer.assembled g is holds e) = (0, omega arith, sym (ap ending_status e))
  asm_completes file out told causes calm f can (asm_answer.unwritten g is named e) = absurd (calm.not_failed (causes.failed (ap ending_status e)))
  asm_completes file out told causes calm f can (asm_answer.refused at kind bad reads e) =
      absurd (refused_not_file (see host).tells told ((see host).file file) IsAssembly IsAssemblyFault at kind f bad can)
  asm_completes file out told causes calm f can (asm_answer.missing gone reads e) = absurd (not_gone ((see host).file file) can.bytes (can.is_file refl) (gone told))
  asm_completes file out told causes calm f can (asm_answer.unread named reads e) = absurd (calm.not_failed (causes.failed (ap ending_status e)))
  asm_completes file out told causes calm f can (asm_answer.spent e) = (1, omega arith, sym (ap ending_status e))

  asm_refuses : (file out : Word) (told : (see host).tells ≡ true) → HasCauses (ending_status ending) (see host) (see host_now) (watch console) (watch console_now)
      → NoneRose (see host) (see host_now) (watch console) (watch console_now) → IsRefused true ((see host).file file) IsAssembly
      → AsmAnswers (see host) (see host_now) file out ending → Contains (3 ∷ 71 ∷ []) (ending_status ending)
  asm_refuses file out told causes calm must (asm_answer.assembled f is holds e) = absurd (file_not_refused (see host).tells told ((see host).file file) IsAssembly f is must)
  asm_refuses file out told causes calm must (asm_answer.unwritten f is named e) = absurd (calm.not_failed (causes.failed (ap ending_status e)))
  asm_refuses file out told causes calm must (asm_answer.refused at kind bad reads e) = (0, omega arith, sym (ap ending_status e))
  asm_refuses file out told causes calm must (asm_answer.missing gone reads e) = absurd (calm.not_missing (causes.missing (ap ending_status e)))
  asm_refuses file out told causes calm must (asm_answer.unread named reads e) = absurd (calm.not_failed (causes.failed (ap ending_status e)))
  asm_refuses file out told causes calm must (asm_answer.spent e) = (1, omega arith, sym (ap ending_status e))

  untouched_by : console_now ≡ console → IfNone kept (console_now ≡ console)
  untouched_by e = subst (λ (x : Option Kept). IfNone x (console_now ≡ console)) (sym none) e

  pub asm_works : (file out : Word) → AsmAnswers (see host) (see host_now) file out ending → HasCauses (ending_status ending) (see host) (see host_now) (watch console) (watch console_now)
      → WritesFile out (see host) (see host_now) → console_now ≡ console → Works see watch (Asm file out) host host_now console console_now ending kept
  asm_works file out answers causes files still =
      kept_none (Asm file out) (asm_plain file out answers) (answer.ran_asm file out refl none answers) (untouched_by still) files causes (asm_named file out answers)
      (λ told can calm. asm_completes file out told causes calm can.0 can.1 answers)
      (λ told must calm. asm_refuses file out told causes calm must answers)

-- ---- what touches neither host nor console

unchanged : (c : Command) → (a : HostView) → (a.tells ≡ true → SinceEarlier a.left) → Changes c a a
unchanged (Solo w) a earlier = inl (reads_itself a earlier)
unchanged (Run w) a earlier = inl (reads_itself a earlier)
unchanged (Asm file out) a earlier = reads_writes a a (λ q. q ≡ out) (reads_itself a earlier)
unchanged c a earlier = reads_itself a earlier

cannot : (files : List ℕ → Option (List ℕ)) (c : Command) (word : Word) → unbuilt c ≡ Some word → CanDo files c → ⊥
cannot files (Solo w) word un can = let s : None ≡ Some word = un in cc
cannot files (Replay w journal) word un can = let s : None ≡ Some word = un in cc
cannot files (Run w) word un can = let s : None ≡ Some word = un in cc
cannot files (Show config) word un can = let s : None ≡ Some word = un in cc
cannot files (Asm file out) word un can = let s : None ≡ Some word = un in cc
cannot files (Make cpus number) word un can = let s : None ≡ Some word = un in cc
cannot files (Convert file out) word un can = can
cannot files (Arrive file out) word un can = can
cannot files (Inspect w i) word un can = can

still : {B : Type 0} (c : Command) (kept : Option Kept) (console : B) → Untouched c kept console console
still (Show config) kept console = tt
still c None console = refl
still c (Some k) console = tt

pub later_works : {A B : Type 0} (see : A → HostView) (watch : B → SinkView) (host : A) (console : B) (earlier : (see host).tells ≡ true → SinceEarlier (see host).left)
    → (c : Command) (word : Word) (ending : Ending) (kept : Option Kept) → unbuilt c ≡ Some word → kept ≡ None → IsLater word ending → Works see watch c host host console console ending kept
later_works see watch host console earlier c word ending kept un none (inl is) =
    kept_none see watch host host console console ending kept none c (inr (_, is)) (answer.unbuilt_yet word un none is) (still c kept console) (unchanged c (see host) earlier)
    (no_causes (ending_status ending) (see host) (watch console) (λ e. omega (arith, sym (ap ending_status is) ∙ e)) (λ e. omega (arith, sym (ap ending_status is) ∙ e)) (λ e. omega (arith, sym (ap ending_status is) ∙ e)))
    (λ name q. absurd (let s : how.Refused (refusal.Bad _ word 0 _) ≡ how.Refused (refusal.HostFault name) = sym is ∙ q in cc))
    (λ told can calm. absurd (cannot (see host).file c word un can))
    (λ told must calm. (0, omega arith, sym (ap ending_status is)))
later_works see watch host console earlier c word ending kept un none (inr is) =
    kept_none see watch host host console console ending kept none c (inr (_, is)) (answer.spent none is) (still c kept console) (unchanged c (see host) earlier)
    (no_causes (ending_status ending) (see host) (watch console) (λ e. omega (arith, sym (ap ending_status is) ∙ e)) (λ e. omega (arith, sym (ap ending_status is) ∙ e)) (λ e. omega (arith, sym (ap ending_status is) ∙ e)))
    (λ name q. absurd (let s : how.Refused refusal.Memory ≡ how.Refused (refusal.HostFault name) = sym is ∙ q in cc))
    (λ told can calm. absurd (cannot (see host).file c word un can))
    (λ told must calm. (1, omega arith, sym (ap ending_status is)))

-- memory is out before anything was done
pub spent_works : {A B : Type 0} (see : A → HostView) (watch : B → SinkView) (host : A) (console : B) (earlier : (see host).tells ≡ true → SinceEarlier (see host).left)
    → (c : Command) → Works see watch c host host console console (how.Refused refusal.Memory) None
spent_works see watch host console earlier c =
    kept_none see watch host host console console (how.Refused refusal.Memory) None refl c (inr (refusal.Memory, refl)) (answer.spent refl refl) (still c None console) (unchanged c (see host) earlier)
    (no_causes 71 (see host) (watch console) (λ e. omega (arith, e)) (λ e. omega (arith, e)) (λ e. omega (arith, e)))
    (λ name q. absurd (let s : how.Refused refusal.Memory ≡ how.Refused (refusal.HostFault name) = q in cc))
    (λ told can calm. spent_done c)
    (λ told must calm. (1, omega arith, refl))
