-- What a run from words and files is, of the run from their start.
use Rattle.std.specs.Prelude.{slice_index_or}
use Rattle.std.proofs.Common.{◌≡◌, ◌≢◌, ◌⊎◌, inl, inr, ℕ, Bool, true, false, List, Option, Some, None, Err, IfSome, IfNone, IsSome, IsSomeAnd, refl, sym, subst, ◌∙◌, ap, arith}
use Rattle.std.proofs.lemmas.Bool.{cases_Bool}
use Rattle.vm_host.specs.Counts.{Rose}
use Rattle.vm_host.specs.Leaves.{LeavesHost, TakesSome}
use Rattle.vm_host.specs.Told.{WhereTold}
use Rattle.vm_host.specs.Views.{HostView, SinkView}
use Rattle.vm_host.proofs.Frames.{leaves_on}
use Rattle.vm_board.specs.Homes.{has_failed}
use Rattle.vm_cmd.specs.declared.command.RunWords.{RunWords}
use Rattle.vm_outcome.specs.declared.outcome.Ending.{Ending}
use Rattle.vm_outcome.specs.declared.outcome.Ending.TheVariants as how
use Rattle.vm_outcome.specs.declared.outcome.Kept.{Kept}
use Rattle.vm_outcome.specs.Causes.{IsNamed}
use Rattle.vm_outcome.specs.Ends.{ending_status, why_status}
use Rattle.vm_outcome.specs.Outside.{IsEnd, StartsAt, outside, sent_in}
use Rattle.vm_outcome.specs.Telling.{IsRun, has_doubt}
use Rattle.vm_replaying.proofs.Starting.{as_ending}
use Rattle.vm_soloing.specs.Answers as answer
use Rattle.vm_soloing.specs.Answers.{GuestAnswers, RunAnswers, Way}
use Rattle.vm_soloing.specs.Closing.{FollowAll}
use Rattle.vm_soloing.specs.Disks.{ChangesOwn, Follows, HoldDisks, IsOwn}
use Rattle.vm_soloing.specs.Keeping.{NoneFailed, RunsFrom}
use Rattle.vm_soloing.proofs.Doubts.{doubt_has_cause}
use Rattle.vm_soloing.proofs.Moving.{Quiet, runs_moved}
use Rattle.vm_soloing.proofs.Plans.{drives_count}
use Rattle.vm_soloing.proofs.ReadOnly.{reads_as_disk}
use Rattle.vm_start.specs.Images.{AreFilesOf, path_of}
use Rattle.vm_start.specs.Start.{IsStartOf, StartOf}
use Rattle.vm_state.specs.declared.run_state.Why.{Why}
use Rattle.vm_state.specs.declared.run_state.Why.TheVariants as why
use Rattle.vm_state.specs.declared.start.Start.{Start}
use Rattle.vm_state.specs.Start.{no_plan}
use Rattle.vm_state.specs.State.{image_at}
use Rattle.vm_status.specs.Lines.{status_of}
use Rattle.vm_status.specs.declared.refusal.Refusal.{Refusal}
use Rattle.vm_status.specs.declared.refusal.Refusal.TheVariants as refusals
use Rattle.vm_status.specs.declared.refusal.Refusal.TheVariants.{HostFault, Memory}
use Rattle.vm_table.specs.History.{last_state}
use Rattle.vm_table.specs.Turns.{IsOrderly}

-- ---- statuses

eight : (w : Why) (doubt : Bool) → why_status w doubt ≡ 8 → doubt ≡ true
eight why.Finished true e = refl
eight why.Finished false e = absurd (omega (arith, e))
eight (why.Stopped cpu stop rip) doubt e = absurd (omega (arith, e))
eight why.Budget doubt e = absurd (omega (arith, e))
eight why.Outside doubt e = absurd (omega (arith, e))

pub refusal_no_eight : (r : Refusal) → status_of r ≡ 8 → ⊥
refusal_no_eight refusals.Usage e = omega (arith, e)
refusal_no_eight (refusals.Bad role name place kind) e = omega (arith, e)
refusal_no_eight (refusals.BadPlan name variable kind) e = omega (arith, e)
refusal_no_eight (refusals.HostFault name) e = omega (arith, e)
refusal_no_eight (refusals.Missing name) e = omega (arith, e)
refusal_no_eight refusals.Console e = omega (arith, e)
refusal_no_eight refusals.Memory e = omega (arith, e)

-- ---- the start wasn't read

pub not_started : (way : Way) (old new : HostView) (console : SinkView) (w : RunWords) (journal : Option (List ℕ)) (refusal : Refusal) → journal ≡ w.journal
    → (refusal ≡ Memory) ⊎ StartOf old.tells old.file w journal (Err refusal) → GuestAnswers way (outside old new console console) w (how.Refused refusal) None
not_started way old new console w journal refusal e (inl is) = answer.spent (as_ending _ _ is)
not_started way old new console w journal refusal e (inr is) =
    answer.unstarted refusal refl (subst (λ (j : Option (List ℕ)). StartOf old.tells old.file w j (Err refusal)) e is) refl

-- ---- it was

module _ (way : Way) (w : RunWords) (journal : Option (List ℕ)) (named : journal ≡ w.journal) (start : Start) (old mid new : HostView) (console console_now : SinkView)
    (ending : Ending) (q : Quiet start.plan journal old mid) where
  abbrev Runs : Kept → Type 0
  Runs k = RunsFrom way start journal (outside mid new console console_now) ending k

  whole : (k : Kept) → Runs k → RunsFrom way start journal (outside old new console console_now) ending k
  whole k r = runs_moved way start journal old mid new console console_now ending k q r

  pub solo_answers : (kept : Option Kept) → IfSome kept Runs → IfNone kept (ending ≡ how.Refused Memory) → GuestAnswers way (outside old new console console_now) w ending kept
  solo_answers None r spent = answer.spent spent
  solo_answers (Some k) r spent =
      answer.began k refl (subst (λ (j : Option (List ℕ)). RunAnswers way (outside old new console console_now) j k ending) named (whole k r).answers)

  pub solo_run : (kept : Option Kept) → IfSome kept Runs → IfSome kept (λ k. IsRun k)
  solo_run None r = tt
  solo_run (Some k) r = r.from.run

  pub solo_orderly : (kept : Option Kept) → IfSome kept Runs → IfSome kept (λ k. IsOrderly k.start k.journal)
  solo_orderly None r = tt
  solo_orderly (Some k) r = r.from.orderly

  pub solo_start : (told : Bool) (file : List ℕ → Option (List ℕ)) (kept : Option Kept) → IsStartOf told file w journal start → IfSome kept Runs → IfSome kept (λ k. IsStartOf told file w w.journal k.start)
  solo_start told file None is r = tt
  solo_start told file (Some k) is r =
      subst (λ (s : Start). IsStartOf told file w w.journal s) (sym r.from.start) (subst (λ (j : Option (List ℕ)). IsStartOf told file w j start) named is)

  pub solo_begins : (first : Start) (kept : Option Kept) → start ≡ first → IfSome kept Runs → IfNone kept (ending ≡ how.Refused Memory) → StartsAt first ending kept
  solo_begins first None same r spent = spent
  solo_begins first (Some k) same r spent = r.from.start ∙ same

  pub solo_named : (kept : Option Kept) (name : List ℕ) → IfSome kept Runs → IfNone kept (ending ≡ how.Refused Memory) → ending ≡ how.Refused (HostFault name) → IsNamed name new
  solo_named None name r spent e = absurd (let x : how.Refused Memory ≡ how.Refused (HostFault name) = sym spent ∙ e in cc)
  solo_named (Some k) name r spent e = r.named name e

  pub solo_console : (kept : Option Kept) → IfSome kept Runs → IfSome kept (λ k. TakesSome (sent_in k) console console_now)
  solo_console None r = tt
  solo_console (Some k) r = r.console

  pub solo_own : IsStartOf old.tells old.file w journal start → LeavesHost (IsOwn start.plan journal) mid new → ChangesOwn w old new
  solo_own is leaves =
      inr (
        start,
        subst (λ (j : Option (List ℕ)). IsStartOf old.tells old.file w j start) named is,
        subst (λ (j : Option (List ℕ)). LeavesHost (IsOwn start.plan j) old new) named (leaves_on old mid new (IsOwn start.plan journal) q.leaves leaves),
      )

  -- ---- disks

  follows : (k : Kept) → IsRun k → AreFilesOf old.file k.start → FollowAll new.file k.start k.journal → HoldDisks old.file new.file k
  follows k run files all d within = go (slice_index_or k.start.plan.disks d no_plan).ro refl where
    go : (b : Bool) → (slice_index_or k.start.plan.disks d no_plan).ro ≡ b
        → Follows b (old.file (path_of k.start.plan d)) (new.file (path_of k.start.plan d)) (image_at (last_state k.start k.journal) d)
    go false is = all d within
    go true is =
        let a = all d within in
        a.1 ∙ ap {A = List ℕ} {B = Option (List ℕ)} (λ c. Some c) (reads_as_disk k.start k.journal run.sound run.legal d within is a.0 a.2) ∙ sym (files d within)

  pub solo_disks : (kept : Option Kept) → WhereTold old.tells (AreFilesOf old.file start) → IfSome kept Runs → IsEnd (ending_status ending)
      → WhereTold old.tells (IfSome kept (λ k. HoldDisks old.file new.file k))
  solo_disks None files r is told = tt
  solo_disks (Some k) files r is told =
      follows k r.from.run (subst (λ (s : Start). AreFilesOf old.file s) (sym r.from.start) (files told)) (r.disks is (q.leaves.told ∙ told))

  rose_before : Rose mid.image_faults new.image_faults → Rose old.image_faults new.image_faults
  rose_before rose = subst (λ (n : ℕ). Rose n new.image_faults) q.image_faults rose

  is_end_eight : ending_status ending ≡ 8 → IsEnd (ending_status ending)
  is_end_eight e = (3, omega arith, sym e)

  doubted_of : (k : Kept) → Runs k → ending_status ending ≡ 8 → RunAnswers way (outside mid new console console_now) journal k ending → Rose old.image_faults new.image_faults
  doubted_of k r e (answer.unopened none still d within is) = absurd (omega (arith, ap ending_status is, e))
  doubted_of k r e (answer.unsaved run name n is) = absurd (omega (arith, ap ending_status is, e))
  doubted_of k r e (answer.unwritten closed cut is) = absurd (omega (arith, ap ending_status is, e))
  doubted_of k r e (answer.spent is) = absurd (omega (arith, ap ending_status is, e))
  doubted_of k r e (answer.ran run reason found is saved) =
      let doubt = eight reason (has_doubt (last_state k.start k.journal)) (sym (ap ending_status is) ∙ e) in
      let cause = doubt_has_cause k.start k.journal doubt in
      rose_before (r.failed (is_end_eight e) cause.0 (omega (arith, cause.1, drives_count k.start k.journal r.from.run.sound)) cause.2)

  pub solo_doubted : (kept : Option Kept) → IfSome kept Runs → IfNone kept (ending ≡ how.Refused Memory) → ending_status ending ≡ 8 → Rose old.image_faults new.image_faults
  solo_doubted None r spent e = absurd (omega (arith, ap ending_status spent, e))
  solo_doubted (Some k) r spent e = doubted_of k r e r.answers

  none_failed : (k : Kept) → Runs k → IsEnd (ending_status ending) → (Rose old.image_faults new.image_faults → ⊥) → NoneFailed k
  none_failed k r is calm d within =
      elim (cases_Bool (has_failed d k.journal)) [
        | inl failed ↦ absurd (calm (rose_before (r.failed is d within failed)))
        | inr never ↦ never
      ]

  all_sound : (kept : Option Kept) → IfSome kept Runs → IsEnd (ending_status ending) → (Rose old.image_faults new.image_faults → ⊥) → IfSome kept (λ k. NoneFailed k)
  all_sound None r is calm = tt
  all_sound (Some k) r is calm = none_failed k r is calm

  pub solo_sound : (kept : Option Kept) → IfSome kept Runs → IfNone kept (ending ≡ how.Refused Memory) → IsEnd (ending_status ending) → (Rose old.image_faults new.image_faults → ⊥)
      → (ending_status ending ≢ 8) × IfSome kept (λ k. NoneFailed k)
  solo_sound kept r spent is calm = (λ e. calm (solo_doubted kept r spent e), all_sound kept r is calm)

-- ---- a start of which nothing was run

pub unlent_kept : (P Q : Kept → Type 0) (kept : Option Kept) → IsSomeAnd kept P → ((k : Kept) → P k → Q k) → IfSome kept Q
unlent_kept P Q None h f = absurd h
unlent_kept P Q (Some k) h f = f k h

pub is_some_of : (P : Kept → Type 0) (kept : Option Kept) → IsSomeAnd kept P → IsSome kept
is_some_of P None h = absurd h
is_some_of P (Some k) h = refl
