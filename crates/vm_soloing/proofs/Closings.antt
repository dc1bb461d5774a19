-- The end of a run: its images come back, and its journal is written.
use Rattle.std.specs.Prelude.{slice_index_or}
use Rattle.std.proofs.Common.{◌≡◌, inl, inr, ℕ, ◌<◌, Bool, true, false, List, length, Option, Some, None, Result, Ok, Err, refl, sym, subst, ◌∙◌, ap, arith}
use Rattle.std.proofs.lemmas.Bool.{cases_lt}
use Rattle.std.proofs.lemmas.List.{get_or_past}
use Rattle.vm_host.specs.Counts.{Rose, RoseExactly, SameCounts}
use Rattle.vm_host.specs.Leaves.{LeavesHost}
use Rattle.vm_host.specs.Told.{WhereTold}
use Rattle.vm_host.specs.Views.{HostView, ImageView}
use Rattle.vm_host.proofs.Frames.{leaves_among, leaves_on, reads_writes, writes_among, writes_leaves}
use Rattle.vm_board.specs.Homes.{IsAtHome, has_failed}
use Rattle.vm_control.specs.declared.control.OutFault.{OutFault}
use Rattle.vm_control.specs.declared.control.OutFault.TheVariants as fault
use Rattle.vm_law.specs.declared.journal.Signed.{Signed}
use Rattle.vm_law.specs.declared.plan.Plan.{Plan}
use Rattle.vm_outcome.specs.declared.outcome.Ending.{Ending}
use Rattle.vm_outcome.specs.declared.outcome.Ending.TheVariants as how
use Rattle.vm_outcome.specs.Causes.{HasSaveCauses}
use Rattle.vm_outcome.specs.Ends.{ended_as, ending_status}
use Rattle.vm_solo.specs.Home.{AreAllHome, IsHome}
use Rattle.vm_soloing.specs.Answers.{IsSaved}
use Rattle.vm_soloing.specs.Closing as closing
use Rattle.vm_soloing.specs.Closing.{ChangesOnly, Closes, FollowAll, HasJournalCauses, IsApart, IsUnsaved}
use Rattle.vm_soloing.specs.Disks.{IsOwn}
use Rattle.vm_start.specs.Images.{HasFailed, IsGivenBack, path_of}
use Rattle.vm_state.specs.declared.start.Start.{Start}
use Rattle.vm_state.specs.State.{State}
use Rattle.vm_state.specs.declared.run_state.Why.{Why}
use Rattle.vm_state.specs.declared.run_state.Why.TheVariants as whys
use Rattle.vm_status.specs.Lines.{status_of}
use Rattle.vm_status.specs.declared.refusal.Refusal.{Refusal}

-- ---- a journal that isn't saved

pub unsaved_closes : (old new : HostView) (journal : Option (List ℕ)) (history : List Signed) (state : State) (end : Result (Unit {0}) OutFault) (refusal : Refusal) → end ≡ Ok tt
    → IsUnsaved journal new refusal → Closes old new journal history state end (how.Refused refusal)
unsaved_closes old new journal history state end refusal is un =
    subst (λ (r : Result (Unit {0}) OutFault). Closes old new journal history state r (how.Refused refusal)) (sym is) (closing.unsaved refusal refl un)

-- how a run came to its end isn't the host's
ended_no : (why : Option Why) (doubt : Bool) → (ending_status (ended_as why doubt) ≡ 6 → ⊥) × (ending_status (ended_as why doubt) ≡ 7 → ⊥)
ended_no None doubt = (λ e. omega (arith, e), λ e. omega (arith, e))
ended_no (Some whys.Finished) true = (λ e. omega (arith, e), λ e. omega (arith, e))
ended_no (Some whys.Finished) false = (λ e. omega (arith, e), λ e. omega (arith, e))
ended_no (Some (whys.Stopped cpu stop rip)) doubt = (λ e. omega (arith, e), λ e. omega (arith, e))
ended_no (Some whys.Budget) doubt = (λ e. omega (arith, e), λ e. omega (arith, e))
ended_no (Some whys.Outside) doubt = (λ e. omega (arith, e), λ e. omega (arith, e))

pub well_causes : (why : Option Why) (doubt : Bool) (ending : Ending) (old new : HostView) → ending ≡ ended_as why doubt → HasSaveCauses 0 old new → HasJournalCauses (ending_status ending) old new
well_causes why doubt ending old new is c =
    let no = ended_no why doubt in
    record {
      failed = λ e. absurd (no.0 (sym (ap ending_status is) ∙ e));
      only_failed = λ lt. absurd (omega (arith, c.only_failed lt));
      later = c.later;
      none_missing = (λ e. no.1 (sym (ap ending_status is) ∙ e), c.misses);
    }

pub unsaved_causes : (journal : Option (List ℕ)) (old new : HostView) (refusal : Refusal) → IsUnsaved journal new refusal → HasSaveCauses (status_of refusal) old new
    → HasJournalCauses (status_of refusal) old new
unsaved_causes journal old new refusal un c = record {
  failed = c.failed;
  only_failed = λ lt. inl (c.only_failed lt);
  later = c.later;
  none_missing = (no_miss un, c.misses);
} where
  no_miss : IsUnsaved journal new refusal → status_of refusal ≡ 7 → ⊥
  no_miss (inl (name, named, told, r)) e = omega (arith, ap status_of r, e)
  no_miss (inr r) e = omega (arith, ap status_of r, e)

-- behind the console's failure
pub unwritten_causes : (n : ℕ) (old new : HostView) → HasSaveCauses n old new → HasJournalCauses 9 old new
unwritten_causes n old new c = record {
  failed = λ e. absurd (omega (arith, e));
  only_failed = λ lt. inr refl;
  later = c.later;
  none_missing = (λ e. omega (arith, e), c.misses);
}

pub saved_moved : (old mid new : HostView) (journal : Option (List ℕ)) (history : List Signed) → mid.tells ≡ old.tells → IsSaved mid new journal history → IsSaved old new journal history
saved_moved old mid new None history same s = s
saved_moved old mid new (Some name) history same s = λ told. s (same ∙ told)

saves_moved : (old mid new : HostView) (journal : Option (List ℕ)) (history : List Signed) (state : State) (ending : Ending) → mid.tells ≡ old.tells
    → closing.Saves mid new journal history state ending → closing.Saves old new journal history state ending
saves_moved old mid new journal history state ending same (closing.saved e s) = closing.saved e (saved_moved old mid new journal history same s)
saves_moved old mid new journal history state ending same (closing.unsaved r e u) = closing.unsaved r e u

pub closes_moved : (old mid new : HostView) (journal : Option (List ℕ)) (history : List Signed) (state : State) (end : Result (Unit {0}) OutFault) (ending : Ending) → mid.tells ≡ old.tells
    → Closes mid new journal history state end ending → Closes old new journal history state end ending
closes_moved old mid new journal history state (Ok x) ending same c = saves_moved old mid new journal history state ending same c
closes_moved old mid new journal history state (Err fault.Memory) ending same c = c
closes_moved old mid new journal history state (Err fault.Failed) ending same c = c
closes_moved old mid new journal history state (Err fault.Sink) ending same c = c

pub causes_moved : (status : ℕ) (old mid new : HostView) → SameCounts old mid → HasJournalCauses status mid new → HasJournalCauses status old new
causes_moved status old mid new same c = record {
  failed = λ e. subst (λ (n : ℕ). Rose n new.faults) same.faults (c.failed e);
  only_failed = λ lt. c.only_failed (omega (arith, lt, same.faults));
  later = omega (arith, c.later, same.faults);
  none_missing = (c.none_missing.0, c.none_missing.1 ∙ same.misses);
}

-- ---- files

pub journal_own : (plan : Plan) (journal : Option (List ℕ)) (old new : HostView) → ChangesOnly journal old new → LeavesHost (IsOwn plan journal) old new
journal_own plan None old new h = writes_leaves old new (IsOwn plan None) (reads_writes old new (IsOwn plan None) h)
journal_own plan (Some name) old new h =
    writes_leaves old new (IsOwn plan (Some name)) (writes_among old new (λ q. q ≡ name) (IsOwn plan (Some name)) (λ q e. inr (ap {A = List ℕ} {B = Option (List ℕ)} (λ n. Some n) (sym e))) h)

-- what the journal's file isn't stays
other_file : (journal : Option (List ℕ)) (old new : HostView) (q : List ℕ) → old.tells ≡ true → ChangesOnly journal old new → ((name : List ℕ) → journal ≡ Some name → name ≡ q → ⊥) → new.file q ≡ old.file q
other_file None old new q told h apart = ap (λ F. F q) (h.files told)
other_file (Some name) old new q told h apart = h.files told q (λ e. apart name refl (sym e))

faults_stay : (journal : Option (List ℕ)) (old new : HostView) → ChangesOnly journal old new → new.image_faults ≡ old.image_faults
faults_stay None old new h = h.image_faults
faults_stay (Some name) old new h = h.image_faults

module _ {I : Type 0} (start : Start) (images : List (Option I)) (count : length images ≡ length start.plan.disks) where
  inside : (d : ℕ) (image : I) → slice_index_or images d None ≡ Some image → d < length start.plan.disks
  inside d image is =
      elim (cases_lt d (length images)) [
        | inl lt ↦ omega (arith, lt, count)
        | inr past ↦ absurd (let e : None ≡ Some image = sym (get_or_past images d None past) ∙ is in cc)
      ]

  given_own : (journal : Option (List ℕ)) (q : List ℕ) → IsGivenBack start.plan images q → IsOwn start.plan journal q
  given_own journal q (d, (image, is, e)) = inl (d, inside d image is, e)

  pub back_own : (journal : Option (List ℕ)) (old mid new : HostView) → LeavesHost (IsGivenBack start.plan images) old mid → ChangesOnly journal mid new → LeavesHost (IsOwn start.plan journal) old new
  back_own journal old mid new given saved =
      leaves_on old mid new (IsOwn start.plan journal)
      (leaves_among old mid (IsGivenBack start.plan images) (IsOwn start.plan journal) (given_own journal) given)
      (journal_own start.plan journal mid new saved)

module _ {I : Type 0} (seen : I → ImageView) (start : Start) (history : List Signed) (images : List (Option I)) (count : length images ≡ length start.plan.disks) where
  at_home : (d : ℕ) (o : Option I) → slice_index_or images d None ≡ o → IsHome seen start history d o → (image : I) × (slice_index_or images d None ≡ Some image) × IsAtHome start history d (seen image)
  at_home d None is h = absurd h
  at_home d (Some image) is h = (image, is, h)

  found : AreAllHome seen start history images → (d : ℕ) → d < length start.plan.disks → (image : I) × (slice_index_or images d None ≡ Some image) × IsAtHome start history d (seen image)
  found home d within = at_home d (slice_index_or images d None) refl (home.each d (omega (arith, within, count)))

  pub back_follows : (journal : Option (List ℕ)) (old mid new : HostView) → AreAllHome seen start history images → IsApart journal start.plan → mid.tells ≡ old.tells → ChangesOnly journal mid new
      → WhereTold old.tells ((d : ℕ) (image : I) → slice_index_or images d None ≡ Some image → WhereTold (seen image).tells (mid.file (path_of start.plan d) ≡ Some (seen image).content))
      → WhereTold old.tells ((image : I) → (seen image).tells ≡ true) → WhereTold old.tells (FollowAll new.file start history)
  back_follows journal old mid new home apart same saved content tell told d within =
      let f = found home d within in (
        (seen f.0).content,
        other_file journal mid new (path_of start.plan d) (same ∙ told) saved (λ name is e. apart name is (d, within, e)) ∙ content told d f.0 f.1 (tell told f.0),
        f.2.reads (tell told f.0),
      )

  pub back_failed : (journal : Option (List ℕ)) (old mid new : HostView) → AreAllHome seen start history images → ChangesOnly journal mid new
      → RoseExactly (HasFailed seen images) old.image_faults mid.image_faults
      → (d : ℕ) → d < length start.plan.disks → has_failed d history ≡ true → Rose old.image_faults new.image_faults
  back_failed journal old mid new home saved rose d within failed =
      let f = found home d within in
      subst (λ (n : ℕ). Rose old.image_faults n) (sym (faults_stay journal mid new saved)) (rose.rises (d, (f.0, f.1, f.2.failed failed)))
