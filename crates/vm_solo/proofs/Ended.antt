-- Why a run has ended stays, and a run that is closed has ended.
use Rattle.std.specs.Prelude.{Option, Some, None, is_none, is_some}
use Rattle.std.proofs.Common.{◌≡◌, ℕ, true, false, List, [], ◌∷◌, refl, sym, ap, ◌∙◌, inl, inr}
use Rattle.std.proofs.lemmas.Bool.{and_parts, true≢false}
use Rattle.vm_law.specs.declared.journal.Entry.{Entry}
use Rattle.vm_law.specs.declared.journal.Entry.TheVariants.{Enter, Step, Turn, Done, End, Close}
use Rattle.vm_law.specs.declared.journal.Signed.{Signed}
use Rattle.vm_law.specs.declared.stage.MeetKind.{MeetKind}
use Rattle.vm_law.specs.declared.stage.MeetKind.TheVariants.{Routing, Sample}
use Rattle.vm_meet.specs.declared.meeting.Meeting.{Meeting}
use Rattle.vm_state.specs.declared.run_state.Why.{Why}
use Rattle.vm_state.specs.declared.start.Start.{Start}
use Rattle.vm_state.specs.Start.{boot, first_state}
use Rattle.vm_state.specs.State.{State}
use Rattle.vm_owners.specs.Owners.{after_claim, after_start, after_exit, after_sleep, after_wake, after_yield}
use Rattle.vm_owners.specs.Turn.{turn_taken, turn_in, after_turn}
use Rattle.vm_running.specs.Enter.{may_enter}
use Rattle.vm_running.specs.Slice.{spent, after_slice}
use Rattle.vm_running.specs.Step.{has_step, may_step}
use Rattle.vm_disks.specs.Queueing.{after_pull, after_begin}
use Rattle.vm_disks.specs.Moving.{after_move, after_finish}
use Rattle.vm_disks.specs.Images.{after_hold, after_put}
use Rattle.vm_orders.specs.Duties.{after_feed, after_meet, after_wish, after_tick}
use Rattle.vm_orders.specs.Done.{may_done}
use Rattle.vm_orders.specs.Ending.{after_close, may_close, may_end}
use Rattle.vm_table.specs.History.{IsLegal, after_all, is_lawful_all, last_state}
use Rattle.vm_table.specs.Table.{after, allowed, counted, effect, lawful}
use Rattle.vm_rounds.proofs.Passing.{lawful_tells}
use Rattle.vm_rounds.proofs.Staying.{effect_stays}
use Rattle.vm_rounds.proofs.Walking.{AreGood}

-- ---- what has ended stays as it has ended

none_not : (o : Option Why) → is_none o ≡ true → is_some o ≡ true → ⊥
none_not None n h = true≢false (sym h)
none_not (Some w) n h = true≢false (sym n)

taken_ended : (s : State) (i : ℕ) (kind : MeetKind) → (turn_taken s i kind).ended ≡ s.ended
unfolding turn_taken
taken_ended s i Routing = refl
taken_ended s i Sample = refl

pub turn_ended : (s : State) (i : ℕ) (o : Option Meeting) → (turn_in s i o).ended ≡ s.ended
turn_ended s i None = refl
turn_ended s i (Some x) = taken_ended s i x.kind

keeps_end : (s : State) (p : ℕ) (e : Entry) → is_some s.ended ≡ true → allowed s p e ≡ true → (effect s p e).ended ≡ s.ended
unfolding allowed effect may_enter may_step has_step may_done may_end after_turn after_close after_claim after_start after_exit after_sleep after_wake after_yield after_meet after_wish after_pull after_begin after_move after_hold after_put after_finish after_feed after_slice spent after_tick
keeps_end s p (Enter i grant) over a = absurd (none_not s.ended (and_parts _ _ (and_parts _ _ (and_parts _ _ (and_parts _ _ a).0).0).0).1 over)
keeps_end s p (Step i) over a = absurd (none_not s.ended (and_parts _ _ (and_parts _ _ (and_parts _ _ a).0).0).1 over)
keeps_end s p (Turn i) over a = turn_ended s i s.machine.meet
keeps_end s p (Done k) over a = absurd (none_not s.ended (and_parts _ _ (and_parts _ _ a).0).1 over)
keeps_end s p (End cause) over a = absurd (none_not s.ended (and_parts _ _ (and_parts _ _ a).0).1 over)
keeps_end s p e over a = refl

after_keeps_end : (s : State) (x : Signed) → is_some s.ended ≡ true → lawful s x.by x.entry ≡ true → (after s x).ended ≡ s.ended
unfolding after counted
after_keeps_end s x over l = keeps_end s x.by x.entry over (lawful_tells s x l).1

pub stays_ended : (s : State) (xs : List Signed) → is_some s.ended ≡ true → AreGood s xs → (after_all s xs).ended ≡ s.ended
stays_ended s [] over g = refl
stays_ended s (x ∷ xs) over g =
    let first = after_keeps_end s x over g.0.may in
    stays_ended (after s x) xs (ap (λ (o : Option Why). is_some o) first ∙ over) g.1 ∙ first

-- ---- what is closed has ended

abbrev pub Shut : State → Type 0
Shut s = s.closed ≡ true → is_some s.ended ≡ true

effect_shut : (s : State) (p : ℕ) (e : Entry) → s.closed ≡ false → allowed s p e ≡ true → Shut (effect s p e)
unfolding allowed effect after_close may_close
effect_shut s p Close g m = λ h. (and_parts _ _ (and_parts _ _ (and_parts _ _ (and_parts _ _ (and_parts _ _ m).0).0).0).0).1
effect_shut s p e g m = elim (effect_stays s p e) [ inl k ↦ λ h. absurd (true≢false (sym h ∙ k.closed ∙ g)) | inr c ↦ absurd c ]

shut_after : (s : State) (x : Signed) → lawful s x.by x.entry ≡ true → Shut (after s x)
unfolding after counted
shut_after s x l = let t = lawful_tells s x l in effect_shut s x.by x.entry t.0 t.1

shut_all : (s : State) (xs : List Signed) → Shut s → is_lawful_all s xs ≡ true → Shut (after_all s xs)
shut_all s [] h l = h
shut_all s (x ∷ xs) h l =
    let a = and_parts (lawful s x.by x.entry) (is_lawful_all (after s x) xs) l in
    shut_all (after s x) xs (shut_after s x a.0) a.1

pub legal_shut : (start : Start) (journal : List Signed) → IsLegal start journal → Shut (last_state start journal)
unfolding first_state
legal_shut start journal l = shut_all (boot start) journal (λ e. absurd (true≢false (sym e))) l
