-- How a round ends a run of which control's work outside has failed.
use Rattle.std.specs.Prelude.{Option, Some, None, is_none, is_some, ◌==◌, ◌&&◌, nat_le, if◌then◌else◌}
use Rattle.std.proofs.Common.{◌≡◌, ℕ, zero, suc, ◌+◌, ◌-◌, Bool, true, false, not, List, [], ◌∷◌, refl, sym, ap, ◌∙◌, inl, inr}
use Rattle.std.proofs.lemmas.Bool.{cases_Bool, true≢false}
use Rattle.vm_law.specs.declared.journal.EndCause.TheVariants as cause
use Rattle.vm_law.specs.declared.journal.Entry.TheVariants.{End}
use Rattle.vm_law.specs.declared.journal.Signed.{Signed}
use Rattle.vm_state.specs.declared.image.Holder.{Holder}
use Rattle.vm_state.specs.declared.run_state.Why.{Why}
use Rattle.vm_state.specs.declared.run_state.Why.TheVariants.{Outside}
use Rattle.vm_state.specs.Machine.{cpu_count}
use Rattle.vm_state.specs.Requests.{pass_count}
use Rattle.vm_state.specs.State.{State, image_at}
use Rattle.vm_running.specs.Slice.{spent, after_slice}
use Rattle.vm_disks.specs.Images.{after_put}
use Rattle.vm_orders.specs.Ending.{after_end, may_end}
use Rattle.vm_table.specs.History.{after_all}
use Rattle.vm_table.specs.Rounds.{Lease, Rounds, added, after_pass, after_runner, after_worker, answer_at, call_answered, choose, chosen, held_by, is_kept, lease_at, lease_back, put_back, put_for, slice_back, worker_out}
use Rattle.vm_table.specs.Table.{after, allowed, counted, effect, lawful}
use Rattle.vm_control.specs.Turn.{turn_of}
use Rattle.vm_rounds.proofs.Walking.{chosen_good}
use Rattle.vm_solo.specs.Ending.{or_outside}
use Rattle.vm_solo.specs.Rounds.{after_others, round_of_crew}
use Rattle.vm_solo.proofs.Ended.{Shut, stays_ended}
use Rattle.vm_solo.proofs.Measures.{ended_round}
use Rattle.vm_solo.proofs.Others.{round_is}

-- ---- a pass keeps why a run has ended

slice_keeps : (s : State) (i n : ℕ) → (after_all s (slice_back i n)).ended ≡ s.ended
unfolding after counted effect after_slice spent
slice_keeps s i zero = refl
slice_keeps s i (suc n) = refl

lease_keeps : (s : State) (i : ℕ) (x : Lease) (b : Bool) → (after_all s (if b then slice_back i x.ran else [])).ended ≡ s.ended
lease_keeps s i x true = slice_keeps s i x.ran
lease_keeps s i x false = refl

put_for_keeps : (s : State) (p d : ℕ) (h : Option Holder) (ok : Bool) → (after_all s (put_for p d h ok)).ended ≡ s.ended
unfolding after counted effect after_put
put_for_keeps s p d None ok = refl
put_for_keeps s p d (Some h) ok = refl

put_keeps : (s : State) (p : ℕ) (o : Option ℕ) (a : Option Bool) → (after_all s (put_back s p o a)).ended ≡ s.ended
put_keeps s p None a = refl
put_keeps s p (Some d) None = refl
put_keeps s p (Some d) (Some ok) = put_for_keeps s p d (image_at s d).holder ok

chosen_keeps : (s : State) (p : ℕ) → is_some s.ended ≡ true → (after_all s (chosen s p)).ended ≡ s.ended
chosen_keeps s p over = stays_ended s (chosen s p) over (chosen_good s p)

-- what comes back, and then the choice
turn_keeps : (s : State) (p : ℕ) (xs : List Signed) → (after_all s xs).ended ≡ s.ended → is_some s.ended ≡ true → (after_all (after_all s xs) (chosen (after_all s xs) p)).ended ≡ s.ended
turn_keeps s p xs e over = chosen_keeps (after_all s xs) p (ap (λ (o : Option Why). is_some o) e ∙ over) ∙ e

call_stays : (r : Rounds) (p : ℕ) (calls : List Bool) → (call_answered r p calls).state ≡ r.state
call_stays r p [] = refl
call_stays r p (ok ∷ calls) = refl

out_stays : (r : Rounds) (p : ℕ) (o : Option ℕ) → (worker_out r p o).state ≡ r.state
out_stays r p None = refl
out_stays r p (Some d) = call_stays r p r.calls

runner_keeps : (r : Rounds) (i : ℕ) → is_some r.state.ended ≡ true → (after_runner r i).state.ended ≡ r.state.ended
unfolding after_runner
runner_keeps r i over = turn_keeps r.state (1 + i) (lease_back r.state i (lease_at r i)) (lease_keeps r.state i (lease_at r i) (is_kept r.state (lease_at r i))) over

worker_keeps : (r : Rounds) (p : ℕ) → is_some r.state.ended ≡ true → (after_worker r p).state.ended ≡ r.state.ended
unfolding after_worker
worker_keeps r p over =
    let back = put_back r.state p (held_by r.state p) (answer_at r p) in
    let before = choose (added r back) p in
    ap (λ (s : State). s.ended) (out_stays before p (held_by before.state p)) ∙ turn_keeps r.state p back (put_keeps r.state p (held_by r.state p) (answer_at r p)) over

pass_as : (r : Rounds) (p : ℕ) (a b : Bool) → is_some r.state.ended ≡ true → (if a then choose r 0 else if b then after_runner r (p - 1) else after_worker r p).state.ended ≡ r.state.ended
pass_as r p true b over = chosen_keeps r.state 0 over
pass_as r p false true over = runner_keeps r (p - 1) over
pass_as r p false false over = worker_keeps r p over

pass_keeps : (r : Rounds) (p : ℕ) → is_some r.state.ended ≡ true → (after_pass r p).state.ended ≡ r.state.ended
unfolding after_pass
pass_keeps r p over = pass_as r p (p == 0) (nat_le p (cpu_count r.state.machine)) over

others_keep : (r : Rounds) (n : ℕ) → is_some r.state.ended ≡ true → (after_others r n).state.ended ≡ r.state.ended
others_keep r zero over = refl
others_keep r (suc n) over =
    let e = others_keep r n over in
    pass_keeps (after_others r n) (suc n) (ap (λ (o : Option Why). is_some o) e ∙ over) ∙ e

-- ---- a round

round_keeps : (r : Rounds) → is_some r.state.ended ≡ true → (round_of_crew true r).state.ended ≡ r.state.ended
round_keeps r over =
    let e = chosen_keeps r.state 0 over in
    ap (λ (t : Rounds). t.state.ended) (ended_round r true over ∙ round_is r)
    ∙ others_keep (choose r 0) (pass_count r.state.machine - 1) (ap (λ (o : Option Why). is_some o) e ∙ over) ∙ e

may_now : (s : State) → s.ended ≡ None → may_end s 0 cause.Outside ≡ true
unfolding may_end
may_now s e = ap (λ (o : Option Why). (0 == 0) && is_none o && true) e

lawful_now : (s : State) → s.closed ≡ false → s.ended ≡ None → lawful s 0 (End cause.Outside) ≡ true
unfolding lawful allowed
lawful_now s g e = ap (λ (b : Bool). not b && may_end s 0 cause.Outside) g ∙ may_now s e

end_is : (s : State) → (after s (record { by = 0; entry = End cause.Outside })).ended ≡ Some Outside
unfolding after effect counted after_end
end_is s = refl

-- control ends the run
turn_ends : (s : State) → s.closed ≡ false → s.ended ≡ None → (after_all s (turn_of s true)).ended ≡ Some Outside
turn_ends s g e =
    ap (λ (b : Bool). (after_all s (if b then record { by = 0; entry = End cause.Outside } ∷ [] else chosen s 0)).ended) (lawful_now s g e) ∙ end_is s

round_ends_open : (r : Rounds) → r.state.closed ≡ false → r.state.ended ≡ None → (round_of_crew true r).state.ended ≡ Some Outside
round_ends_open r g e =
    let a = turn_ends r.state g e in
    others_keep (added r (turn_of r.state true)) (pass_count r.state.machine - 1) (ap (λ (o : Option Why). is_some o) a) ∙ a

round_ends_as : (r : Rounds) (o : Option Why) → Shut r.state → r.state.ended ≡ o → (round_of_crew true r).state.ended ≡ Some (or_outside o)
round_ends_as r (Some why) h e = round_keeps r (ap (λ (o : Option Why). is_some o) e) ∙ e
round_ends_as r None h e =
    elim (cases_Bool r.state.closed) [
      | inr g ↦ round_ends_open r g e
      | inl shut ↦ absurd (true≢false (sym (h shut) ∙ ap (λ (o : Option Why). is_some o) e))
    ]

pub round_ends : (r : Rounds) → Shut r.state → (round_of_crew true r).state.ended ≡ Some (or_outside r.state.ended)
round_ends r h = round_ends_as r r.state.ended h refl
