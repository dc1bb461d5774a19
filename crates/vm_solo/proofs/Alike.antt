-- What the image calls answer that are still to come changes nothing in a round's entries.
use Rattle.std.specs.Prelude.{Option, Some, None, ◌==◌, nat_le, if◌then◌else◌, slice_index_or, slice_set}
use Rattle.std.proofs.Common.{◌≡◌, ◌≢◌, ℕ, zero, suc, ◌+◌, ◌-◌, ◌≤◌, Bool, true, false, List, [], ◌∷◌, ◌++◌, refl, sym, ap, subst, ◌∙◌, arith}
use Rattle.std.proofs.lemmas.Bool.{true≢false}
use Rattle.std.proofs.lemmas.Bool.Decides.{nat_tests}
use Rattle.std.proofs.lemmas.List.{get_or-set_other}
use Rattle.vm_law.specs.declared.journal.Signed.{Signed}
use Rattle.vm_state.specs.Machine.{cpu_count}
use Rattle.vm_state.specs.Requests.{pass_count}
use Rattle.vm_state.specs.State.{State}
use Rattle.vm_table.specs.History.{after_all}
use Rattle.vm_table.specs.Rounds.{Lease, Rounds, added, after_pass, after_passes, after_round, after_runner, after_worker, answer_at, call_answered, choose, chosen, gone_out, held_by, lease_back, no_lease, put_back, run_outside, worker_out}

-- two that differ in the answers to come, and in those of passes whose turn has been
record Alike (n : ℕ) (a b : Rounds) : Type 0 where
  pub state : b.state ≡ a.state
  pub history : b.history ≡ a.history
  pub leased : b.leased ≡ a.leased
  pub answers : (q : ℕ) → n ≤ q → answer_at b q ≡ answer_at a q

chosen_alike : (n p : ℕ) (a b : Rounds) (xs : List Signed) → Alike n a b → Alike n (choose (added a xs) p) (choose (added b xs) p)
chosen_alike n p a b xs h =
    let mid : after_all b.state xs ≡ after_all a.state xs = ap (λ (s : State). after_all s xs) h.state in
    record {
      state = ap (λ (s : State). after_all s (chosen s p)) mid;
      history = ap (λ (ys : List Signed). (ys ++ xs) ++ chosen (after_all b.state xs) p) h.history ∙ ap (λ (s : State). (a.history ++ xs) ++ chosen s p) mid;
      leased = h.leased;
      answers = λ q l. h.answers q l;
    }

-- ---- a worker's work outside

record Goes (r : Rounds) (p : ℕ) (t : Rounds) : Type 0 where
  state : t.state ≡ r.state
  history : t.history ≡ r.history
  leased : t.leased ≡ r.leased
  answers : (q : ℕ) → q ≢ p → answer_at t q ≡ answer_at r q

set_goes : (r : Rounds) (p : ℕ) (x : Option Bool) (calls : List Bool) → Goes r p (record r { answered = slice_set r.answered p x; calls = calls })
set_goes r p x calls = record { state = refl; history = refl; leased = refl; answers = λ q ne. get_or-set_other r.answered p q x None ne }

call_goes : (r : Rounds) (p : ℕ) (calls : List Bool) → Goes r p (call_answered r p calls)
call_goes r p [] = set_goes r p (Some true) r.calls
call_goes r p (ok ∷ calls) = set_goes r p (Some ok) calls

out_goes : (r : Rounds) (p : ℕ) (o : Option ℕ) → Goes r p (worker_out r p o)
out_goes r p None = set_goes r p None r.calls
out_goes r p (Some d) = call_goes r p r.calls

outside_alike : (p : ℕ) (a b x y : Rounds) → Goes a p x → Goes b p y → Alike p a b → Alike (suc p) x y
outside_alike p a b x y g k h = record {
  state = k.state ∙ h.state ∙ sym g.state;
  history = k.history ∙ h.history ∙ sym g.history;
  leased = k.leased ∙ h.leased ∙ sym g.leased;
  answers = λ q l. k.answers q (λ e. omega (arith, e, l)) ∙ h.answers q (omega (arith, l)) ∙ sym (g.answers q (λ e. omega (arith, e, l)));
}

-- ---- a pass

control_alike : (a b : Rounds) → Alike 0 a b → Alike 1 (choose a 0) (choose b 0)
control_alike a b h = record {
  state = ap (λ (s : State). after_all s (chosen s 0)) h.state;
  history = ap (λ (ys : List Signed). ys ++ chosen b.state 0) h.history ∙ ap (λ (s : State). a.history ++ chosen s 0) h.state;
  leased = h.leased;
  answers = λ q l. h.answers q (omega (arith, l));
}

runner_alike : (a b : Rounds) (i : ℕ) → Alike (1 + i) a b → Alike (suc (1 + i)) (after_runner a i) (after_runner b i)
unfolding after_runner
runner_alike a b i h =
    let xs = lease_back a.state i (slice_index_or a.leased i no_lease) in
    let ys = lease_back b.state i (slice_index_or b.leased i no_lease) in
    let same : ys ≡ xs = ap (λ (s : State). lease_back s i (slice_index_or b.leased i no_lease)) h.state ∙ ap (λ (ls : List Lease). lease_back a.state i (slice_index_or ls i no_lease)) h.leased in
    let k = subst (λ (zs : List Signed). Alike (1 + i) (choose (added a xs) (1 + i)) (choose (added b zs) (1 + i))) (sym same) (chosen_alike (1 + i) (1 + i) a b xs h) in
    record {
      state = k.state;
      history = k.history;
      leased = ap (λ (ls : List Lease). slice_set ls i (run_outside (choose (added b ys) (1 + i)).state i)) h.leased ∙ ap (λ (s : State). slice_set a.leased i (run_outside s i)) k.state;
      answers = λ q l. k.answers q (omega (arith, l));
    }

worker_alike : (a b : Rounds) (p : ℕ) → Alike p a b → Alike (suc p) (after_worker a p) (after_worker b p)
unfolding after_worker
worker_alike a b p h =
    let xs = put_back a.state p (held_by a.state p) (answer_at a p) in
    let ys = put_back b.state p (held_by b.state p) (answer_at b p) in
    let same : ys ≡ xs = ap (λ (s : State). put_back s p (held_by s p) (answer_at b p)) h.state ∙ ap (λ (o : Option Bool). put_back a.state p (held_by a.state p) o) (h.answers p (omega arith)) in
    let k = subst (λ (zs : List Signed). Alike p (choose (added a xs) p) (choose (added b zs) p)) (sym same) (chosen_alike p p a b xs h) in
    let x = choose (added a xs) p in
    let y = choose (added b ys) p in
    outside_alike p x y (gone_out x p) (gone_out y p) (out_goes x p (held_by x.state p)) (out_goes y p (held_by y.state p)) k

some_not : (p : ℕ) → (suc p == 0) ≡ false
some_not p = grind (arith, nat_tests)

as_pass : (a b : Rounds) (p : ℕ) (x y z : Bool) → nat_le p (cpu_count b.state.machine) ≡ y → nat_le p (cpu_count a.state.machine) ≡ z → (p == 0) ≡ x → y ≡ z → Alike p a b
    → Alike (suc p) (if x then choose a 0 else if z then after_runner a (p - 1) else after_worker a p) (if x then choose b 0 else if y then after_runner b (p - 1) else after_worker b p)
as_pass a b zero true y z e f g k h = control_alike a b h
as_pass a b (suc p) true y z e f g k h = absurd (true≢false (sym g ∙ some_not p))
as_pass a b zero false y z e f g k h = absurd (true≢false g)
as_pass a b (suc p) false true true e f g k h = let one : suc p ≡ 1 + (suc p - 1) = omega arith in subst (λ (n : ℕ). Alike (suc n) (after_runner a (suc p - 1)) (after_runner b (suc p - 1))) (sym one) (runner_alike a b (suc p - 1) (subst (λ (n : ℕ). Alike n a b) one h))
as_pass a b (suc p) false false false e f g k h = worker_alike a b (suc p) h
as_pass a b (suc p) false true false e f g k h = absurd (true≢false k)
as_pass a b (suc p) false false true e f g k h = absurd (true≢false (sym k))

pass_alike : (a b : Rounds) (p : ℕ) → Alike p a b → Alike (suc p) (after_pass a p) (after_pass b p)
unfolding after_pass
pass_alike a b p h = as_pass a b p (p == 0) _ _ refl refl refl (ap (λ (s : State). nat_le p (cpu_count s.machine)) h.state) h

passes_alike : (a b : Rounds) (n : ℕ) → Alike 0 a b → Alike n (after_passes a n) (after_passes b n)
passes_alike a b zero h = h
passes_alike a b (suc n) h = pass_alike (after_passes a n) (after_passes b n) n (passes_alike a b n h)

pub same_history : (r : Rounds) (calls : List Bool) → (after_round (record r { calls = calls })).history ≡ (after_round r).history
unfolding after_round
same_history r calls = (passes_alike r (record r { calls = calls }) (pass_count r.state.machine) (record { state = refl; history = refl; leased = refl; answers = λ q l. refl })).history
