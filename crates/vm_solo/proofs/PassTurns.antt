-- What a pass of the rounds is, said by its entries and by what it has out then.
use Rattle.std.specs.Prelude.{Option, Some, None, ◌==◌, nat_le, slice_set}
use Rattle.std.proofs.Common.{◌≡◌, ℕ, ◌+◌, ◌-◌, ◌<◌, Bool, true, false, List, ◌∷◌, ◌++◌, append_assoc, refl, sym, ap, subst, ◌∙◌, arith}
use Rattle.std.proofs.lemmas.Bool.Decides.{nat_tests}
use Rattle.vm_law.specs.declared.journal.Signed.{Signed}
use Rattle.vm_state.specs.Machine.{cpu_count}
use Rattle.vm_state.specs.State.{State}
use Rattle.vm_table.specs.History.{after_all}
use Rattle.vm_table.specs.Rounds.{Lease, Rounds, added, after_pass, after_runner, after_worker, answer_at, call_answered, choose, held_by, lease_at, lease_back, put_back, run_outside, worker_out}
use Rattle.vm_board.specs.Turn.{with_choice}
use Rattle.vm_rounds.proofs.Walking.{after_append}

made_of : State → List Signed → List Lease → List (Option Bool) → List Bool → Rounds
made_of s h l a c = record { state = s; history = h; leased = l; answered = a; calls = c }

pub same_rounds : (r t : Rounds) → r.state ≡ t.state → r.history ≡ t.history → r.leased ≡ t.leased → r.answered ≡ t.answered → r.calls ≡ t.calls → r ≡ t
unfolding made_of
same_rounds r t s h l a c =
    ap (λ (x : State). made_of x r.history r.leased r.answered r.calls) s ∙ ap (λ (x : List Signed). made_of t.state x r.leased r.answered r.calls) h
    ∙ ap (λ (x : List Lease). made_of t.state t.history x r.answered r.calls) l ∙ ap (λ (x : List (Option Bool)). made_of t.state t.history t.leased x r.calls) a
    ∙ ap (λ (x : List Bool). made_of t.state t.history t.leased t.answered x) c

-- what comes back, and then the choice
pub both_added : (r : Rounds) (p : ℕ) (back : List Signed) → (choose (added r back) p).state ≡ after_all r.state (with_choice r.state p back)
both_added r p back = sym (after_append r.state back _)

pub both_history : (r : Rounds) (p : ℕ) (back : List Signed) → (choose (added r back) p).history ≡ r.history ++ with_choice r.state p back
both_history r p back = append_assoc r.history back _

-- ---- a runner

runner_pass_is : (r : Rounds) (i : ℕ) → i < cpu_count r.state.machine → after_pass r (1 + i) ≡ after_runner r i
unfolding after_pass
runner_pass_is r i l =
    let a : ((1 + i) == 0) ≡ false = grind (arith, nat_tests) in
    let b : nat_le (1 + i) (cpu_count r.state.machine) ≡ true = grind (arith, nat_tests) in
    let c : 1 + i - 1 ≡ i = omega arith in
    rw (a, b, c) refl

pub runner_turn : (r t : Rounds) (i : ℕ) → i < cpu_count r.state.machine → t.state ≡ after_all r.state (with_choice r.state (1 + i) (lease_back r.state i (lease_at r i)))
    → t.history ≡ r.history ++ with_choice r.state (1 + i) (lease_back r.state i (lease_at r i)) → t.leased ≡ slice_set r.leased i (run_outside t.state i) → t.answered ≡ r.answered → t.calls ≡ r.calls → t ≡ after_pass r (1 + i)
unfolding after_runner
runner_turn r t i l s h leased a c =
    let back = lease_back r.state i (lease_at r i) in
    let state : t.state ≡ (choose (added r back) (1 + i)).state = s ∙ sym (both_added r (1 + i) back) in
    same_rounds t (after_runner r i) state (h ∙ sym (both_history r (1 + i) back)) (leased ∙ ap (λ (x : State). slice_set r.leased i (run_outside x i)) state) a c
    ∙ sym (runner_pass_is r i l)

-- ---- a worker

worker_pass_is : (r : Rounds) (p : ℕ) → cpu_count r.state.machine < p → after_pass r p ≡ after_worker r p
unfolding after_pass
worker_pass_is r p l =
    let a : (p == 0) ≡ false = grind (arith, nat_tests) in
    let b : nat_le p (cpu_count r.state.machine) ≡ false = grind (arith, nat_tests) in
    rw (a, b) refl

-- what the image call of a pass answered that has an image out, and the answers that are left
pub data Answers (calls : List Bool) : Option ℕ → Option Bool → List Bool → Type 0 where
  none : Answers calls None None calls
  made : (d : ℕ) (ok : Bool) (rest : List Bool) → calls ≡ ok ∷ rest → Answers calls (Some d) (Some ok) rest

out_is : (r : Rounds) (p : ℕ) (o : Option ℕ) (x : Option Bool) (rest : List Bool) → Answers r.calls o x rest → worker_out r p o ≡ record r { answered = slice_set r.answered p x; calls = rest }
out_is r p o x rest none = refl
out_is r p o x rest (made d ok left e) = ap (λ (cs : List Bool). call_answered r p cs) e

pub worker_turn : (r t : Rounds) (p : ℕ) (x : Option Bool) → cpu_count r.state.machine < p → t.state ≡ after_all r.state (with_choice r.state p (put_back r.state p (held_by r.state p) (answer_at r p)))
    → t.history ≡ r.history ++ with_choice r.state p (put_back r.state p (held_by r.state p) (answer_at r p)) → t.leased ≡ r.leased → t.answered ≡ slice_set r.answered p x → Answers r.calls (held_by t.state p) x t.calls → t ≡ after_pass r p
unfolding after_worker
worker_turn r t p x l s h leased a c =
    let back = put_back r.state p (held_by r.state p) (answer_at r p) in
    let before = choose (added r back) p in
    let state : t.state ≡ before.state = s ∙ sym (both_added r p back) in
    let out = out_is before p (held_by before.state p) x t.calls (subst (λ (u : State). Answers r.calls (held_by u p) x t.calls) state c) in
    same_rounds t (record before { answered = slice_set before.answered p x; calls = t.calls }) state (h ∙ sym (both_history r p back)) leased a refl
    ∙ sym out ∙ sym (worker_pass_is r p l)
