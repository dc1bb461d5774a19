-- A round is control's turn, and then the turns of the others.
use Rattle.std.proofs.Common.{◌≡◌, ℕ, zero, suc, ◌-◌, refl, ap, ◌∙◌, arith}
use Rattle.vm_state.specs.Requests.{pass_count}
use Rattle.vm_table.specs.Rounds.{Rounds, after_pass, after_passes, after_round, choose}
use Rattle.vm_solo.specs.Rounds.{after_others}

first_pass : (r : Rounds) → after_pass r 0 ≡ choose r 0
unfolding after_pass
first_pass r = refl

then_others : (r : Rounds) (n : ℕ) → after_passes r (suc n) ≡ after_others (choose r 0) n
then_others r zero = first_pass r
then_others r (suc n) = ap (λ (t : Rounds). after_pass t (suc n)) (then_others r n)

some_pass : (r : Rounds) → pass_count r.state.machine ≡ suc (pass_count r.state.machine - 1)
unfolding pass_count
some_pass r = omega arith

pub round_is : (r : Rounds) → after_round r ≡ after_others (choose r 0) (pass_count r.state.machine - 1)
unfolding after_round
round_is r = ap (λ (n : ℕ). after_passes r n) (some_pass r) ∙ then_others r (pass_count r.state.machine - 1)
