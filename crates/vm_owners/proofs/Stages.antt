-- What a stage's test says, and what holds of a vCPU in that stage.
use Rattle.std.proofs.Common.{◌≡◌, ℕ, true, refl, sym, ap, subst}
use Rattle.std.specs.Prelude.{◌==◌}
use Rattle.std.proofs.Common.{arith}
use Rattle.std.proofs.lemmas.Bool.{true≢false}
use Rattle.std.proofs.lemmas.Bool.Decides.{nat_tests}
use Rattle.vm_law.specs.declared.stage.Owned.{Owned}
use Rattle.vm_law.specs.declared.stage.Owned.TheVariants.{Idle, Frozen, Running, Sleeping}
use Rattle.vm_state.specs.Machine.{cpu_at, is_idle, is_frozen, is_running, is_sleeping}
use Rattle.vm_state.specs.Sound.{IsOwner, Stays, IsSoundState}
use Rattle.vm_state.specs.State.{State, seat_at}

pub same_pass : (p q : ℕ) → (p == q) ≡ true → p ≡ q
same_pass p q h = grind (arith, nat_tests)

pub idle_is : (st : Owned) → is_idle st ≡ true → st ≡ Idle
idle_is Idle h = refl
idle_is (Frozen p) h = absurd (true≢false (sym h))
idle_is (Running p) h = absurd (true≢false (sym h))
idle_is (Sleeping p) h = absurd (true≢false (sym h))

pub frozen_is : (st : Owned) (q : ℕ) → is_frozen st q ≡ true → st ≡ Frozen q
frozen_is Idle q h = absurd (true≢false (sym h))
frozen_is (Frozen p) q h = ap (λ n. Frozen n) (same_pass p q h)
frozen_is (Running p) q h = absurd (true≢false (sym h))
frozen_is (Sleeping p) q h = absurd (true≢false (sym h))

pub running_is : (st : Owned) (q : ℕ) → is_running st q ≡ true → st ≡ Running q
running_is Idle q h = absurd (true≢false (sym h))
running_is (Frozen p) q h = absurd (true≢false (sym h))
running_is (Running p) q h = ap (λ n. Running n) (same_pass p q h)
running_is (Sleeping p) q h = absurd (true≢false (sym h))

pub sleeping_is : (st : Owned) (q : ℕ) → is_sleeping st q ≡ true → st ≡ Sleeping q
sleeping_is Idle q h = absurd (true≢false (sym h))
sleeping_is (Frozen p) q h = absurd (true≢false (sym h))
sleeping_is (Running p) q h = absurd (true≢false (sym h))
sleeping_is (Sleeping p) q h = ap (λ n. Sleeping n) (same_pass p q h)

-- who owns a vCPU in a known stage, and what its seat says

pub owner_in : (s : State) (i : ℕ) (st : Owned) → IsSoundState s → (cpu_at s.machine i).stage ≡ st → IsOwner i st
owner_in s i st h e = subst (λ x. IsOwner i x) e (h.seats.each i).owner

pub stay_in : (s : State) (i : ℕ) (st : Owned) → IsSoundState s → (cpu_at s.machine i).stage ≡ st → Stays st (cpu_at s.machine i).halted (seat_at s i)
stay_in s i st h e = subst (λ x. Stays x (cpu_at s.machine i).halted (seat_at s i)) e (h.seats.each i).stay
