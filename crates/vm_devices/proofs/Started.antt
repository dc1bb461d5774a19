-- The vCPUs that are started, one after the other.
use Rattle.std.specs.Prelude.{if◌then◌else◌, nat_lt}
use Rattle.std.proofs.Common.{◌≡◌, ◌≢◌, ℕ, zero, suc, ◌+◌, ◌≤◌, Bool, true, false, ◌&&◌, ◌||◌, eqb, ltb, leb, List, refl, sym, ap, subst, arith, inl, inr, ◌∙◌}
use Rattle.std.proofs.lemmas.Bool.{cases_eq}
use Rattle.std.proofs.lemmas.Bool.Decides.{nat_tests}
use Rattle.std.proofs.lemmas.Grind.{common_steps}
use Rattle.std.specs.List.{range_with_len}
use Rattle.std.specs.Ordering.{nat_cmp}
use Rattle.std.specs.Cmp.{nat_cmp_total}
use Rattle.std.specs.FinSet.{contains, insert, empty, retain, from_list, same_set, members, nat_cmp-IsAntisymmetric, contains-empty, contains-retain}
use Rattle.vm_law.specs.CpuSet.{Cpus, has}
use Rattle.vm_law.specs.declared.message.Message.{Message}
use Rattle.vm_irq.specs.Destination.{all_cpus}
use Rattle.vm_state.specs.Machine.{MachineState, cpu_at, cpu_count, started_cpus}
use Rattle.vm_devices.specs.Messages.{all_sent}
use Rattle.vm_devices.proofs.Same.{all_same, count_all}

-- the numbers below n that pass a test
unfoldable pub below : (ℕ → Bool) → ℕ → Cpus
below p n = retain (all_cpus n) p

has_insert : (s : Cpus) (n q : ℕ) → contains (insert s n) q ≡ (eqb q n || contains s q)
has_insert s n q = grind (arith, members, nat_tests, common_steps)

has_from : (a n q : ℕ) → contains (from_list {R = nat_cmp} (range_with_len a n)) q ≡ (leb a q && ltb q (a + n))
has_from a zero q = grind (arith, members, nat_tests, common_steps)
has_from a (suc n) q = has_insert (from_list (range_with_len (a + 1) n)) a q ∙ (let e = has_from (a + 1) n q in grind (arith, nat_tests, common_steps))

pub has_below : (p : ℕ → Bool) (n q : ℕ) → has (below p n) q ≡ (nat_lt q n && p q)
unfolding below
has_below p n q = contains-retain (all_cpus n) p q (λ x tied. ap p (sym (nat_cmp-IsAntisymmetric q x tied))) ∙ (let e = has_from 0 n q in grind (arith, nat_tests, common_steps))

none_below : (p : ℕ → Bool) (q : ℕ) → (nat_lt q 0 && p q) ≡ false
none_below p q = grind (arith, nat_tests, common_steps)

pub below_none : (p : ℕ → Bool) → below p 0 ≡ empty
below_none p = same_set nat_cmp_total nat_cmp-IsAntisymmetric _ _ (λ q. has_below p 0 q ∙ none_below p q ∙ sym (contains-empty nat_cmp q))

has_if : (b : Bool) (s : Cpus) (n q : ℕ) → contains (if b then insert s n else s) q ≡ ((eqb q n && b) || contains s q)
has_if true s n q = grind (arith, members, nat_tests, common_steps)
has_if false s n q = grind (arith, members, nat_tests, common_steps)

one_more : (p : ℕ → Bool) (n q : ℕ) → (nat_lt q (n + 1) && p q) ≡ ((eqb q n && p n) || contains (below p n) q)
one_more p n q = rw (has_below p n q) (elim (cases_eq q n) [
  | inl e ↦ subst (λ x. (nat_lt q (n + 1) && p q) ≡ ((eqb q n && p x) || (nat_lt q n && p q))) e (grind (arith, nat_tests, common_steps))
  | inr ne ↦ grind (arith, nat_tests, common_steps)
])

pub below_more : (p : ℕ → Bool) (n : ℕ) → below p (n + 1) ≡ (if p n then insert (below p n) n else below p n)
below_more p n =
    same_set nat_cmp_total nat_cmp-IsAntisymmetric _ _ (λ q. has_below p (n + 1) q ∙ one_more p n q ∙ sym (has_if (p n) (below p n) n q))

-- those of a machine
unfoldable pub started_below : MachineState → ℕ → Cpus
started_below m n = below (λ i. (cpu_at m i).started) n

pub started_none : (m : MachineState) → started_below m 0 ≡ empty
unfolding started_below
started_none m = below_none _

pub started_more : (m : MachineState) (n : ℕ) → started_below m (n + 1) ≡ (if (cpu_at m n).started then insert (started_below m n) n else started_below m n)
unfolding started_below
started_more m n = below_more _ n

pub started_all : (m : MachineState) → started_below m (cpu_count m) ≡ started_cpus m
unfolding started_below below
started_all m = refl

pub has_started : (m : MachineState) (q : ℕ) → has (started_cpus m) q ≡ (nat_lt q (cpu_count m) && (cpu_at m q).started)
unfolding below
has_started m q = has_below (λ i. (cpu_at m i).started) (cpu_count m) q

-- vCPU 0 is one of them
pub some_started : (m : MachineState) → 1 ≤ cpu_count m → (cpu_at m 0).started ≡ true → started_cpus m ≢ empty
some_started m some first none =
    let here : has (started_cpus m) 0 ≡ true = has_started m 0 ∙ grind (arith, nat_tests, common_steps) in
    let gone : has (started_cpus m) 0 ≡ false = ap (λ (s : Cpus). has s 0) none ∙ contains-empty nat_cmp 0 in
    absurd (grind (arith, common_steps))

pub ruleset started_steps = (started_none, started_more, started_all, has_started)

-- ---- messages leave this

pub first_sent : (m : MachineState) (xs : List Message) → (cpu_at (all_sent m xs) 0).started ≡ (cpu_at m 0).started
first_sent m xs = ((all_same m xs).each 0).started

pub meet_sent : (m : MachineState) (xs : List Message) → (all_sent m xs).meet ≡ m.meet
meet_sent m xs = ap (λ (t : MachineState). t.meet) (all_same m xs).rest

pub ruleset sending_keeps = (count_all, first_sent, meet_sent)
