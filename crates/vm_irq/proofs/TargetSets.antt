-- One vCPU after the other.
use Rattle.std.specs.Prelude.{if◌then◌else◌, nat_lt}
use Rattle.std.proofs.Common.{◌≡◌, ℕ, zero, suc, ◌+◌, Bool, true, false, ◌&&◌, ◌||◌, eqb, ltb, leb, sym, ap, subst, arith, inl, inr, ◌∙◌}
use Rattle.std.proofs.lemmas.Bool.{cases_eq}
use Rattle.std.proofs.lemmas.Bool.Decides.{nat_tests}
use Rattle.std.proofs.lemmas.Grind.{common_steps}
use Rattle.std.specs.List.{range_with_len}
use Rattle.std.specs.Ordering.{nat_cmp}
use Rattle.std.specs.Cmp.{nat_cmp_total}
use Rattle.std.specs.FinSet.{contains, insert, empty, from_list, same_set, members, nat_cmp-IsAntisymmetric, contains-empty, contains-retain}
use Rattle.vm_law.specs.declared.message.Message.{Message}
use Rattle.vm_law.specs.CpuSet.{Cpus, has}
use Rattle.vm_irq.specs.Destination.{is_for, all_cpus, targets_of}

has_insert : (s : Cpus) (n q : ℕ) → contains (insert s n) q ≡ (eqb q n || contains s q)
has_insert s n q = grind (arith, members, nat_tests, common_steps)

has_from : (a n q : ℕ) → contains (from_list {R = nat_cmp} (range_with_len a n)) q ≡ (leb a q && ltb q (a + n))
has_from a zero q = grind (arith, members, nat_tests, common_steps)
has_from a (suc n) q = has_insert (from_list (range_with_len (a + 1) n)) a q ∙ (let e = has_from (a + 1) n q in grind (arith, nat_tests, common_steps))

-- the members, one by one
pub has_targets_of : (m : Message) (n q : ℕ) → has (targets_of m n) q ≡ (nat_lt q n && is_for m.dest q)
unfolding targets_of
has_targets_of m n q = contains-retain (all_cpus n) (is_for m.dest) q (λ x tied. ap (is_for m.dest) (sym (nat_cmp-IsAntisymmetric q x tied))) ∙ (let e = has_from 0 n q in grind (arith, nat_tests, common_steps))

none_below : (m : Message) (q : ℕ) → (nat_lt q 0 && is_for m.dest q) ≡ false
none_below m q = grind (arith, nat_tests, common_steps)

pub targets_none : (m : Message) → targets_of m 0 ≡ empty
unfolding targets_of
targets_none m = same_set nat_cmp_total nat_cmp-IsAntisymmetric _ _ (λ q. has_targets_of m 0 q ∙ none_below m q ∙ sym (contains-empty nat_cmp q))

has_if : (b : Bool) (s : Cpus) (n q : ℕ) → contains (if b then insert s n else s) q ≡ ((eqb q n && b) || contains s q)
has_if true s n q = grind (arith, members, nat_tests, common_steps)
has_if false s n q = grind (arith, members, nat_tests, common_steps)

one_more : (m : Message) (n q : ℕ) → (nat_lt q (n + 1) && is_for m.dest q) ≡ ((eqb q n && is_for m.dest n) || contains (targets_of m n) q)
one_more m n q = rw (has_targets_of m n q) (elim (cases_eq q n) [
  | inl e ↦ subst (λ x. (nat_lt q (n + 1) && is_for m.dest q) ≡ ((eqb q n && is_for m.dest x) || (nat_lt q n && is_for m.dest q))) e (grind (arith, nat_tests, common_steps))
  | inr ne ↦ grind (arith, nat_tests, common_steps)
])

pub targets_more : (m : Message) (n : ℕ) → targets_of m (n + 1) ≡ (if is_for m.dest n then insert (targets_of m n) n else targets_of m n)
targets_more m n =
    same_set nat_cmp_total nat_cmp-IsAntisymmetric _ _ (λ q.
    has_targets_of m (n + 1) q
    ∙ one_more m n q
    ∙ sym (has_if (is_for m.dest n) (targets_of m n) n q))

pub ruleset targets_steps = (has_targets_of, targets_none, targets_more)
