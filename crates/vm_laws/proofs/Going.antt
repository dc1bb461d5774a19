-- A run that isn't closed can go on.
use Rattle.std.proofs.Common.{◌≡◌, ℕ, ◌+◌, ◌<◌, ◌≤◌, true, false, not, refl, sym, ap, ◌∙◌, inl, inr, arith, Option, Some, None}
use Rattle.std.specs.Prelude.{◌&&◌, is_some}
use Rattle.std.proofs.lemmas.Bool.{cases_Bool, cases_lt, true≢false}
use Rattle.std.proofs.lemmas.Bool.Decides.{nat_tests}
use Rattle.std.proofs.lemmas.Grind.{common_steps}
use Rattle.vm_law.specs.declared.journal.Entry.{Entry}
use Rattle.vm_law.specs.declared.journal.Entry.TheVariants.{Slice}
use Rattle.vm_state.specs.Machine.{cpu_count}
use Rattle.vm_state.specs.Requests.{pass_count}
use Rattle.vm_state.specs.Sound.{IsSoundState}
use Rattle.vm_state.specs.State.{State, none_held}
use Rattle.vm_running.specs.Slice.{has_slice, may_slice}
use Rattle.vm_table.specs.Table.{allowed, lawful}
use Rattle.vm_table.specs.Turns.{first_lawful}
use Rattle.vm_laws.specs.Stuck.{CanGoOn, adds, slices, holds}
use Rattle.vm_laws.proofs.Lists.{search_below}
use Rattle.vm_laws.proofs.Stuck.{IsStuck, never_stuck}

is_none_if : {X : Type 0} (o : Option X) → is_some o ≡ false → o ≡ None
is_none_if None h = refl
is_none_if (Some x) h = absurd (true≢false h)

adds_if : (s : State) (p : ℕ) (o : Option Entry) → first_lawful s p ≡ o → is_some o ≡ true → CanGoOn s
adds_if s p None e t = absurd (true≢false (sym t))
adds_if s p (Some x) e t = adds p x e

slice_lawful : (s : State) (i : ℕ) → s.closed ≡ false → may_slice s (1 + i) i 1 ≡ true → lawful s (1 + i) (Slice i 1) ≡ true
unfolding lawful allowed
slice_lawful s i g m = ap (λ b. not b && may_slice s (1 + i) i 1) g ∙ m

no_slice_past : (s : State) (i : ℕ) → cpu_count s.machine ≤ i → may_slice s (1 + i) i 1 ≡ false
unfolding may_slice has_slice
no_slice_past s i past = grind (arith, nat_tests, common_steps)

stuck_of : (s : State) → ((p : ℕ) → p < pass_count s.machine → is_some (first_lawful s p) ≡ false)
    → ((i : ℕ) → i < cpu_count s.machine → may_slice s (1 + i) i 1 ≡ false) → none_held s ≡ true → IsStuck s
stuck_of s none no_slice home = record {
  none = λ p l. is_none_if (first_lawful s p) (none p l);
  no_slice = λ i. elim (cases_lt i (cpu_count s.machine)) [ inl l ↦ no_slice i l | inr past ↦ no_slice_past s i past ];
  at_home = home;
}

pub goes_on : (s : State) → IsSoundState s → s.closed ≡ false → CanGoOn s
goes_on s h g =
    elim (search_below (λ p. is_some (first_lawful s p)) (pass_count s.machine)) [
      | inl w ↦ adds_if s w.0 (first_lawful s w.0) refl w.2
      | inr none ↦
          elim (search_below (λ i. may_slice s (1 + i) i 1) (cpu_count s.machine)) [
            | inl w ↦ slices w.0 1 (slice_lawful s w.0 g w.2)
            | inr no_slice ↦
                elim (cases_Bool (none_held s)) [
                  | inl home ↦ absurd (never_stuck s h g (stuck_of s none no_slice home))
                  | inr held ↦ holds held
                ]
          ]
    ]
