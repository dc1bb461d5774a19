-- Numbers that are cut off at a bound beyond all that is allowed.
use Rattle.std.proofs.Common.{◌≡◌, ◌∙◌, ℕ, suc, ◌+◌, ◌*◌, ◌-◌, ◌<◌, ◌≤◌, ◌^◌, min, Bool, true, false, cond, ltb, List, [], ◌∷◌, ◌⊎◌, inl, inr, length, drop, get_or, refl, sym, ap, arith, add-one, drop-cons}
use Rattle.std.specs.Prelude.{Option, Some, None, option_map, option_and_then, Result, Err, nat_lt, ◌||◌}
use Rattle.std.proofs.lemmas.Bool.{le-ltb, lt-ltb, ltb-true, ltb-false}
use Rattle.std.proofs.Math.Nat.{mul-le-mul_right}
use Rattle.cfg_vm.specs.declared.error.PlanKind.{PlanKind}
use Rattle.cfg_vm.specs.declared.error.PlanKind.TheVariants.{Range}
use Rattle.cfg_vm.specs.Number.{number_then, counted, at_most, sized, bytes_of_bare}

abbrev pub cap : Option ℕ → Option ℕ
cap o = option_map (min 1073741825) o

-- a number is capped, or it is itself
pub capped_cases : (m : ℕ) → ((1073741825 < m) × (min 1073741825 m ≡ 1073741825)) ⊎ (min 1073741825 m ≡ m)
capped_cases m = go (ltb 1073741825 m) refl
  where
    go : (t : Bool) → ltb 1073741825 m ≡ t → ((1073741825 < m) × (min 1073741825 m ≡ 1073741825)) ⊎ (min 1073741825 m ≡ m)
    go true e = let lt : 1073741825 < m = ltb-true _ _ e in inl (lt, omega arith)
    go false e = let le : m ≤ 1073741825 = ltb-false _ _ e in inr (omega arith)

pub counted_capped : (high : ℕ) → high < 256 → (m : ℕ) → counted high (min 1073741825 m) ≡ counted high m
counted_capped high bound m = elim (capped_cases m) [
  | inl big ↦
      let e : ltb high 1073741825 ≡ true = lt-ltb _ _ (omega arith) in
      let f : ltb high m ≡ true = lt-ltb _ _ (omega (arith, big.0)) in
      rw (big.1, e, f) refl
  | inr same ↦ rw same refl
]

pub at_most_capped : (most : ℕ) → most < 256 → (m : ℕ) → at_most most (min 1073741825 m) ≡ at_most most m
at_most_capped most bound m = elim (capped_cases m) [
  | inl big ↦
      let e : ltb most 1073741825 ≡ true = lt-ltb _ _ (omega arith) in
      let f : ltb most m ≡ true = lt-ltb _ _ (omega (arith, big.0)) in
      rw (big.1, e, f) refl
  | inr same ↦ rw same refl
]

too_large : (bytes : ℕ) → 1073741824 < bytes → sized bytes ≡ Err Range
too_large bytes h = let e : ltb 1073741824 bytes ≡ true = lt-ltb _ _ h in rw e refl

pub more_units : (n m unit : ℕ) → n ≤ m → n * unit ≤ m * unit
more_units n m unit h = mul-le-mul_right unit h

pub unit_capped : (unit : ℕ) → 1 ≤ unit → (m : ℕ) → sized (min 1073741825 m * unit) ≡ sized (m * unit)
unit_capped unit some m = elim (capped_cases m) [
  | inl big ↦
      let more : 1073741825 * unit ≤ m * unit = more_units 1073741825 m unit (omega (arith, big.0)) in
      let most : 1073741824 < 1073741825 * unit = omega arith in
      let beyond : 1073741824 < m * unit = omega arith in
      rw big.1 (too_large (1073741825 * unit) most ∙ sym (too_large (m * unit) beyond))
  | inr same ↦ rw same refl
]

pub bare_capped : (m : ℕ) → sized (bytes_of_bare (min 1073741825 m)) ≡ sized (bytes_of_bare m)
bare_capped m = elim (capped_cases m) [
  | inl big ↦
      let f : ltb m 1048576 ≡ false = le-ltb _ _ (omega (arith, big.0)) in
      let beyond : 1073741824 < m = omega (arith, big.0) in
      rw (big.1, f) (sym (too_large m beyond))
  | inr same ↦ rw same refl
]

pub capped_then : {X : Type 0} (next : ℕ → Result X PlanKind) → ((m : ℕ) → next (min 1073741825 m) ≡ next m) → (o r : Option ℕ) → r ≡ cap o → number_then next r ≡ number_then next o
capped_then next same None r is = rw is refl
capped_then next same (Some m) r is = rw is (same m)

pub capped_and_then : {X : Type 0} (next : ℕ → Option X) → ((m : ℕ) → next (min 1073741825 m) ≡ next m) → (o r : Option ℕ) → r ≡ cap o → option_and_then next r ≡ option_and_then next o
capped_and_then next same None r is = rw is refl
capped_and_then next same (Some m) r is = rw is (same m)

pub cap_none : (o : Option ℕ) → None ≡ cap o → o ≡ None
cap_none None h = refl
cap_none (Some m) h = absurd cc

-- what is capped higher is capped here
pub capped_twice : (o : Option ℕ) (n m : ℕ) → Some n ≡ option_map (min (2 ^ 64)) o → m ≡ min 1073741825 n → Some m ≡ cap o
capped_twice None n m is small = absurd cc
capped_twice (Some k) n m is small =
    let same : n ≡ min (2 ^ 64) k = cc in
    let e : m ≡ min 1073741825 k = omega arith in
    ap (λ (x : ℕ). Some x) e

pub capped_none : (o : Option ℕ) → None ≡ option_map (min (2 ^ 64)) o → None ≡ cap o
capped_none None is = refl
capped_none (Some k) is = absurd cc
