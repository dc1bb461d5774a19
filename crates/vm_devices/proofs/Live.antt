-- Timers one after the other.
use Rattle.std.specs.Prelude.{Option, Some, None, min, unwrap_or, if◌then◌else◌}
use Rattle.std.proofs.Common.{◌≡◌, ℕ, zero, suc, ◌+◌, ◌<◌, Bool, true, false, List, [], ◌∷◌, ◌++◌, length, map, get_or, refl, sym, ap, arith, add-one, ◌∙◌}
use Rattle.std.specs.List.{filter, fold, list_any, range_with_len}
use Rattle.std.proofs.lemmas.List.{map-append}
use Rattle.std.proofs.lemmas.List.Elements.{filter-append}
use Rattle.std.proofs.lemmas.List.Folds.{list_any-append, list_any_at}
use Rattle.std.proofs.lemmas.List.FromFn.{length-range_with_len, get_or-range_with_len}
use Rattle.std.proofs.lemmas.Grind.{common_steps}
use Rattle.vm_state.specs.Machine.{MachineState, cpu_count}
use Rattle.vm_devices.specs.Timers.{least, smaller, left_at, is_live, least_live}

range_suc : (a n j : ℕ) → a + n ≡ j → range_with_len a (suc n) ≡ range_with_len a n ++ j ∷ []
range_suc a zero j e = ap (λ (k : ℕ). k ∷ []) (omega arith)
range_suc a (suc n) j e = ap (λ (ks : List ℕ). a ∷ ks) (range_suc (a + 1) n j (omega arith))

-- one number more
pub range_more : (a n j : ℕ) → a + n ≡ j → range_with_len a (n + 1) ≡ range_with_len a n ++ j ∷ []
range_more a n j e = ap (λ (k : ℕ). range_with_len a k) (add-one n) ∙ range_suc a n j e

-- ---- some timer passes a test

pub any_more : (p : ℕ → Bool) (n : ℕ) → list_any p (range_with_len 0 n) ≡ false → p n ≡ false → list_any p (range_with_len 0 (n + 1)) ≡ false
any_more p n none not_here =
    ap (λ (ks : List ℕ). list_any p ks) (range_more 0 n n (omega arith)) ∙ list_any-append p (range_with_len 0 n) (n ∷ []) ∙ grind (arith, common_steps)

pub any_found : (p : ℕ → Bool) (n i : ℕ) → i < n → p i ≡ true → list_any p (range_with_len 0 n) ≡ true
any_found p n i within here =
    let long : i < length (range_with_len 0 n) = rw (length-range_with_len 0 n) within in
    let there : get_or (range_with_len 0 n) i 0 ≡ i = omega (arith, get_or-range_with_len 0 n i 0 within) in
    list_any_at p (range_with_len 0 n) i 0 long (ap p there ∙ here)

pub ruleset any_steps = (any_more, any_found)

-- ---- the least that is left

abbrev pub least_of : List ℕ → Option ℕ
least_of [] = None
least_of (n ∷ ns) = Some (fold min n ns)

fold-one : (k : ℕ) (ns : List ℕ) (n : ℕ) → fold min k (ns ++ n ∷ []) ≡ min (fold min k ns) n
fold-one k [] n = refl
fold-one k (x ∷ ns) n = fold-one (min k x) ns n

least_one : (ns : List ℕ) (n : ℕ) → least_of (ns ++ n ∷ []) ≡ smaller (least_of ns) n
least_one [] n = refl
least_one (k ∷ ns) n = ap (λ (j : ℕ). Some j) (fold-one k ns n)

least_is : (ns : List ℕ) → unwrap_or (least_of ns) 0 ≡ least ns
least_is [] = refl
least_is (n ∷ ns) = refl

-- the least of the vCPUs below n
unfoldable pub least_below : MachineState → ℕ → Option ℕ
least_below m n = least_of (map (left_at m) (filter (is_live m) (range_with_len 0 n)))

kept : (m : MachineState) (n : ℕ) → is_live m n ≡ true → filter (is_live m) (n ∷ []) ≡ n ∷ []
kept m n e = grind (arith, common_steps)

gone : (m : MachineState) (n : ℕ) → is_live m n ≡ false → filter (is_live m) (n ∷ []) ≡ []
gone m n e = grind (arith, common_steps)

with_if : (m : MachineState) (ns : List ℕ) (n : ℕ) (b : Bool) → b ≡ is_live m n
    → least_of (map (left_at m) (ns ++ filter (is_live m) (n ∷ []))) ≡ (if b then smaller (least_of (map (left_at m) ns)) (left_at m n) else least_of (map (left_at m) ns))
with_if m ns n true e =
    ap (λ (ks : List ℕ). least_of (map (left_at m) (ns ++ ks))) (kept m n (sym e))
    ∙ ap least_of (map-append (left_at m) ns (n ∷ []))
    ∙ least_one (map (left_at m) ns) (left_at m n)
with_if m ns n false e =
    ap (λ (ks : List ℕ). least_of (map (left_at m) (ns ++ ks))) (gone m n (sym e))
    ∙ ap (λ (ks : List ℕ). least_of (map (left_at m) ks)) (grind (arith, common_steps))

pub least_none : (m : MachineState) → least_below m 0 ≡ None
unfolding least_below
least_none m = refl

pub least_more : (m : MachineState) (n : ℕ) → least_below m (n + 1) ≡ (if is_live m n then smaller (least_below m n) (left_at m n) else least_below m n)
unfolding least_below
least_more m n =
    ap (λ (ks : List ℕ). least_of (map (left_at m) (filter (is_live m) ks))) (range_more 0 n n (omega arith))
    ∙ ap (λ (ks : List ℕ). least_of (map (left_at m) ks)) (filter-append (is_live m) (range_with_len 0 n) (n ∷ []))
    ∙ with_if m (filter (is_live m) (range_with_len 0 n)) n (is_live m n) refl

pub least_all : (m : MachineState) → unwrap_or (least_below m (cpu_count m)) 0 ≡ least_live m
unfolding least_below least_live
least_all m = least_is (map (left_at m) (filter (is_live m) (range_with_len 0 (cpu_count m))))

pub ruleset least_steps = (least_none, least_more, least_all)
