-- What a runner ran ahead goes by the pages that it looked at alone.
use Rattle.std.specs.Prelude.{◌&&◌, if◌then◌else◌, min}
use Rattle.std.specs.List.{list_all}
use Rattle.std.proofs.Common.{◌≡◌, ℕ, zero, suc, ◌+◌, ◌-◌, ◌<◌, ◌≤◌, Bool, true, false, List, length, refl, sym, ap, subst, ◌∙◌, inl, inr, arith}
use Rattle.std.proofs.lemmas.Bool.{cases_lt}
use Rattle.vm_law.specs.declared.context.Ctx.{Ctx}
use Rattle.x86_fetch.specs.Slices.{all_local, most_local, stands_local, stepped_by}
use Rattle.vm_table.specs.Rounds.{pages_looked}
use Rattle.vm_laws.proofs.Touching.{page_in}
use Rattle.vm_table.proofs.Looking.{each_at, local_same}

-- what was local over the old code is local over the new one
pub still_local : (old now : List ℕ) (P : ℕ → Bool) → ((page : ℕ) → P page ≡ true → page_in now page ≡ page_in old page) → length now ≡ length old → (c : Ctx) (n granted : ℕ) → n ≤ granted
    → list_all P (pages_looked old c n granted) ≡ true → all_local old c n ≡ true → all_local now c n ≡ true
still_local old now P tells size c n granted few h local =
    local_same old now P tells size c n (λ j l. each_at old now P tells size c 0 (min (n + 1) granted) j h (omega arith) (omega (arith, l, few))) ∙ local

-- the most that are local are local, and no more than were asked for
pub most_fits : (code : List ℕ) (c : Ctx) (n : ℕ) → (all_local code c (most_local code c n) ≡ true) × (most_local code c n ≤ n)
most_fits code c zero = (refl, omega arith)
most_fits code c (suc n) =
    let rest = most_fits code c n in
    most_if (all_local code c (suc n)) refl rest
  where
    most_if : (b : Bool) → all_local code c (suc n) ≡ b → (all_local code c (most_local code c n) ≡ true) × (most_local code c n ≤ n)
        → (all_local code c (if b then suc n else most_local code c n) ≡ true) × ((if b then suc n else most_local code c n) ≤ suc n)
    most_if true e rest = (e, omega arith)
    most_if false e rest = (rest.0, omega (arith, rest.1))

-- one that isn't local makes all longer ones fail
fails_on : (code : List ℕ) (c : Ctx) (n m : ℕ) → n ≤ m → all_local code c n ≡ false → all_local code c m ≡ false
fails_on code c n zero l h = let e : n ≡ 0 = omega (arith, l) in ap (λ (k : ℕ). all_local code c k) (sym e) ∙ h
fails_on code c n (suc m) l h =
    elim (cases_lt m n) [
      | inl last ↦ (let e : n ≡ suc m = omega (arith, l, last) in ap (λ (k : ℕ). all_local code c k) (sym e) ∙ h)
      | inr more ↦ ap (λ b. b && stands_local code (stepped_by code c m)) (fails_on code c n m more h)
    ]

-- so many are the most: they are local, and one more isn't, unless no more were asked for
most_is : (code : List ℕ) (c : Ctx) (n r : ℕ) → r ≤ n → all_local code c r ≡ true → (r < n → all_local code c (suc r) ≡ false) → most_local code c n ≡ r
most_is code c zero r l h f = omega (arith, l)
most_is code c (suc n) r l h f =
    elim (cases_lt r (suc n)) [
      | inr last ↦ (let e : suc n ≡ r = omega (arith, l, last) in ap (λ b. if b then suc n else most_local code c n) (ap (λ (m : ℕ). all_local code c m) e ∙ h) ∙ e)
      | inl less ↦
          let over : all_local code c (suc n) ≡ false = fails_on code c (suc r) (suc n) (omega (arith, less)) (f less) in
          ap (λ b. if b then suc n else most_local code c n) over ∙ most_is code c n r (omega (arith, less)) h (λ m. f less)
    ]

most_over : (code : List ℕ) (c : Ctx) (n : ℕ) → most_local code c n < n → all_local code c (suc (most_local code c n)) ≡ false
most_over code c zero l = absurd (omega (arith, l))
most_over code c (suc n) l = over_if (all_local code c (suc n)) refl (λ m. most_over code c n m) l
  where
    over_if : (b : Bool) → all_local code c (suc n) ≡ b → (most_local code c n < n → all_local code c (suc (most_local code c n)) ≡ false) → (if b then suc n else most_local code c n) < suc n
        → all_local code c (suc (if b then suc n else most_local code c n)) ≡ false
    over_if true e rest l = absurd (omega (arith, l))
    over_if false e rest l = elim (cases_lt (most_local code c n) n) [
      | inl a ↦ rest a
      | inr b ↦ (let most = (most_fits code c n).1 in let same : most_local code c n ≡ n = omega (arith, most, b) in subst (λ (k : ℕ). all_local code c (suc k) ≡ false) (sym same) e)
    ]

-- the most over the old code are the most over the new one
pub most_same : (old now : List ℕ) (P : ℕ → Bool) → ((page : ℕ) → P page ≡ true → page_in now page ≡ page_in old page) → length now ≡ length old → (c : Ctx) (n granted : ℕ) → n ≡ most_local old c granted
    → list_all P (pages_looked old c n granted) ≡ true → n ≡ most_local now c granted
most_same old now P tells size c n granted most h =
    let fits = most_fits old c granted in
    let few : n ≤ granted = (let a = fits.1 in omega (arith, a, most)) in
    let local : all_local old c n ≡ true = ap (λ (k : ℕ). all_local old c k) most ∙ fits.0 in
    sym (most_is now c granted n few (still_local old now P tells size c n granted few h local) (λ l.
    local_same old now P tells size c (suc n) (λ j m. each_at old now P tells size c 0 (min (n + 1) granted) j h (omega arith) (omega (arith, m, l)))
    ∙ ap (λ (k : ℕ). all_local old c (suc k)) most ∙ most_over old c granted (omega (arith, most, l))))

-- where the next instruction is local, at least one is
pub some_most : (code : List ℕ) (c : Ctx) (n : ℕ) → 0 < n → all_local code c 1 ≡ true → 0 < most_local code c n
some_most code c zero some local = absurd (omega arith)
some_most code c (suc zero) some local = rw local (omega arith)
some_most code c (suc (suc n)) some local = some_if _ (some_most code c (suc n) (omega arith) local)
  where
    some_if : (b : Bool) → 0 < most_local code c (suc n) → 0 < (if b then suc (suc n) else most_local code c (suc n))
    some_if true h = omega arith
    some_if false h = h
