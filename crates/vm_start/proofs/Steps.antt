-- Steps one after the other.
use Rattle.std.proofs.Common.{◌≡◌, ◌⊎◌, inl, inr, Result, Ok, Err, refl, sym, subst}
use Rattle.std.specs.Prelude.{IfOk, IfErr}
use Rattle.vm_status.specs.declared.refusal.Refusal.{Refusal}
use Rattle.vm_status.specs.declared.refusal.Refusal.TheVariants.{Memory}
use Rattle.vm_start.specs.Answers.{Answers, Is, Then, goes_on, ends, UpToMemory}

module _ {X Y : Type 0} (First : Answers X) (next : X → Answers Y) where
  -- the first step gave a value
  pub on : (x : X) (r : Result Y Refusal) → First (Ok x) → UpToMemory (next x) r → UpToMemory (Then First next) r
  on x (Ok y) h n = goes_on x h n
  on x (Err e) h (inl m) = inl m
  on x (Err e) h (inr n) = inr (goes_on x h n)

  -- the first step refused
  pub off : (e : Refusal) → UpToMemory First (Err e) → UpToMemory (Then First next) (Err e)
  off e (inl m) = inl m
  off e (inr h) = inr (ends e h refl)

  -- a value came of a value
  pub ok_then : (y : Y) → Then First next (Ok y) → (x : X) × First (Ok x) × next x (Ok y)
  ok_then y (goes_on x h n) = (x, h, n)
  ok_then y (ends e h bad) = absurd (cc)

pub is_ok : {X : Type 0} (x y : X) (r : Result X Refusal) → Is r (Ok x) → r ≡ Ok y → x ≡ y
is_ok x y r e f = cc

-- a refusal that is right, or want of memory in its place
pub refuse : {X : Type 0} (P : Answers X) (e f : Refusal) → (f ≡ Memory) ⊎ (f ≡ e) → P (Err e) → UpToMemory P (Err f)
refuse P e f (inl m) h = inl m
refuse P e f (inr is) h = inr (subst (λ (r : Refusal). P (Err r)) (sym is) h)

-- what a value that was given says
pub if_ok : {X : Type 0} (P : Answers X) (Q : X → Type 0) (r : Result X Refusal) → UpToMemory P r → ((x : X) → P (Ok x) → Q x) → IfOk r Q
if_ok P Q (Ok x) h f = f x h
if_ok P Q (Err e) h f = tt

-- what a refusal says
pub if_err : {X : Type 0} (r : Result X Refusal) (P Q : Refusal → Type 0) → ((e : Refusal) → P e → Q e) → IfErr r P → IfErr r Q
if_err (Ok x) P Q f h = tt
if_err (Err e) P Q f h = f e h
