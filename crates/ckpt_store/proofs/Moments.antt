-- What crashes may leave over several calls on one file.
use Rattle.std.proofs.Common.{⊎_elim, ℕ, ◌≤◌, ◌≡◌, List, subst}
use Rattle.vm_host.specs.Crash.{Passes, AddsTorn, Torn, Only, SinceEarlier}

-- a write whose torn outcomes have P
pub torn_keeps : (name : List ℕ) (since m n at k : ℕ) (a b : List ℕ → ℕ → List ℕ → Type 0) (f : List ℕ) (P : List ℕ → Type 0) → SinceEarlier a → since ≤ m
    → ((x : List ℕ) → a name since x → P x) → Only f (a name m) → Passes (λ q. q ≡ name) m n a b → AddsTorn at k (a name m) (b name m)
    → ((x : List ℕ) → Torn at k f x → P x) → (x : List ℕ) → b name since x → P x
torn_keeps name since m n at k a b f P earlier le so_far only time adds torn x h =
    ⊎_elim (so_far x)
    (λ came. ⊎_elim (λ was. so_far x (earlier name since m x le was)) (λ w. torn x (subst (λ (d : List ℕ). Torn at k d x) (only w.0 w.1) w.2)) (adds x came))
    (time.nothing_else name since x le h)
