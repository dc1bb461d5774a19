-- Names that are the same, byte by byte.
use Rattle.std.proofs.Common.{◌≡◌, ℕ, ◌&&◌, ◌==◌, List, [], ◌∷◌, refl, ap}
use Rattle.std.specs.Str.{bytes_eq}
use Rattle.vm_state.specs.Script.{same_name}

pub same_bytes : (xs ys : List ℕ) → bytes_eq xs ys ≡ same_name xs ys
same_bytes [] [] = refl
same_bytes [] (y ∷ ys) = refl
same_bytes (x ∷ xs) [] = refl
same_bytes (x ∷ xs) (y ∷ ys) = ap (λ b. (x == y) && b) (same_bytes xs ys)
