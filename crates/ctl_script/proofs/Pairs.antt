-- Bytes in pairs of digits.
use Rattle.std.proofs.Common.{◌≡◌, refl, sym, ap, ℕ, List, [], ◌∷◌, ◌++◌, append_assoc, Option, Some, None}
use Rattle.std.specs.Prelude.{option_map}
use Rattle.ctl_script.specs.Numeral.{byte_of, hex_bytes}

pub pair_more : (bytes : List ℕ) (text : List ℕ) (a b n : ℕ) (rest : List ℕ) → text ≡ a ∷ b ∷ rest → Some n ≡ byte_of a b
    → option_map (λ more. bytes ++ more) (hex_bytes text) ≡ option_map (λ more. (bytes ++ n ∷ []) ++ more) (hex_bytes rest)
pair_more bytes text a b n rest is e = rw (is, ← e) (go (hex_bytes rest))
  where
    go : (o : Option (List ℕ)) → option_map (λ more. bytes ++ more) (option_map (λ more. n ∷ more) o) ≡ option_map (λ more. (bytes ++ n ∷ []) ++ more) o
    go None = refl
    go (Some more) = ap (λ (x : List ℕ). Some x) (sym (append_assoc bytes (n ∷ []) more))

pub pair_bad : (bytes : List ℕ) (text : List ℕ) (a b : ℕ) (rest : List ℕ) → text ≡ a ∷ b ∷ rest → None ≡ byte_of a b
    → option_map (λ more. bytes ++ more) (hex_bytes text) ≡ None
pair_bad bytes text a b rest is e = rw (is, ← e) refl
