-- What is accepted after a crash.
use Rattle.std.proofs.Common.{◌≡◌, inl, inr, ℕ, List, ◌∷◌, length, refl, ap, subst, arith}
use Rattle.ckpt_store.specs.Gate.{IsShut, IsShutOrWhole}

pub accepted-whole : (text file rest : List ℕ) (first : ℕ) → IsShutOrWhole text file → file ≡ 1 ∷ first ∷ rest → file ≡ text
accepted-whole text file rest first (inl short) is = absurd (omega (arith, ap length is))
accepted-whole text file rest first (inr (inl shut)) is = absurd (subst IsShut is shut refl)
accepted-whole text file rest first (inr (inr whole)) is = whole
