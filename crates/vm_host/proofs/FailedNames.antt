-- The first bytes of a name.
use Rattle.std.proofs.Common.{◌≡◌, inl, inr, ℕ, min, List, ◌++◌, length, take, sym, ◌∙◌, ap, arith, length-take}
use Rattle.std.proofs.lemmas.List.{take_all, take_at}
use Rattle.std.proofs.lemmas.Bool.{cases_lt}

kept_of_all : (name : List ℕ) (most kept : ℕ) → kept ≡ min (length name) most → take kept name ≡ take most name
kept_of_all name most kept is =
    elim (cases_lt most (length name)) [
      | inl less ↦ ap (λ (k : ℕ). take k name) (omega (arith, is))
      | inr fits ↦ take_all kept name (omega (arith, is)) ∙ sym (take_all most name fits)
    ]

-- what stands behind the kept bytes isn't seen
pub kept_front : (name copied rest : List ℕ) (most kept : ℕ) → kept ≡ min (length name) most → copied ≡ take kept name → take kept (copied ++ rest) ≡ take most name
kept_front name copied rest most kept is copy =
    let size : length copied ≡ kept = omega (arith, ap length copy, length-take kept name, is) in
    take_at copied rest kept size ∙ copy ∙ kept_of_all name most kept is
