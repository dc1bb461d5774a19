-- Bytes of the code part.
use Rattle.std.proofs.Common.{◌≡◌, ℕ, ◌+◌, ◌-◌, ◌≤◌, ◌<◌, List, length, take, drop, min, ap, ◌∙◌, inl, inr, arith}
use Rattle.std.proofs.lemmas.List.{drop-take, length-take, take-take, take_all}
use Rattle.std.proofs.lemmas.Bool.{cases_lt}

-- of the bytes from a place inside the code on, the first that are code, at most so many
pub code_part : (bytes : List ℕ) (code at most n : ℕ) → at < code → n ≡ min (code - at) most → take most (drop at (take code bytes)) ≡ take n (drop at bytes)
code_part bytes code at most n lt is =
    let e : code ≡ at + (code - at) = omega arith in
    let d : drop at (take code bytes) ≡ take (code - at) (drop at bytes) = ap (λ (k : ℕ). drop at (take k bytes)) e ∙ drop-take at (code - at) bytes in
    let rest = drop at bytes in
    ap (λ (xs : List ℕ). take most xs) d
    ∙ elim (cases_lt (code - at) most) [
      | inl less ↦
          let k : code - at ≡ n = omega arith in
          let l : length (take (code - at) rest) ≤ most = omega (arith, length-take (code - at) rest) in
          take_all most (take (code - at) rest) l ∙ ap (λ (m : ℕ). take m rest) k
      | inr more ↦
          let k : most ≡ n = omega arith in
          take-take most (code - at) rest more ∙ ap (λ (m : ℕ). take m rest) k
    ]
