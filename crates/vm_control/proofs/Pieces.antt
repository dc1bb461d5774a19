-- What a sink took of a list, piece by piece.
use Rattle.std.proofs.Common.{◌≡◌, ℕ, ◌+◌, ◌-◌, ◌≤◌, List, ◌++◌, append_assoc, drop, length, length-drop, take, sym, ◌∙◌, ap, arith}
use Rattle.std.proofs.Math.Seq.{take-add}
use Rattle.std.proofs.lemmas.List.{take_all}

-- a piece more was taken of what is left behind place i
pub took_more : (taken bytes : List ℕ) (i n : ℕ) → i ≤ length bytes → (taken ++ take i bytes) ++ take n (take (length bytes - i) (drop i bytes)) ≡ taken ++ take (i + n) bytes
took_more taken bytes i n le =
    let all : take (length bytes - i) (drop i bytes) ≡ drop i bytes = take_all (length bytes - i) (drop i bytes) (omega (arith, length-drop i bytes)) in
    ap (λ (l : List ℕ). (taken ++ take i bytes) ++ take n l) all
    ∙ append_assoc taken (take i bytes) (take n (drop i bytes))
    ∙ ap (λ (l : List ℕ). taken ++ l) (sym (take-add i n bytes))
