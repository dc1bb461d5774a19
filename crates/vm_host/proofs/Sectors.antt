-- What stays around a sector that is replaced.
use Rattle.std.proofs.Common.{◌≡◌, ℕ, ◌+◌, ◌≤◌, List, ◌++◌, length, take, drop, ◌∙◌, ap, arith, length-append, length-take, length-drop}
use Rattle.std.proofs.lemmas.List.{take_at, drop_at, append_assoc}
use Rattle.vm_host.specs.Files.{Holds, SameOutside}

pub holds_same : (old new piece : List ℕ) (at : ℕ) → Holds old at piece new → length piece ≡ 512 → at + 512 ≤ length old → SameOutside at 512 old new
holds_same old new piece at holds size inside =
    let front : length (take at old) ≡ at = omega (arith, length-take at old) in
    let tail = drop (at + length piece) old in
    let both : length (take at old ++ piece) ≡ at + 512 = omega (arith, length-append (take at old) piece, front, size) in
    let ends : at + length piece ≡ at + 512 = omega (arith, size) in
    record {
      size = omega (arith, ap length holds, length-append (take at old ++ piece) tail, both, length-drop (at + length piece) old, size);
      before = ap (λ (l : List ℕ). take at l) (holds ∙ append_assoc (take at old) piece tail) ∙ take_at (take at old) (piece ++ tail) at front;
      after = ap (λ (l : List ℕ). drop (at + 512) l) holds ∙ drop_at (take at old ++ piece) tail (at + 512) both ∙ ap (λ (k : ℕ). drop k old) ends;
    }
