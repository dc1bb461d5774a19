-- Codes that differ in some bytes alone.
use Rattle.std.proofs.Common.{◌≡◌, ℕ, ◌+◌, ◌-◌, ◌<◌, ◌≤◌, ◌⊎◌, inl, inr, List, ◌++◌, length, take, drop, get_or, length-append, length-drop, ap, sym, ◌∙◌, arith}
use Rattle.std.proofs.lemmas.Bool.{cases_lt}
use Rattle.std.proofs.lemmas.List.{ext_get_or, get_or_past, get_or_append_left, get_or-append_right, get_or-take, get_or-drop, length-take, length-take-le}
use Rattle.vm_law.specs.Memory.{Memory, code_of, written}
use Rattle.x86_fetch.specs.Fetching.{fetched}
use Rattle.x86_fetch.specs.Kept.{ChangesOnly}

-- what is fetched where none of these bytes is
pub fetched_same : (old new : List ℕ) (at n a : ℕ) → ChangesOnly old new at n → (a + 15 ≤ at) ⊎ (at + n ≤ a) → fetched new a ≡ fetched old a
fetched_same old new at n a change apart =
    let size : length new ≡ length old = change.size in
    let l : length (fetched new a) ≡ length (fetched old a) =
    omega (arith, length-take 15 (drop a new), length-take 15 (drop a old), length-drop a new, length-drop a old) in
    ext_get_or 0 (fetched new a) (fetched old a) l (λ i lt.
    let less : i < 15 = omega (arith, length-take 15 (drop a new)) in
    let outside : (a + i < at) ⊎ (at + n ≤ a + i) = elim apart [ inl before ↦ inl (omega arith) | inr behind ↦ inr (omega arith) ] in
    get_or-take 15 (drop a new) i 0 less ∙ get_or-drop a new i 0 ∙ change.rest (a + i) outside
    ∙ sym (get_or-drop a old i 0) ∙ sym (get_or-take 15 (drop a old) i 0 less))

-- the bytes after a write, but for those that were written
put_outside : (bytes piece : List ℕ) (at k : ℕ) → at + length piece ≤ length bytes → (k < at) ⊎ (at + length piece ≤ k)
    → get_or ((take at bytes ++ piece) ++ drop (at + length piece) bytes) k 0 ≡ get_or bytes k 0
put_outside bytes piece at k le apart =
    let n = length piece in
    let front : length (take at bytes ++ piece) ≡ at + n = omega (arith, length-append (take at bytes) piece, length-take-le at bytes (omega arith)) in
    elim apart [
      | inl before ↦
          get_or_append_left (take at bytes ++ piece) (drop (at + n) bytes) 0 k (omega arith)
          ∙ get_or_append_left (take at bytes) piece 0 k (omega (arith, length-take-le at bytes (omega arith)))
          ∙ get_or-take at bytes k 0 before
      | inr behind ↦
          let there : at + n + (k - (at + n)) ≡ k = omega arith in
          get_or-append_right (take at bytes ++ piece) (drop (at + n) bytes) (at + n) k 0 front behind
          ∙ get_or-drop (at + n) bytes (k - (at + n)) 0 ∙ ap (λ (i : ℕ). get_or bytes i 0) there
    ]

pub write_changes : (m : Memory) (at : ℕ) (piece : List ℕ) → at + length piece ≤ length m.bytes → ChangesOnly (code_of m) (code_of (written m at piece)) at (length piece)
write_changes m at piece le =
    let n = length piece in
    let new = (take at m.bytes ++ piece) ++ drop (at + n) m.bytes in
    let size : length new ≡ length m.bytes =
    omega (
      arith,
      length-append (take at m.bytes ++ piece) (drop (at + n) m.bytes),
      length-append (take at m.bytes) piece,
      length-take-le at m.bytes (omega arith),
      length-drop (at + n) m.bytes,
    ) in
    let l1 = length-take m.code new in
    let l2 = length-take m.code m.bytes in
    record {
      size = omega (arith, l1, l2);
      rest = λ k apart. elim (cases_lt k m.code) [
        | inl less ↦ get_or-take m.code new k 0 less ∙ put_outside m.bytes piece at k le apart ∙ sym (get_or-take m.code m.bytes k 0 less)
        | inr past ↦ get_or_past (take m.code new) k 0 (omega (arith, l1)) ∙ sym (get_or_past (take m.code m.bytes) k 0 (omega (arith, l2)))
      ];
    }
