-- The sectors of a disk of which one was written.
use Rattle.std.proofs.Common.{◌≡◌, ◌≢◌, ℕ, ◌+◌, ◌-◌, ◌*◌, ◌≤◌, ◌<◌, List, ◌++◌, length, take, drop, sym, ap, ◌∙◌, inl, inr, arith}
use Rattle.std.proofs.lemmas.List.{drop-take, length-take, length-drop, length-append, take-take, take_at, drop_at, drop-drop, take-append-le, drop-append-le}
use Rattle.std.proofs.lemmas.Bool.{cases_lt}
use Rattle.vm_host.specs.Files.{SameOutside}
use Rattle.vm_state.specs.Requests.{sector_of, with_sector}

before_sector : (xs : List ℕ) (j k : ℕ) → j < k → sector_of xs j ≡ take 512 (drop (512 * j) (take (512 * k) xs))
before_sector xs j k l =
    let e : 512 * k ≡ 512 * j + (512 * k - 512 * j) = omega arith in
    let more : 512 ≤ 512 * k - 512 * j = omega arith in
    sym (ap (λ n. take 512 (drop (512 * j) (take n xs))) e ∙ ap (λ ys. take 512 ys) (drop-take (512 * j) (512 * k - 512 * j) xs) ∙ take-take 512 (512 * k - 512 * j) (drop (512 * j) xs) more)

after_sector : (xs : List ℕ) (j k : ℕ) → k < j → sector_of xs j ≡ take 512 (drop (512 * j - (512 * k + 512)) (drop (512 * k + 512) xs))
after_sector xs j k l =
    let e : 512 * j ≡ 512 * k + 512 + (512 * j - (512 * k + 512)) = omega arith in
    ap (λ n. take 512 (drop n xs)) e ∙ ap (λ ys. take 512 ys) (sym (drop-drop (512 * j - (512 * k + 512)) (512 * k + 512) xs))

-- the others stay
pub other_sector : (old new : List ℕ) (j k : ℕ) → SameOutside (512 * k) 512 old new → j ≢ k → sector_of new j ≡ sector_of old j
other_sector old new j k s ne =
    elim (cases_lt j k) [
      | inl l ↦ before_sector new j k l ∙ ap (λ xs. take 512 (drop (512 * j) xs)) s.before ∙ sym (before_sector old j k l)
      | inr g ↦ (let l : k < j = omega (arith, ne) in
          after_sector new j k l ∙ ap (λ xs. take 512 (drop (512 * j - (512 * k + 512)) xs)) s.after ∙ sym (after_sector old j k l))
    ]

-- a piece laid over a sector
length_before : (xs : List ℕ) (k : ℕ) → 512 * k ≤ length xs → length (take (512 * k) xs) ≡ 512 * k
length_before xs k m = length-take (512 * k) xs ∙ omega (arith, m)

length_with : (xs piece : List ℕ) (k : ℕ) → length piece ≡ 512 → 512 * k ≤ length xs → length (take (512 * k) xs ++ piece) ≡ 512 * k + 512
length_with xs piece k l m =
    let a = length-append (take (512 * k) xs) piece in
    let b = length_before xs k m in
    omega (arith, a, b, l)

pub written_sector : (xs piece : List ℕ) (k : ℕ) → length piece ≡ 512 → 512 * k ≤ length xs → sector_of (with_sector xs k piece) k ≡ piece
written_sector xs piece k l m =
    let a = take (512 * k) xs in
    let c = drop (512 * k + 512) xs in
    let long = length_with xs piece k l m in
    let le : 512 * k ≤ length (a ++ piece) = omega (arith, long) in
    ap (λ ys. take 512 ys) (drop-append-le (512 * k) (a ++ piece) c le ∙ ap (λ ys. ys ++ c) (drop_at a piece (512 * k) (length_before xs k m)))
    ∙ take_at piece c 512 l

pub written_outside : (xs piece : List ℕ) (k : ℕ) → length piece ≡ 512 → 512 * k + 512 ≤ length xs → SameOutside (512 * k) 512 xs (with_sector xs k piece)
written_outside xs piece k l m =
    let a = take (512 * k) xs in
    let c = drop (512 * k + 512) xs in
    let lower : 512 * k ≤ length xs = omega (arith, m) in
    let long = length_with xs piece k l lower in
    let le : 512 * k ≤ length (a ++ piece) = omega (arith, long) in
    let all = length-append (a ++ piece) c in
    let rest = length-drop (512 * k + 512) xs in
    record {
      size = omega (arith, all, long, rest, m);
      before = take-append-le (512 * k) (a ++ piece) c le ∙ take_at a piece (512 * k) (length_before xs k lower);
      after = drop_at (a ++ piece) c (512 * k + 512) long;
    }
