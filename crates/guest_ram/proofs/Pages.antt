-- What a list of places reads as.
use Rattle.std.proofs.Common.{◌≡◌, ℕ, ◌+◌, ◌-◌, ◌*◌, ◌/◌, ◌%◌, ◌≤◌, ◌<◌, List, [], ◌∷◌, ◌++◌, Option, Some, None, take, drop, length, get_or, set, replicate, length-append, ap, sym, ◌∙◌, suc, zero, append_assoc, arith, refl, false, inl, inr}
use Rattle.std.specs.Prelude.{is_some}
use Rattle.std.proofs.lemmas.Bool.{true≢false, cases_lt}
use Rattle.std.proofs.Math.ListN.{get_or-map}
use Rattle.std.proofs.lemmas.List.{length-replicate, get_or_past, get_or_append_left, get_or-append-add, take_all, replicate-append-replicate, take_at, drop_at}
use Rattle.guest_ram.specs.Pages.{zero_page, page_of, bytes_of, standing_of, IsPage, ArePages, written_in, written_to, standing_at}
use Rattle.guest_ram.proofs.Lists.{read_inside, write_inside, put, length-put}

abbrev pub Place : Type 0
Place = Option (List ℕ)

pub zero_page_is : zero_page ≡ replicate 4096 0
unfolding zero_page
zero_page_is = refl

pub length-zero_page : length zero_page ≡ 4096
length-zero_page = ap (λ (xs : List ℕ). length xs) zero_page_is ∙ length-replicate {A = ℕ} 4096 0

-- what is read in a list of zeros
pub take-drop-replicate : (n o m : ℕ) → o + n ≤ m → take {A = ℕ} n (drop o (replicate m 0)) ≡ replicate n 0
take-drop-replicate n o m le =
    let r = m - (o + n) in
    let e : m ≡ o + (n + r) = omega arith in
    let parts : replicate m 0 ≡ replicate o 0 ++ (replicate n 0 ++ replicate r 0) =
    ap (λ (k : ℕ). replicate k 0) e ∙ sym (replicate-append-replicate o (n + r) 0)
    ∙ ap (λ (xs : List ℕ). replicate o 0 ++ xs) (sym (replicate-append-replicate n r 0)) in
    ap (λ (xs : List ℕ). take n (drop o xs)) parts
    ∙ ap (λ (xs : List ℕ). take n xs) (drop_at (replicate o 0) (replicate n 0 ++ replicate r 0) o (length-replicate o 0))
    ∙ take_at (replicate n 0) (replicate r 0) n (length-replicate n 0)

pub zeros_in_page : (n o : ℕ) → o + n ≤ 4096 → replicate n 0 ≡ take n (drop o zero_page)
zeros_in_page n o le = sym (ap (λ (xs : List ℕ). take n (drop o xs)) zero_page_is ∙ take-drop-replicate n o 4096 le)

pub get_or-zeros : (k n : ℕ) → get_or {A = ℕ} (replicate n 0) k 0 ≡ 0
get_or-zeros k zero = refl
get_or-zeros zero (suc n) = refl
get_or-zeros (suc k) (suc n) = get_or-zeros k n

pub get_or-zero_page : (k : ℕ) → get_or zero_page k 0 ≡ 0
get_or-zero_page k = ap (λ (xs : List ℕ). get_or xs k 0) zero_page_is ∙ get_or-zeros k 4096

pub bytes_of-append : (xs ys : List Place) → bytes_of (xs ++ ys) ≡ bytes_of xs ++ bytes_of ys
bytes_of-append [] ys = refl
bytes_of-append (x ∷ xs) ys =
    ap (λ (zs : List ℕ). page_of x ++ zs) (bytes_of-append xs ys) ∙ sym (append_assoc (page_of x) (bytes_of xs) (bytes_of ys))

-- all pages are as long
pub length-bytes_of : (places : List Place) → ((k : ℕ) → k < length places → length (page_of (get_or places k None)) ≡ 4096)
    → length (bytes_of places) ≡ 4096 * length places
length-bytes_of [] pages = refl
length-bytes_of (x ∷ xs) pages =
    let e : length (page_of x) ≡ 4096 = pages 0 (omega arith) in
    let r : length (bytes_of xs) ≡ 4096 * length xs = length-bytes_of xs (λ k lt. pages (suc k) (omega arith)) in
    let s : length (page_of x ++ bytes_of xs) ≡ length (page_of x) + length (bytes_of xs) = length-append (page_of x) (bytes_of xs) in
    omega (arith, e, r, s)

-- the pages before one of them
pub length-before : (places : List Place) (i : ℕ) → i ≤ length places → ((k : ℕ) → k < length places → length (page_of (get_or places k None)) ≡ 4096)
    → length (bytes_of (take i places)) ≡ 4096 * i
length-before places zero le pages = refl
length-before [] (suc i) le pages = absurd (omega arith)
length-before (x ∷ xs) (suc i) le pages =
    let e : length (page_of x) ≡ 4096 = pages 0 (omega arith) in
    let r : length (bytes_of (take i xs)) ≡ 4096 * i = length-before xs i (omega arith) (λ k lt. pages (suc k) (omega arith)) in
    let s : length (page_of x ++ bytes_of (take i xs)) ≡ length (page_of x) + length (bytes_of (take i xs)) = length-append (page_of x) (bytes_of (take i xs)) in
    omega (arith, e, r, s)

-- a page between those before and those behind it
pub around : (places : List Place) (i : ℕ) → i < length places
    → bytes_of places ≡ bytes_of (take i places) ++ (page_of (get_or places i None) ++ bytes_of (drop (suc i) places))
around [] i lt = absurd (omega arith)
around (x ∷ xs) zero lt = refl
around (x ∷ xs) (suc i) lt =
    ap (λ (zs : List ℕ). page_of x ++ zs) (around xs i (omega arith))
    ∙ sym (append_assoc (page_of x) (bytes_of (take i xs)) (page_of (get_or xs i None) ++ bytes_of (drop (suc i) xs)))

pub around_set : (places : List Place) (i : ℕ) (place : Place) → i < length places
    → bytes_of (set places i place) ≡ bytes_of (take i places) ++ (page_of place ++ bytes_of (drop (suc i) places))
around_set [] i place lt = absurd (omega arith)
around_set (x ∷ xs) zero place lt = refl
around_set (x ∷ xs) (suc i) place lt =
    ap (λ (zs : List ℕ). page_of x ++ zs) (around_set xs i place (omega arith))
    ∙ sym (append_assoc (page_of x) (bytes_of (take i xs)) (page_of place ++ bytes_of (drop (suc i) xs)))

sizes : (places : List Place) → ArePages places → (k : ℕ) → k < length places → length (page_of (get_or places k None)) ≡ 4096
sizes places are k lt = (are.each k).size

pub length-places : (places : List Place) → ArePages places → length (bytes_of places) ≡ 4096 * length places
length-places places are = length-bytes_of places (sizes places are)

-- where an address lies
pub place_of : (at : ℕ) → at ≡ 4096 * (at / 4096) + at % 4096
place_of at = omega arith

-- what is read in one page
pub read_one : (places : List Place) (at n : ℕ) → ArePages places → at / 4096 < length places → at % 4096 + n ≤ 4096
    → take n (drop (at % 4096) (page_of (get_or places (at / 4096) None))) ≡ take n (drop at (bytes_of places))
read_one places at n are lt fits =
    let i = at / 4096 in
    let o = at % 4096 in
    let page = page_of (get_or places i None) in
    let size : length page ≡ 4096 = (are.each i).size in
    let front : length (bytes_of (take i places)) ≡ 4096 * i = length-before places i (omega arith) (sizes places are) in
    let inside : take n (drop (4096 * i + o) (bytes_of (take i places) ++ (page ++ bytes_of (drop (suc i) places)))) ≡ take n (drop o page) =
    read_inside (bytes_of (take i places)) page (bytes_of (drop (suc i) places)) (4096 * i) o n front (omega arith) in
    sym (ap (λ (m : ℕ). take n (drop m (bytes_of places))) (place_of at)
    ∙ ap (λ (zs : List ℕ). take n (drop (4096 * i + o) zs)) (around places i lt)
    ∙ inside)

-- what is written in one page
pub write_one : (places : List Place) (at : ℕ) (piece : List ℕ) → ArePages places → at / 4096 < length places → at % 4096 + length piece ≤ 4096
    → bytes_of (written_to places (at / 4096) (at % 4096) piece) ≡ put (bytes_of places) at piece
write_one places at piece are lt fits =
    let i = at / 4096 in
    let o = at % 4096 in
    let page = page_of (get_or places i None) in
    let size : length page ≡ 4096 = (are.each i).size in
    let before = bytes_of (take i places) in
    let behind = bytes_of (drop (suc i) places) in
    let front : length before ≡ 4096 * i = length-before places i (omega arith) (sizes places are) in
    let whole : before ++ (page ++ behind) ≡ bytes_of places = sym (around places i lt) in
    let inside : put (before ++ (page ++ behind)) (4096 * i + o) piece ≡ before ++ (written_in page o piece ++ behind) =
    write_inside before page behind piece (4096 * i) o front (omega arith) in
    around_set places i (Some (written_in page o piece)) lt
    ∙ sym inside
    ∙ ap (λ (zs : List ℕ). put zs (4096 * i + o) piece) whole
    ∙ ap (λ (m : ℕ). put (bytes_of places) m piece) (sym (place_of at))

-- a page that is made to stand reads as before
pub stand_one : (places : List Place) (i : ℕ) → i < length places → bytes_of (standing_at places i) ≡ bytes_of places
stand_one places i lt = around_set places i (Some (page_of (get_or places i None))) lt ∙ sym (around places i lt)

-- a page, replaced by another
pub set_page_at : (places : List Place) (i k : ℕ) (place : Place) → ((k : ℕ) → IsPage (page_of (get_or places k None))) → IsPage (page_of place)
    → IsPage (page_of (get_or (set places i place) k None))
set_page_at [] i k place are is = are k
set_page_at (x ∷ xs) zero zero place are is = is
set_page_at (x ∷ xs) zero (suc k) place are is = are (suc k)
set_page_at (x ∷ xs) (suc i) zero place are is = are 0
set_page_at (x ∷ xs) (suc i) (suc k) place are is = set_page_at xs i k place (λ j. are (suc j)) is

pub set_page : (places : List Place) (i : ℕ) (place : Place) → ArePages places → IsPage (page_of place) → ArePages (set places i place)
set_page places i place are is = record { each = λ k. set_page_at places i k place are.each is }

-- bytes of lists
pub bytes-append : (xs ys : List ℕ) → ((k : ℕ) → get_or xs k 0 < 256) → ((k : ℕ) → get_or ys k 0 < 256) → (k : ℕ) → get_or (xs ++ ys) k 0 < 256
bytes-append [] ys hx hy k = hy k
bytes-append (x ∷ xs) ys hx hy zero = hx 0
bytes-append (x ∷ xs) ys hx hy (suc k) = bytes-append xs ys (λ j. hx (suc j)) hy k

pub bytes-take : (n : ℕ) (xs : List ℕ) → ((k : ℕ) → get_or xs k 0 < 256) → (k : ℕ) → get_or (take n xs) k 0 < 256
bytes-take zero xs h k = omega arith
bytes-take (suc n) [] h k = omega arith
bytes-take (suc n) (x ∷ xs) h zero = h 0
bytes-take (suc n) (x ∷ xs) h (suc k) = bytes-take n xs (λ j. h (suc j)) k

pub bytes-drop : (n : ℕ) (xs : List ℕ) → ((k : ℕ) → get_or xs k 0 < 256) → (k : ℕ) → get_or (drop n xs) k 0 < 256
bytes-drop zero xs h k = h k
bytes-drop (suc n) [] h k = omega arith
bytes-drop (suc n) (x ∷ xs) h k = bytes-drop n xs (λ j. h (suc j)) k

pub bytes-places : (places : List Place) → ((k : ℕ) → IsPage (page_of (get_or places k None))) → (k : ℕ) → get_or (bytes_of places) k 0 < 256
bytes-places [] are k = omega arith
bytes-places (x ∷ xs) are k = bytes-append (page_of x) (bytes_of xs) (are 0).bytes (bytes-places xs (λ j. are (suc j))) k

pub zero_is_page : IsPage zero_page
zero_is_page = record { size = length-zero_page; bytes = λ k. let e : get_or zero_page k 0 ≡ 0 = get_or-zero_page k in omega arith }

-- a page after a write is one
pub written_is_page : (page : List ℕ) (offset : ℕ) (piece : List ℕ) → IsPage page → ((k : ℕ) → get_or piece k 0 < 256) → offset + length piece ≤ 4096
    → IsPage (written_in page offset piece)
written_is_page page offset piece is bytes fits =
    let size : length page ≡ 4096 = is.size in
    record {
      size = length-put page piece offset (omega arith) ∙ size;
      bytes = bytes-append (take offset page ++ piece) (drop (offset + length piece) page)
          (bytes-append (take offset page) piece (bytes-take offset page is.bytes) bytes)
          (bytes-drop (offset + length piece) page is.bytes);
    }

-- a place that stands after a write
pub written_to_pages : (places : List Place) (i offset : ℕ) (piece : List ℕ) → ArePages places → ((k : ℕ) → get_or piece k 0 < 256) → offset + length piece ≤ 4096
    → ArePages (written_to places i offset piece)
written_to_pages places i offset piece are bytes fits =
    set_page places i (Some (written_in (page_of (get_or places i None)) offset piece)) are
    (written_is_page (page_of (get_or places i None)) offset piece (are.each i) bytes fits)

pub standing_pages : (places : List Place) (i : ℕ) → ArePages places → ArePages (standing_at places i)
standing_pages places i are = set_page places i (Some (page_of (get_or places i None))) are (are.each i)

-- an absent page reads as zeros
absent_page : (place : Place) → is_some place ≡ false → page_of place ≡ zero_page
absent_page None is = refl
absent_page (Some bytes) is = absurd (true≢false is)

pub absent_are_zero : (places : List Place) → ArePages places → (at : ℕ) → get_or (standing_of places) (at / 4096) false ≡ false → get_or (bytes_of places) at 0 ≡ 0
absent_are_zero places are at absent =
    elim (cases_lt (at / 4096) (length places)) [
      | inl lt ↦
          let i = at / 4096 in
          let o = at % 4096 in
          let place = get_or places i None in
          let zeros : page_of place ≡ zero_page = absent_page place (sym (get_or-map {A = Place} is_some places i None) ∙ absent) in
          let before = bytes_of (take i places) in
          let behind = bytes_of (drop (suc i) places) in
          let front : length before ≡ 4096 * i = length-before places i (omega arith) (sizes places are) in
          let size : length (page_of place) ≡ 4096 = (are.each i).size in
          let k : at ≡ length before + o = omega arith in
          ap (λ (zs : List ℕ). get_or zs at 0) (around places i lt)
          ∙ ap (λ (m : ℕ). get_or (before ++ (page_of place ++ behind)) m 0) k
          ∙ get_or-append-add before (page_of place ++ behind) o 0
          ∙ get_or_append_left (page_of place) behind 0 o (omega arith)
          ∙ ap (λ (zs : List ℕ). get_or zs o 0) zeros
          ∙ get_or-zero_page o
      | inr ge ↦
          let size : length (bytes_of places) ≡ 4096 * length places = length-places places are in
          get_or_past (bytes_of places) at 0 (omega arith)
    ]

-- a page that is lent
pub lent : (places : List Place) (number : ℕ) (bytes : List ℕ) → ArePages places → number < length places → get_or places number None ≡ Some bytes
    → bytes ≡ take 4096 (drop (4096 * number) (bytes_of places))
lent places number bytes are lt is =
    let size : length bytes ≡ 4096 = ap (λ (p : Place). length (page_of p)) (sym is) ∙ (are.each number).size in
    let d : (4096 * number) / 4096 ≡ number = omega arith in
    let m : (4096 * number) % 4096 ≡ 0 = omega arith in
    let r : take 4096 (drop ((4096 * number) % 4096) (page_of (get_or places ((4096 * number) / 4096) None))) ≡ take 4096 (drop (4096 * number) (bytes_of places)) =
    read_one places (4096 * number) 4096 are (omega arith) (omega arith) in
    sym (take_all 4096 bytes (omega arith))
    ∙ ap (λ (p : Place). take 4096 (page_of p)) (sym is)
    ∙ ap (λ (j : ℕ). take 4096 (page_of (get_or places j None))) (sym d)
    ∙ ap (λ (j : ℕ). take 4096 (drop j (page_of (get_or places ((4096 * number) / 4096) None)))) (sym m)
    ∙ r

-- absent pages behind others
pub bytes_of-absent : (n : ℕ) → bytes_of (replicate n None) ≡ replicate (4096 * n) 0
bytes_of-absent zero = refl
bytes_of-absent (suc n) =
    let count : 4096 + 4096 * n ≡ 4096 * suc n = omega arith in
    ap (λ (zs : List ℕ). zero_page ++ zs) (bytes_of-absent n)
    ∙ ap (λ (zs : List ℕ). zs ++ replicate (4096 * n) 0) zero_page_is
    ∙ replicate-append-replicate {A = ℕ} 4096 (4096 * n) 0
    ∙ ap (λ (k : ℕ). replicate {A = ℕ} k 0) count

pub pages-append : (xs ys : List Place) (k : ℕ) → ((k : ℕ) → IsPage (page_of (get_or xs k None))) → ((k : ℕ) → IsPage (page_of (get_or ys k None)))
    → IsPage (page_of (get_or (xs ++ ys) k None))
pages-append [] ys k hx hy = hy k
pages-append (x ∷ xs) ys zero hx hy = hx 0
pages-append (x ∷ xs) ys (suc k) hx hy = pages-append xs ys k (λ j. hx (suc j)) hy

pub absent_pages : (n k : ℕ) → IsPage (page_of (get_or (replicate {A = Place} n None) k None))
absent_pages zero k = zero_is_page
absent_pages (suc n) zero = zero_is_page
absent_pages (suc n) (suc k) = absent_pages n k

pub one_page : (place : Place) (k : ℕ) → IsPage (page_of place) → IsPage (page_of (get_or (place ∷ []) k None))
one_page place zero is = is
one_page place (suc k) is = zero_is_page
