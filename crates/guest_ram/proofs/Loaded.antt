-- Pages into which a payload is loaded, one after another.
use Rattle.std.proofs.Common.{◌≡◌, ℕ, ◌+◌, ◌-◌, ◌*◌, ◌≤◌, ◌<◌, Bool, true, false, List, [], ◌∷◌, ◌++◌, Some, None, length, take, drop, min, get_or, replicate, ap, sym, ◌∙◌, subst, length-append, length-drop, append_assoc, zero-add, zero, suc, arith, refl}
use Rattle.std.specs.Prelude.{is_some}
use Rattle.std.proofs.Math.Seq.{take-add}
use Rattle.std.proofs.lemmas.List.{length-take-le, length-map, length-replicate, map-append, append-nil, drop_at, take_all, replicate-append-replicate, get_or-replicate, get_or_append_left, get_or-append_right}
use Rattle.guest_ram.specs.GuestRam.{Stand}
use Rattle.guest_ram.specs.Pages.{zero_page, page_of, bytes_of, standing_of, IsPage, ArePages, written_in}
use Rattle.guest_ram.proofs.Pages.{Place, zero_page_is, zero_is_page, written_is_page, bytes_of-append, bytes_of-absent, pages-append, absent_pages, one_page}
use Rattle.guest_ram.proofs.Standing.{stand_first}

-- so many bytes of the payload are loaded
pub record Loaded (payload : List ℕ) (done : ℕ) (places : List Place) : Type 0 where
  pub within : done ≤ length payload
  pub most : done ≤ 4096 * length places
  pub least : 4096 * length places < done + 4096
  pub full : done < length payload → done ≡ 4096 * length places
  pub pages : ArePages places
  pub bytes : bytes_of places ≡ take done payload ++ replicate (4096 * length places - done) 0
  pub standing : standing_of places ≡ replicate (length places) true

pub loaded_none : (payload : List ℕ) (places : List Place) → places ≡ [] → Loaded payload 0 places
loaded_none payload places is = subst (λ (ps : List Place). Loaded payload 0 ps) (sym is) (record {
  within = omega arith;
  most = omega arith;
  least = omega arith;
  full = λ _. refl;
  pages = record { each = λ k. zero_is_page };
  bytes = refl;
  standing = refl;
})

-- what is behind the first zeros
drop-zeros : (o m : ℕ) → o ≤ m → drop o (replicate m 0) ≡ replicate {A = ℕ} (m - o) 0
drop-zeros o m le =
    let e : m ≡ o + (m - o) = omega arith in
    ap (λ (k : ℕ). drop o (replicate {A = ℕ} k 0)) e
    ∙ ap (λ (xs : List ℕ). drop o xs) (sym (replicate-append-replicate {A = ℕ} o (m - o) 0))
    ∙ drop_at {A = ℕ} (replicate o 0) (replicate (m - o) 0) o (length-replicate {A = ℕ} o 0)

loaded_bytes : (payload : List ℕ) (done size : ℕ) (places : List Place) (page chunk : List ℕ) → done ≡ 4096 * length places
    → bytes_of places ≡ take done payload ++ replicate (4096 * length places - done) 0 → length chunk ≡ size → chunk ≡ take size (drop done payload)
    → page ≡ written_in zero_page 0 chunk → size ≤ 4096
    → bytes_of (places ++ Some page ∷ []) ≡ take (done + size) payload ++ replicate (4096 * length (places ++ Some page ∷ []) - (done + size)) 0
loaded_bytes payload done size places page chunk full was len taken wrote le =
    let n = length places in
    let more : length (places ++ Some page ∷ []) ≡ n + 1 = length-append places (Some page ∷ []) in
    let none : 4096 * n - done ≡ 0 = omega arith in
    let rest : 4096 - size ≡ 4096 * length (places ++ Some page ∷ []) - (done + size) = omega arith in
    let old : bytes_of places ≡ take done payload = was ∙ ap (λ (k : ℕ). take done payload ++ replicate k 0) none ∙ append-nil (take done payload) in
    let tail : drop (0 + length chunk) zero_page ≡ replicate (4096 - size) 0 =
    ap (λ (k : ℕ). drop k zero_page) (zero-add (length chunk) ∙ len) ∙ ap (λ (xs : List ℕ). drop size xs) zero_page_is ∙ drop-zeros size 4096 le in
    let new : page ≡ take size (drop done payload) ++ replicate (4096 - size) 0 =
    wrote ∙ ap (λ (xs : List ℕ). chunk ++ xs) tail ∙ ap (λ (xs : List ℕ). xs ++ replicate (4096 - size) 0) taken in
    bytes_of-append places (Some page ∷ [])
    ∙ ap (λ (xs : List ℕ). bytes_of places ++ xs) (append-nil page)
    ∙ ap (λ (xs : List ℕ). xs ++ page) old
    ∙ ap (λ (xs : List ℕ). take done payload ++ xs) new
    ∙ sym (append_assoc (take done payload) (take size (drop done payload)) (replicate (4096 - size) 0))
    ∙ ap (λ (xs : List ℕ). xs ++ replicate (4096 - size) 0) (sym (take-add done size payload))
    ∙ ap (λ (k : ℕ). take (done + size) payload ++ replicate k 0) rest

-- a page more
pub loaded_more : (payload : List ℕ) (done size : ℕ) (places : List Place) (page chunk : List ℕ) → ((k : ℕ) → get_or chunk k 0 < 256)
    → Loaded payload done places → done < length payload → size ≡ min (length payload - done) 4096 → chunk ≡ take size (drop done payload)
    → page ≡ written_in zero_page 0 chunk → Loaded payload (done + size) (places ++ Some page ∷ [])
loaded_more payload done size places page chunk bytes was some is taken wrote =
    let n = length places in
    let full : done ≡ 4096 * n = was.full some in
    let more : length (places ++ Some page ∷ []) ≡ n + 1 = length-append places (Some page ∷ []) in
    let len : length chunk ≡ size = ap (λ (xs : List ℕ). length xs) taken ∙ length-take-le size (drop done payload) (omega (arith, length-drop done payload)) in
    let paged : IsPage page = subst (λ (p : List ℕ). IsPage p) (sym wrote) (written_is_page zero_page 0 chunk zero_is_page bytes (omega arith)) in
    record {
      within = omega arith;
      most = omega arith;
      least = omega arith;
      full = λ lt. omega arith;
      pages = record { each = λ k. pages-append places (Some page ∷ []) k was.pages.each (λ j. one_page (Some page) j paged) };
      bytes = loaded_bytes payload done size places page chunk full was.bytes len taken wrote (omega arith);
      standing = map-append is_some places (Some page ∷ [])
          ∙ ap (λ (xs : List Bool). xs ++ true ∷ []) was.standing
          ∙ replicate-append-replicate n 1 true
          ∙ ap (λ (m : ℕ). replicate m true) (sym more);
    }

-- when all of the payload is loaded and the rest of the pages is absent
pub record Whole (payload : List ℕ) (count : ℕ) (places : List Place) : Type 0 where
  pub count_is : length places ≡ count
  pub pages : ArePages places
  pub bytes : bytes_of places ≡ payload ++ replicate (4096 * count - length payload) 0
  pub standing : Stand (replicate count false) (standing_of places) 0 (length payload)

pub standing-absent : (m : ℕ) → standing_of (replicate m None) ≡ replicate m false
standing-absent zero = refl
standing-absent (suc m) = ap (λ (xs : List Bool). false ∷ xs) (standing-absent m)

pub get_or-false : (m k : ℕ) → get_or (replicate m false) k false ≡ false
get_or-false zero k = refl
get_or-false (suc m) zero = refl
get_or-false (suc m) (suc k) = get_or-false m k

pub loaded_whole : (payload : List ℕ) (done count : ℕ) (places filled : List Place) → Loaded payload done places → length payload ≤ done
    → length payload ≤ 4096 * count → filled ≡ places ++ replicate (count - length places) None → Whole payload count filled
loaded_whole payload done count places filled was all fits is =
    let n = length places in
    let m = count - n in
    let done_is : done ≡ length payload = (let w : done ≤ length payload = was.within in omega arith) in
    let least : 4096 * n < done + 4096 = was.least in
    let most : done ≤ 4096 * n = was.most in
    let size : length filled ≡ count = ap (λ (ps : List Place). length ps) is ∙ length-append places (replicate m None) ∙ (let r : length (replicate {A = Place} m None) ≡ m = length-replicate m None in omega arith) in
    let stands : standing_of filled ≡ replicate n true ++ replicate m false =
    ap (λ (ps : List Place). standing_of ps) is ∙ map-append is_some places (replicate m None)
    ∙ ap (λ (xs : List Bool). xs ++ standing_of (replicate m None)) was.standing
    ∙ ap (λ (xs : List Bool). replicate n true ++ xs) (standing-absent m) in
    let trues : length (replicate n true) ≡ n = length-replicate n true in
    let sum : (4096 * n - done) + 4096 * m ≡ 4096 * count - length payload = omega arith in
    record {
      count_is = size;
      pages = record {
        each = λ k. subst (λ (ps : List Place). IsPage (page_of (get_or ps k None))) (sym is)
            (pages-append places (replicate m None) k was.pages.each (absent_pages m));
      };
      bytes = ap (λ (ps : List Place). bytes_of ps) is ∙ bytes_of-append places (replicate m None)
          ∙ ap (λ (xs : List ℕ). xs ++ bytes_of (replicate m None)) was.bytes
          ∙ ap (λ (xs : List ℕ). (take done payload ++ replicate (4096 * n - done) 0) ++ xs) (bytes_of-absent m)
          ∙ ap (λ (xs : List ℕ). (xs ++ replicate (4096 * n - done) 0) ++ replicate (4096 * m) 0) (take_all done payload all)
          ∙ append_assoc payload (replicate (4096 * n - done) 0) (replicate (4096 * m) 0)
          ∙ ap (λ (xs : List ℕ). payload ++ xs) (replicate-append-replicate (4096 * n - done) (4096 * m) 0)
          ∙ ap (λ (k : ℕ). payload ++ replicate k 0) sum;
      standing = subst (λ (s : List Bool). Stand (replicate count false) s 0 (length payload)) (sym stands)
          (stand_first (replicate n true ++ replicate m false) count n (length payload)
          (sym (ap (λ (s : List Bool). length s) stands) ∙ length-map filled is_some ∙ size)
          (λ k lt. get_or_append_left (replicate n true) (replicate m false) false k (omega arith) ∙ get_or-replicate n k true false lt)
          (λ k ge. get_or-append_right (replicate n true) (replicate m false) n k false trues ge ∙ get_or-false m (k - n))
          (omega arith) (omega arith));
    }

-- an absent page more
pub fill_more : (xs ys : List Place) (n : ℕ) → length xs ≤ n → ys ≡ xs ++ replicate (n - length xs) None
    → ys ++ None ∷ [] ≡ xs ++ replicate (n + 1 - length xs) None
fill_more xs ys n le is =
    let k : n - length xs + 1 ≡ n + 1 - length xs = omega arith in
    ap (λ (zs : List Place). zs ++ None ∷ []) is
    ∙ append_assoc xs (replicate (n - length xs) None) (None ∷ [])
    ∙ ap (λ (zs : List Place). xs ++ zs) (replicate-append-replicate (n - length xs) 1 None)
    ∙ ap (λ (m : ℕ). xs ++ replicate m None) k
