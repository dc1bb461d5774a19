-- Reading and writing in the middle of three lists one behind the other, and two writes one behind the other.
use Rattle.std.proofs.Common.{◌≡◌, ℕ, ◌+◌, ◌-◌, ◌≤◌, ◌<◌, List, ◌++◌, take, drop, length, length-append, length-drop, ap, sym, ◌∙◌, append_assoc, get_or, [], ◌∷◌, zero, suc, refl, arith}
use borrow.Rule.Slice.PartMut.{put_mid}
use Rattle.std.proofs.Math.Seq.{drop-append-add, take-append-add, take-add}
use Rattle.std.proofs.lemmas.List.{drop-append-le, take-append-le, drop-drop, length-take-le, drop_at, take_at}

-- what is read inside the middle list
pub read_inside : (xs p ys : List ℕ) (a o n : ℕ) → length xs ≡ a → o + n ≤ length p
    → take n (drop (a + o) (xs ++ (p ++ ys))) ≡ take n (drop o p)
read_inside xs p ys a o n is le =
    let e1 : drop (a + o) (xs ++ (p ++ ys)) ≡ drop o (p ++ ys) =
    ap (λ (m : ℕ). drop (m + o) (xs ++ (p ++ ys))) (sym is) ∙ drop-append-add xs (p ++ ys) o in
    let e2 : drop o (p ++ ys) ≡ drop o p ++ ys = drop-append-le o p ys (omega arith) in
    let e3 : take n (drop o p ++ ys) ≡ take n (drop o p) = take-append-le n (drop o p) ys (omega (arith, length-drop o p)) in
    ap (λ (zs : List ℕ). take n zs) (e1 ∙ e2) ∙ e3

-- what is written inside the middle list
pub write_inside : (xs p ys x : List ℕ) (a o : ℕ) → length xs ≡ a → o + length x ≤ length p
    → (take (a + o) (xs ++ (p ++ ys)) ++ x) ++ drop (a + o + length x) (xs ++ (p ++ ys))
    ≡ xs ++ (((take o p ++ x) ++ drop (o + length x) p) ++ ys)
write_inside xs p ys x a o is le =
    let n = length x in
    let W = xs ++ (p ++ ys) in
    let t1 : take (a + o) W ≡ xs ++ take o (p ++ ys) = ap (λ (m : ℕ). take (m + o) W) (sym is) ∙ take-append-add xs (p ++ ys) o in
    let t2 : take o (p ++ ys) ≡ take o p = take-append-le o p ys (omega arith) in
    let k : a + o + n ≡ length xs + (o + n) = omega arith in
    let d1 : drop (a + o + n) W ≡ drop (o + n) (p ++ ys) = ap (λ (m : ℕ). drop m W) k ∙ drop-append-add xs (p ++ ys) (o + n) in
    let d2 : drop (o + n) (p ++ ys) ≡ drop (o + n) p ++ ys = drop-append-le (o + n) p ys le in
    let t : take (a + o) W ≡ xs ++ take o p = t1 ∙ ap (λ (zs : List ℕ). xs ++ zs) t2 in
    let d : drop (a + o + n) W ≡ drop (o + n) p ++ ys = d1 ∙ d2 in
    ap (λ (zs : List ℕ). (zs ++ x) ++ drop (a + o + n) W) t
    ∙ ap (λ (zs : List ℕ). ((xs ++ take o p) ++ x) ++ zs) d
    ∙ simp append_assoc

-- the list after x was written from place a on
abbrev pub put : List ℕ → ℕ → List ℕ → List ℕ
put bytes a x = (take a bytes ++ x) ++ drop (a + length x) bytes

pub length-put : (bytes x : List ℕ) (a : ℕ) → a + length x ≤ length bytes → length (put bytes a x) ≡ length bytes
length-put bytes x a le =
    omega (
      arith,
      length-append (take a bytes ++ x) (drop (a + length x) bytes),
      length-append (take a bytes) x,
      length-take-le a bytes (omega arith),
      length-drop (a + length x) bytes,
    )

-- a second write begins where the first ended
pub put_twice : (bytes x y : List ℕ) (a b : ℕ) → b ≡ a + length x → b + length y ≤ length bytes
    → put (put bytes a x) b y ≡ put bytes a (x ++ y)
put_twice bytes x y a b is le =
    let l : length (take a bytes ++ x) ≡ b = omega (arith, length-append (take a bytes) x, length-take-le a bytes (omega arith)) in
    let t : take b (put bytes a x) ≡ take a bytes ++ x = take_at (take a bytes ++ x) (drop (a + length x) bytes) b l in
    let d1 : drop b (put bytes a x) ≡ drop (a + length x) bytes = drop_at (take a bytes ++ x) (drop (a + length x) bytes) b l in
    let d : drop (b + length y) (put bytes a x) ≡ drop (a + length x + length y) bytes =
    sym (drop-drop (length y) b (put bytes a x)) ∙ ap (λ (zs : List ℕ). drop (length y) zs) d1 ∙ drop-drop (length y) (a + length x) bytes in
    let e : a + length x + length y ≡ a + length (x ++ y) = omega (arith, length-append x y) in
    ap (λ (zs : List ℕ). (zs ++ y) ++ drop (b + length y) (put bytes a x)) t
    ∙ ap (λ (zs : List ℕ). ((take a bytes ++ x) ++ y) ++ zs) d
    ∙ ap (λ (zs : List ℕ). zs ++ drop (a + length x + length y) bytes) (append_assoc (take a bytes) x y)
    ∙ ap (λ (m : ℕ). (take a bytes ++ (x ++ y)) ++ drop m bytes) e

-- one piece more was read into a buffer
pub read_more : (from buffer x : List ℕ) (at done size : ℕ) → x ≡ take size (drop (at + done) from) → length x ≡ size
    → done + size ≤ length buffer → at + done + size ≤ length from
    → put (take done (drop at from) ++ drop done buffer) done x ≡ take (done + size) (drop at from) ++ drop (done + size) buffer
read_more from buffer x at done size is len fits inside =
    let l : length (take done (drop at from)) ≡ done = length-take-le done (drop at from) (omega (arith, length-drop at from)) in
    let B = take done (drop at from) ++ drop done buffer in
    let t : take done B ≡ take done (drop at from) = take_at (take done (drop at from)) (drop done buffer) done l in
    let d1 : drop done B ≡ drop done buffer = drop_at (take done (drop at from)) (drop done buffer) done l in
    let d : drop (done + length x) B ≡ drop (done + size) buffer =
    ap (λ (m : ℕ). drop (done + m) B) len ∙ sym (drop-drop size done B) ∙ ap (λ (zs : List ℕ). drop size zs) d1 ∙ drop-drop size done buffer in
    let m : take (done + size) (drop at from) ≡ take done (drop at from) ++ x =
    take-add done size (drop at from) ∙ ap (λ (zs : List ℕ). take done (drop at from) ++ take size zs) (drop-drop done at from)
    ∙ ap (λ (zs : List ℕ). take done (drop at from) ++ zs) (sym is) in
    ap (λ (zs : List ℕ). (zs ++ x) ++ drop (done + length x) B) t
    ∙ ap (λ (zs : List ℕ). (take done (drop at from) ++ x) ++ zs) d
    ∙ ap (λ (zs : List ℕ). zs ++ drop (done + size) buffer) (sym m)

-- a part of a slice that was written
pub mid_is_put : (bytes x : List ℕ) (a k : ℕ) → length x ≡ k → put_mid a k bytes x ≡ put bytes a x
mid_is_put bytes x a k is =
    sym (append_assoc (take a bytes) x (drop k (drop a bytes)))
    ∙ ap (λ (zs : List ℕ). (take a bytes ++ x) ++ zs) (drop-drop k a bytes)
    ∙ ap (λ (m : ℕ). (take a bytes ++ x) ++ drop (a + m) bytes) (sym is)

pub read_step : (from buffer now x : List ℕ) (at done size : ℕ) → now ≡ take done (drop at from) ++ drop done buffer → x ≡ take size (drop (at + done) from)
    → done + size ≤ length buffer → at + done + size ≤ length from
    → put_mid done (done + size - done) now x ≡ take (done + size) (drop at from) ++ drop (done + size) buffer
read_step from buffer now x at done size was is fits inside =
    let len : length x ≡ size = ap (λ (zs : List ℕ). length zs) is ∙ length-take-le size (drop (at + done) from) (omega (arith, length-drop (at + done) from)) in
    let k : length x ≡ done + size - done = omega arith in
    mid_is_put now x done (done + size - done) k
    ∙ ap (λ (zs : List ℕ). put zs done x) was
    ∙ read_more from buffer x at done size is len fits inside

-- an element that is there, whatever stands for one that is not
pub get_or_any : {X : Type 0} (xs : List X) (i : ℕ) (d e : X) → i < length xs → get_or xs i d ≡ get_or xs i e
get_or_any [] i d e lt = absurd (omega arith)
get_or_any (x ∷ xs) zero d e lt = refl
get_or_any (x ∷ xs) (suc i) d e lt = get_or_any xs i d e (omega arith)

pub length-mid : (bytes x : List ℕ) (a k : ℕ) → length x ≡ k → a + k ≤ length bytes → length (put_mid a k bytes x) ≡ length bytes
length-mid bytes x a k is le = ap (λ (zs : List ℕ). length zs) (mid_is_put bytes x a k is) ∙ length-put bytes x a (omega arith)
