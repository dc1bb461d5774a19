-- The index of starts against the list of requests.
use Rattle.std.proofs.Common.{◌≡◌, ℕ, ◌+◌, ◌<◌, ◌≤◌, Bool, true, false, cond, List, [], ◌∷◌, ◌++◌, length, map, filter, get_or, set, refl, sym, ap, ◌∙◌, inl, inr, arith, ltb}
use Rattle.std.specs.Prelude.{◌&&◌, ◌||◌, ◌==◌, not}
use Rattle.std.specs.List.{list_any, count_by, All}
use Rattle.std.proofs.lemmas.Bool.{true≢false, cases_Bool, ltb-false, lt-ltb, le-ltb}
use Rattle.std.proofs.lemmas.List.Sums.{sum_by-cons, sum_by_push, sum_by-set, count_by-le-length}
use Rattle.std.proofs.lemmas.List.Folds.{list_any_at}
use Rattle.vm_law.specs.declared.block.Request.{Request}
use Rattle.blk_queue.specs.declared.progress.Progress.{Progress}
use Rattle.blk_queue.specs.declared.progress.Unfinished.{Unfinished}
use Rattle.blk_queue.specs.declared.starts.Mark.{Mark}
use Rattle.blk_queue.specs.Progress.{is_flush, is_behind}
use Rattle.blk_queue.specs.Queue.{stands_behind}
use Rattle.blk_queue.specs.Starts.{has_start, mark_of, Indexes, ends_at}
use Rattle.blk_queue.specs.Sound.{AllFit}
use Rattle.blk_queue.proofs.Ids.{named}
use Rattle.blk_queue.proofs.Fitting.{put_progress}

-- ---- counts

abbrev one : Bool → ℕ
one b = cond b 1 0

count_agree : {X : Type 0} (p q : X → Bool) → ((x : X) → p x ≡ q x) → (xs : List X) → count_by p xs ≡ count_by q xs
count_agree p q e [] = refl
count_agree p q e (x ∷ xs) =
    sum_by-cons (λ y. cond (p y) 1 0) x xs ∙ ap (λ b. cond b 1 0 + count_by p xs) (e x) ∙ ap (λ n. cond (q x) 1 0 + n) (count_agree p q e xs) ∙ sym (sum_by-cons (λ y. cond (q y) 1 0) x xs)

count-map : {X : Type 0} (p : X → Bool) (f : X → X) → ((x : X) → p (f x) ≡ p x) → (xs : List X) → count_by p (map f xs) ≡ count_by p xs
count-map p f e [] = refl
count-map p f e (x ∷ xs) =
    sum_by-cons (λ y. cond (p y) 1 0) (f x) (map f xs) ∙ ap (λ b. cond b 1 0 + count_by p (map f xs)) (e x) ∙ ap (λ n. cond (p x) 1 0 + n) (count-map p f e xs) ∙ sym (sum_by-cons (λ y. cond (p y) 1 0) x xs)

count-filter_at : {X : Type 0} (p : X → Bool) (x : X) (xs : List X) (b : Bool) (n : ℕ) → count_by p xs ≡ n → count_by p (cond b (x ∷ xs) xs) ≡ cond (b && p x) 1 0 + n
count-filter_at p x xs true n e = sum_by-cons (λ y. cond (p y) 1 0) x xs ∙ ap (λ m. cond (p x) 1 0 + m) e
count-filter_at p x xs false n e = e ∙ omega arith

count-filter : {X : Type 0} (p r : X → Bool) (xs : List X) → count_by p (filter r xs) ≡ count_by (λ x. r x && p x) xs
count-filter p r [] = refl
count-filter p r (x ∷ xs) = count-filter_at p x (filter r xs) (r x) (count_by (λ y. r y && p y) xs) (count-filter p r xs) ∙ sym (sum_by-cons (λ y. cond (r y && p y) 1 0) x xs)

any_count_at : (b : Bool) (n : ℕ) → (b || ltb 0 n) ≡ ltb 0 (cond b 1 0 + n)
any_count_at true n = sym (lt-ltb 0 (1 + n) (omega arith))
any_count_at false n = ap (λ m. ltb 0 m) (omega arith)

any_count : {X : Type 0} (p : X → Bool) (xs : List X) → list_any p xs ≡ ltb 0 (count_by p xs)
any_count p [] = refl
any_count p (x ∷ xs) = ap (λ b. p x || b) (any_count p xs) ∙ any_count_at (p x) (count_by p xs) ∙ ap (λ n. ltb 0 n) (sym (sum_by-cons (λ y. cond (p y) 1 0) x xs))

pub any_agree : {X : Type 0} (p q : X → Bool) → ((x : X) → p x ≡ q x) → (xs : List X) → list_any p xs ≡ list_any q xs
any_agree p q e [] = refl
any_agree p q e (x ∷ xs) = ap (λ b. b || list_any p xs) (e x) ∙ ap (λ b. q x || b) (any_agree p q e xs)

pub any-filter : {X : Type 0} (p r : X → Bool) (xs : List X) → list_any p (filter r xs) ≡ list_any (λ x. r x && p x) xs
any-filter p r xs = any_count p (filter r xs) ∙ ap (λ n. ltb 0 n) (count-filter p r xs) ∙ sym (any_count (λ x. r x && p x) xs)

none_at : {X : Type 0} (p : X → Bool) (xs : List X) (i : ℕ) (d : X) → i < length xs → list_any p xs ≡ false → p (get_or xs i d) ≡ false
none_at p xs i d l none =
    elim (cases_Bool (p (get_or xs i d))) [
      | inl t ↦ absurd (true≢false (sym (list_any_at p xs i d l t) ∙ none))
      | inr f ↦ f
    ]

-- ---- the index is kept

-- a test finds one in the index where it finds one in the list
pub any_indexed : (xs : List Unfinished) (marks : List Mark) (p : Mark → Bool) → Indexes xs marks → list_any p marks ≡ list_any (λ x. has_start x && p (mark_of x)) xs
any_indexed xs marks p h = any_count p marks ∙ ap (λ n. ltb 0 n) (h p) ∙ sym (any_count (λ x. has_start x && p (mark_of x)) xs)

pub indexes_nil : Indexes [] []
indexes_nil p = refl

pub indexes_push : (xs : List Unfinished) (x : Unfinished) (marks more : List Mark) → has_start x ≡ true → Indexes xs marks → ((p : Mark → Bool) → count_by p more ≡ count_by p (mark_of x ∷ marks))
    → Indexes (xs ++ x ∷ []) more
indexes_push xs x marks more s h adds p =
    let q : Unfinished → Bool = λ y. has_start y && p (mark_of y) in
    let grows : count_by p (mark_of x ∷ marks) ≡ one (p (mark_of x)) + count_by p marks = sum_by-cons (λ (m : Mark). one (p m)) (mark_of x) marks in
    let longer : count_by q (xs ++ x ∷ []) ≡ count_by q xs + one (q x) = sum_by_push (λ (y : Unfinished). one (q y)) xs x in
    let same : one (q x) ≡ one (p (mark_of x)) = ap (λ b. one (b && p (mark_of x))) s in
    let both = h p in
    let last = adds p in
    omega (arith, grows, longer, same, both, last)

pub indexes_push_flush : (xs : List Unfinished) (x : Unfinished) (marks : List Mark) → has_start x ≡ false → Indexes xs marks → Indexes (xs ++ x ∷ []) marks
indexes_push_flush xs x marks s h p =
    let q : Unfinished → Bool = λ y. has_start y && p (mark_of y) in
    let longer : count_by q (xs ++ x ∷ []) ≡ count_by q xs + one (q x) = sum_by_push (λ (y : Unfinished). one (q y)) xs x in
    let same : one (q x) ≡ 0 = ap (λ b. one (b && p (mark_of x))) s in
    let both = h p in
    omega (arith, longer, same, both)

pub indexes_change : (xs : List Unfinished) (marks : List Mark) (i : ℕ) (x : Unfinished) (r : Progress) → i < length xs → x ≡ get_or xs i x → Indexes xs marks → Indexes (set xs i (put_progress x r)) marks
indexes_change xs marks i x r l read h p =
    let q : Unfinished → Bool = λ y. has_start y && p (mark_of y) in
    let moved = sum_by-set (λ (y : Unfinished). one (q y)) xs i (put_progress x r) x l in
    let same : one (q (get_or xs i x)) ≡ one (q x) = ap (λ (y : Unfinished). one (q y)) (sym read) in
    let both = h p in
    let here : count_by q (set xs i (put_progress x r)) ≡ count_by q xs = omega (arith, moved, same) in
    both ∙ sym here

pub indexes_map : (f : Unfinished → Unfinished) → ((x : Unfinished) → (f x).request ≡ x.request) → ((x : Unfinished) → (f x).id ≡ x.id) → (xs : List Unfinished) (marks : List Mark) → Indexes xs marks → Indexes (map f xs) marks
indexes_map f requests ids xs marks h p =
    h p ∙ sym (count-map (λ x. has_start x && p (mark_of x)) f (λ x.
    ap (λ (r : Request). not (is_flush r) && p (record { start = r.start; count = r.count; id = (f x).id })) (requests x)
    ∙ ap (λ n. has_start x && p (record { start = x.request.start; count = x.request.count; id = n })) (ids x)) xs)

swap_tests : (a b c : Bool) → (a && (b && c)) ≡ (b && (a && c))
swap_tests true b c = refl
swap_tests false true c = refl
swap_tests false false c = refl

pub indexes_filter : (id : ℕ) (xs : List Unfinished) (marks : List Mark) → Indexes xs marks → Indexes (filter (λ x. not (named id x)) xs) (filter (λ (m : Mark). not (m.id == id)) marks)
indexes_filter id xs marks h p =
    count-filter p (λ (m : Mark). not (m.id == id)) marks
    ∙ h (λ m. not (m.id == id) && p m)
    ∙ count_agree (λ x. has_start x && (not (named id x) && p (mark_of x))) (λ x. not (named id x) && (has_start x && p (mark_of x))) (λ x. swap_tests (has_start x) (not (named id x)) (p (mark_of x))) xs
    ∙ sym (count-filter (λ x. has_start x && p (mark_of x)) (λ x. not (named id x)) xs)

count_all : {X : Type 0} (xs : List X) → count_by (λ x. true) xs ≡ length xs
count_all [] = refl
count_all (x ∷ xs) = sum_by-cons (λ y. 1) x xs ∙ ap (λ n. 1 + n) (count_all xs) ∙ omega arith

-- there are no more marks than requests
pub marks_few : (xs : List Unfinished) (marks : List Mark) → Indexes xs marks → length marks ≤ length xs
marks_few xs marks h =
    let all = count_all marks in
    let both = h (λ m. true) in
    let less = count_by-le-length (λ x. has_start x && true) xs in
    omega (arith, all, both, less)

and_none : (a b : Bool) → b ≡ false → ((a && false) || b) ≡ false
and_none true b h = h
and_none false b h = h

-- no mark has more sectors than a request may have
counts_fit : (a xs : List Unfinished) → AllFit a xs → list_any (λ x. has_start x && ltb 8192 x.request.count) xs ≡ false
counts_fit a [] h = refl
counts_fit a (x ∷ xs) h =
    let few : ltb 8192 x.request.count ≡ false = le-ltb 8192 x.request.count h.0.0.sectors in
    ap (λ b. (has_start x && b) || list_any (λ y. has_start y && ltb 8192 y.request.count) xs) few
    ∙ and_none (has_start x) (list_any (λ y. has_start y && ltb 8192 y.request.count) xs) (counts_fit (a ++ x ∷ []) xs h.1)

pub marks_fit : (xs : List Unfinished) (marks : List Mark) → AllFit [] xs → Indexes xs marks → All (λ (m : Mark). m.count ≤ 8192) marks
marks_fit xs marks fit h = λ k d l.
    let none = any_indexed xs marks (λ m. ltb 8192 m.count) h ∙ counts_fit [] xs fit in
    ltb-false 8192 (get_or marks k d).count (none_at (λ (m : Mark). ltb 8192 m.count) marks k d l none)

-- ---- who stands behind whom

behind_at : (b h e : Bool) → (b && h && e) ≡ (b && (h && e))
behind_at true h e = refl
behind_at false h e = refl

any_and : {X : Type 0} (b : Bool) (p : X → Bool) (xs : List X) → list_any (λ x. b && p x) xs ≡ (b && list_any p xs)
any_and true p xs = refl
any_and false p [] = refl
any_and false p (x ∷ xs) = any_and false p xs

-- a request stands behind one of the list where a mark ends at its start
pub stands_is : (xs : List Unfinished) (marks : List Mark) (r : Request) → Indexes xs marks → stands_behind xs r ≡ (not (is_flush r) && list_any (ends_at r.start) marks)
stands_is xs marks r h =
    any_agree (λ (x : Unfinished). is_behind r x.request) (λ x. not (is_flush r) && (has_start x && ends_at r.start (mark_of x))) (λ x. behind_at (not (is_flush r)) (has_start x) (ends_at r.start (mark_of x))) xs
    ∙ any_and (not (is_flush r)) (λ x. has_start x && ends_at r.start (mark_of x)) xs
    ∙ ap (λ b. not (is_flush r) && b) (sym (any_indexed xs marks (ends_at r.start) h))
