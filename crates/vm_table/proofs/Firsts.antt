-- The first entry of a list that passes a test, piece by piece.
use Rattle.std.specs.Prelude.{map, filter, slice_get, Option}
use Rattle.std.specs.List.{find, flat_map, range_with_len}
use Rattle.std.specs.Option.{option_or}
use Rattle.std.proofs.Common.{◌≡◌, ℕ, zero, suc, add-one, ◌+◌, ◌-◌, ◌<◌, ◌≤◌, Bool, true, false, cond, List, [], ◌∷◌, ◌++◌, drop, Some, None, refl, sym, ap, ◌∙◌, arith}
use Rattle.std.proofs.Math.Seq.{drop-cons}
use Rattle.std.proofs.lemmas.List.Folds.{find-append}
use Rattle.std.proofs.lemmas.Option.{slice_get_within, get_or_from_slice_get}
use Rattle.vm_law.specs.declared.journal.Entry.{Entry}
use Rattle.blk_queue.specs.declared.progress.Unfinished.{Unfinished}

-- ---- what is found

passes_at : (P : Entry → Bool) (y x : Entry) (rest : Option Entry) (b : Bool) → P y ≡ b → cond b (Some y) rest ≡ Some x → (rest ≡ Some x → P x ≡ true) → P x ≡ true
passes_at P y x rest true is e f = let same : y ≡ x = cc in ap P (sym same) ∙ is
passes_at P y x rest false is e f = f e

pub find_passes : (P : Entry → Bool) (xs : List Entry) (x : Entry) → find P xs ≡ Some x → P x ≡ true
find_passes P [] x e = absurd (cc)
find_passes P (y ∷ ys) x e = passes_at P y x (find P ys) (P y) refl e (find_passes P ys x)

-- ---- lists behind one another

or_found : (e : Entry) (a b : Option Entry) → a ≡ Some e → option_or a b ≡ Some e
or_found e a b h = ap (λ (o : Option Entry). option_or o b) h

or_none : (a b : Option Entry) → a ≡ None → option_or a b ≡ b
or_none a b h = ap (λ (o : Option Entry). option_or o b) h

pub find_parts : (P : Entry → Bool) (xs ys : List Entry) → find P (xs ++ ys) ≡ option_or (find P xs) (find P ys)
find_parts P xs ys = find-append P xs ys

pub found_before : (P : Entry → Bool) (xs ys : List Entry) (e : Entry) → find P xs ≡ Some e → find P (xs ++ ys) ≡ Some e
found_before P xs ys e h = find-append P xs ys ∙ or_found e (find P xs) (find P ys) h

pub none_before : (P : Entry → Bool) (xs ys : List Entry) → find P xs ≡ None → find P (xs ++ ys) ≡ find P ys
none_before P xs ys h = find-append P xs ys ∙ or_none (find P xs) (find P ys) h

-- ---- a list over numbers in a row

left_suc : (k n : ℕ) → k < n → n - k ≡ suc (n - (k + 1))
left_suc k n l = omega arith

row_step : (P : Entry → Bool) (f : ℕ → Entry) (k n : ℕ) → k < n
    → find P (map f (range_with_len k (n - k))) ≡ cond (P (f k)) (Some (f k)) (find P (map f (range_with_len (k + 1) (n - (k + 1)))))
row_step P f k n l = ap (λ (m : ℕ). find P (map f (range_with_len k m))) (left_suc k n l)

pub row_found : (P : Entry → Bool) (f : ℕ → Entry) (k n : ℕ) → k < n → P (f k) ≡ true → find P (map f (range_with_len 0 n)) ≡ find P (map f (range_with_len k (n - k)))
    → Some (f k) ≡ find P (map f (range_with_len 0 n))
row_found P f k n l t h = sym (h ∙ row_step P f k n l ∙ ap (λ (b : Bool). cond b (Some (f k)) (find P (map f (range_with_len (k + 1) (n - (k + 1)))))) t)

pub row_passed : (P : Entry → Bool) (f : ℕ → Entry) (k n : ℕ) → k < n → P (f k) ≡ false → find P (map f (range_with_len 0 n)) ≡ find P (map f (range_with_len k (n - k)))
    → find P (map f (range_with_len 0 n)) ≡ find P (map f (range_with_len (k + 1) (n - (k + 1))))
row_passed P f k n l t h = h ∙ row_step P f k n l ∙ ap (λ (b : Bool). cond b (Some (f k)) (find P (map f (range_with_len (k + 1) (n - (k + 1)))))) t

pub row_none : (P : Entry → Bool) (f : ℕ → Entry) (k n : ℕ) → n ≤ k → find P (map f (range_with_len 0 n)) ≡ find P (map f (range_with_len k (n - k)))
    → None ≡ find P (map f (range_with_len 0 n))
row_none P f k n l h = let e : n - k ≡ 0 = omega arith in sym (h ∙ ap (λ (m : ℕ). find P (map f (range_with_len k m))) e)

-- none of those numbers passes
pub none_in : (P : Entry → Bool) (f : ℕ → Entry) (len k : ℕ) → ((i : ℕ) → k ≤ i → i < k + len → P (f i) ≡ false) → find P (map f (range_with_len k len)) ≡ None
none_in P f zero k h = refl
none_in P f (suc len) k h =
    ap (λ (b : Bool). cond b (Some (f k)) (find P (map f (range_with_len (k + 1) len)))) (h k (omega arith) (omega arith))
    ∙ none_in P f len (k + 1) (λ i low high. h i (omega arith) (omega arith))

-- ---- lists laid end to end, one for each number in a row

pieces_step : (P : Entry → Bool) (g : ℕ → List Entry) (k n : ℕ) → k < n
    → find P (flat_map g (range_with_len k (n - k))) ≡ option_or (find P (g k)) (find P (flat_map g (range_with_len (k + 1) (n - (k + 1)))))
pieces_step P g k n l = ap (λ (m : ℕ). find P (flat_map g (range_with_len k m))) (left_suc k n l) ∙ find-append P (g k) (flat_map g (range_with_len (k + 1) (n - (k + 1))))

pub pieces_found : (P : Entry → Bool) (g : ℕ → List Entry) (k n : ℕ) (e : Entry) → k < n → find P (g k) ≡ Some e → find P (flat_map g (range_with_len 0 n)) ≡ find P (flat_map g (range_with_len k (n - k)))
    → Some e ≡ find P (flat_map g (range_with_len 0 n))
pieces_found P g k n e l t h = sym (h ∙ pieces_step P g k n l ∙ or_found e (find P (g k)) (find P (flat_map g (range_with_len (k + 1) (n - (k + 1))))) t)

pub pieces_passed : (P : Entry → Bool) (g : ℕ → List Entry) (k n : ℕ) → k < n → find P (g k) ≡ None → find P (flat_map g (range_with_len 0 n)) ≡ find P (flat_map g (range_with_len k (n - k)))
    → find P (flat_map g (range_with_len 0 n)) ≡ find P (flat_map g (range_with_len (k + 1) (n - (k + 1))))
pieces_passed P g k n l t h = h ∙ pieces_step P g k n l ∙ or_none (find P (g k)) (find P (flat_map g (range_with_len (k + 1) (n - (k + 1))))) t

pub pieces_none : (P : Entry → Bool) (g : ℕ → List Entry) (k n : ℕ) → n ≤ k → find P (flat_map g (range_with_len 0 n)) ≡ find P (flat_map g (range_with_len k (n - k)))
    → None ≡ find P (flat_map g (range_with_len 0 n))
pieces_none P g k n l h = let e : n - k ≡ 0 = omega arith in sym (h ∙ ap (λ (m : ℕ). find P (flat_map g (range_with_len k m))) e)

-- ---- an entry for each request that passes a test

abbrev pub on_each : (ℕ → Entry) → (Unfinished → Bool) → List Unfinished → List Entry
on_each f q xs = map f (map (λ (x : Unfinished). x.id) (filter q xs))

drop_at : (xs : List Unfinished) (k : ℕ) (x : Unfinished) → slice_get xs k ≡ Some x → drop k xs ≡ x ∷ drop (k + 1) xs
drop_at xs k x h =
    rw (add-one k) (drop-cons xs k x (slice_get_within xs k x h) ∙ ap (λ (y : Unfinished). y ∷ drop (suc k) xs) (get_or_from_slice_get xs k x x h))

work_at : (P : Entry → Bool) (f : ℕ → Entry) (q : Unfinished → Bool) (xs : List Unfinished) (k : ℕ) (x : Unfinished) → slice_get xs k ≡ Some x
    → find P (on_each f q (drop k xs)) ≡ find P (on_each f q (x ∷ drop (k + 1) xs))
work_at P f q xs k x h = ap (λ (ys : List Unfinished). find P (on_each f q ys)) (drop_at xs k x h)

had : (f : ℕ → Entry) (q : Unfinished → Bool) (x : Unfinished) (ys : List Unfinished) → q x ≡ true → on_each f q (x ∷ ys) ≡ f x.id ∷ on_each f q ys
had f q x ys t = ap (λ (b : Bool). map f (map (λ (y : Unfinished). y.id) (cond b (x ∷ filter q ys) (filter q ys)))) t

not_had : (f : ℕ → Entry) (q : Unfinished → Bool) (x : Unfinished) (ys : List Unfinished) → q x ≡ false → on_each f q (x ∷ ys) ≡ on_each f q ys
not_had f q x ys t = ap (λ (b : Bool). map f (map (λ (y : Unfinished). y.id) (cond b (x ∷ filter q ys) (filter q ys)))) t

pub work_found : (P : Entry → Bool) (f : ℕ → Entry) (q : Unfinished → Bool) (xs : List Unfinished) (k : ℕ) (x : Unfinished) → slice_get xs k ≡ Some x → q x ≡ true → P (f x.id) ≡ true
    → find P (on_each f q xs) ≡ find P (on_each f q (drop k xs)) → Some (f x.id) ≡ find P (on_each f q xs)
work_found P f q xs k x g t p h =
    let rest = drop (k + 1) xs in
    sym (h ∙ work_at P f q xs k x g ∙ ap (find P) (had f q x rest t) ∙ ap (λ (b : Bool). cond b (Some (f x.id)) (find P (on_each f q rest))) p)

pub work_refused : (P : Entry → Bool) (f : ℕ → Entry) (q : Unfinished → Bool) (xs : List Unfinished) (k : ℕ) (x : Unfinished) → slice_get xs k ≡ Some x → q x ≡ true → P (f x.id) ≡ false
    → find P (on_each f q xs) ≡ find P (on_each f q (drop k xs)) → find P (on_each f q xs) ≡ find P (on_each f q (drop (k + 1) xs))
work_refused P f q xs k x g t p h =
    let rest = drop (k + 1) xs in
    h ∙ work_at P f q xs k x g ∙ ap (find P) (had f q x rest t) ∙ ap (λ (b : Bool). cond b (Some (f x.id)) (find P (on_each f q rest))) p

pub work_passed : (P : Entry → Bool) (f : ℕ → Entry) (q : Unfinished → Bool) (xs : List Unfinished) (k : ℕ) (x : Unfinished) → slice_get xs k ≡ Some x → q x ≡ false
    → find P (on_each f q xs) ≡ find P (on_each f q (drop k xs)) → find P (on_each f q xs) ≡ find P (on_each f q (drop (k + 1) xs))
work_passed P f q xs k x g t h = h ∙ work_at P f q xs k x g ∙ ap (find P) (not_had f q x (drop (k + 1) xs) t)
