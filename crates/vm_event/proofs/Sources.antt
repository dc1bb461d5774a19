-- Places with a source, and the ids that are ready.
use Rattle.std.specs.Prelude.{is_some, is_none, filter, position}
use Rattle.std.proofs.Common.{◌≡◌, ℕ, zero, suc, ◌+◌, ◌<◌, ◌≤◌, Bool, true, false, not, ◌&&◌, cond, List, [], ◌∷◌, ◌++◌, length, get_or, set, ltb, drop, Option, Some, None, refl, sym, ap, arith, inl, inr, ◌∙◌}
use Rattle.std.proofs.lemmas.Bool.{cases_lt}
use Rattle.std.proofs.lemmas.Bool.Decides.{nat_tests}
use Rattle.std.proofs.lemmas.List.{get_or_past, set-append_right}
use Rattle.std.proofs.lemmas.List.Elements.{filter-append}
use Rattle.std.proofs.lemmas.List.Sums.{position_or_len_is}
use Rattle.std.specs.List.{range_with_len, position_or_len, list_all}
use Rattle.std.proofs.Common.{length-append, append_assoc, drop-cons, ◌-◌}
use Rattle.vm_event.specs.declared.events.Source.{Source}
use Rattle.vm_event.specs.Events.{Sources, source_at, is_there, is_enabled, is_raised, is_full, ready_below}

none_there : (o : Option Source) → o ≡ None → is_some o ≡ true → ⊥
none_there o e t = cc

-- a source that is there stands at one of the places
pub there_is_inside : (events : Sources) (id : ℕ) → is_there events id ≡ true → id < length events
there_is_inside events id there = elim (cases_lt id (length events)) [
  | inl l ↦ l
  | inr g ↦ absurd (none_there (source_at events id) (get_or_past events id None g) there)
]

first_counts : (n : ℕ) → ltb 0 (suc n) ≡ true
first_counts n = grind (arith, nat_tests)

next_counts : (m n : ℕ) → ltb (1 + m) (suc n) ≡ ltb m n
next_counts m n = grind (arith, nat_tests)

some_free : (events : Sources) → ltb (position_or_len is_none events) (length events) ≡ not (list_all is_some events)
some_free [] = refl
some_free (None ∷ events) = first_counts (length events)
some_free (Some source ∷ events) = next_counts (position_or_len is_none events) (length events) ∙ some_free events

position_choice : (m n : ℕ) → m < n → cond (ltb m n) (Some m) None ≡ Some m
position_choice m n lt = grind (arith, nat_tests)

-- the first free place
pub first_free : (events : Sources) (id : ℕ) → id < length events → ((k : ℕ) → k < id → is_none (get_or events k None) ≡ false) → is_none (get_or events id None) ≡ true → position is_none events ≡ Some id
first_free events id lt before here =
    let at : position_or_len is_none events ≡ id = position_or_len_is is_none events id None (omega arith) before (λ _. here) in
    ap (λ (m : ℕ). cond (ltb m (length events)) (Some m) None) at ∙ position_choice id (length events) lt

no_choice : (n : ℕ) → cond (ltb n n) (Some n) None ≡ None
no_choice n = grind (arith, nat_tests)

-- no place is free
pub none_free : (events : Sources) → ((k : ℕ) → k < length events → is_none (get_or events k None) ≡ false) → position is_none events ≡ None
none_free events before =
    let at : position_or_len is_none events ≡ length events = position_or_len_is is_none events (length events) None (omega arith) before (λ l. absurd (omega arith)) in
    ap (λ (m : ℕ). cond (ltb m (length events)) (Some m) None) at ∙ no_choice (length events)

is_some_choice : (b : Bool) (n : ℕ) → is_some (cond (not b) (Some n) None) ≡ not b
is_some_choice true n = refl
is_some_choice false n = refl

-- every place has a source exactly where no place is free
pub full_has_none_free : (events : Sources) → is_some (position is_none events) ≡ not (is_full events)
full_has_none_free events = ap (λ (b : Bool). is_some (cond b (Some (position_or_len is_none events)) None)) (some_free events) ∙ is_some_choice (list_all is_some events) (position_or_len is_none events)

not_true : (b : Bool) → true ≡ not b → false ≡ b
not_true true e = absurd cc
not_true false e = refl

not_false : (b : Bool) → false ≡ not b → true ≡ b
not_false true e = refl
not_false false e = absurd cc

pub free_isnt_full : (events : Sources) (id : ℕ) → Some id ≡ position is_none events → false ≡ is_full events
free_isnt_full events id e = not_true (is_full events) (ap (λ (o : Option ℕ). is_some o) e ∙ full_has_none_free events)

pub none_free_is_full : (events : Sources) → None ≡ position is_none events → true ≡ is_full events
none_free_is_full events e = not_false (is_full events) (ap (λ (o : Option ℕ). is_some o) e ∙ full_has_none_free events)

pub ruleset fullness = (free_isnt_full, none_free_is_full)

range_push : (a n : ℕ) → range_with_len a (suc n) ≡ range_with_len a n ++ (a + n) ∷ []
range_push a zero = let e : a ≡ a + 0 = omega arith in ap (λ (x : ℕ). x ∷ []) e
range_push a (suc n) =
    let e : a + 1 + n ≡ a + suc n = omega arith in
    ap (λ (xs : List ℕ). a ∷ xs) (range_push (a + 1) n ∙ ap (λ (x : ℕ). range_with_len (a + 1) n ++ x ∷ []) e)

pub ready_none : (events : Sources) (raised : List ℕ) → ready_below events raised 0 ≡ []
unfolding ready_below
ready_none events raised = refl

-- one more id
pub ready_more : (events : Sources) (raised : List ℕ) (n : ℕ) → ready_below events raised (n + 1) ≡ ready_below events raised n ++ cond (is_enabled events n && is_raised raised n) (n ∷ []) []
unfolding ready_below
ready_more events raised n =
    let p = λ (id : ℕ). is_enabled events id && is_raised raised id in
    let one : n + 1 ≡ suc n = omega arith in
    let same : 0 + n ≡ n = omega arith in
    ap (λ (k : ℕ). filter p (range_with_len 0 k)) one
    ∙ ap (filter p) (range_push 0 n)
    ∙ filter-append p (range_with_len 0 n) ((0 + n) ∷ [])
    ∙ ap (λ (k : ℕ). filter p (range_with_len 0 n) ++ cond (p k) (k ∷ []) []) same

length_choice : (b : Bool) (n : ℕ) → length (cond b (n ∷ []) []) ≤ 1
length_choice true n = omega arith
length_choice false n = omega arith

-- no more ids are ready than there are
pub ready_is_short : (events : Sources) (raised : List ℕ) (n : ℕ) → length (ready_below events raised n) ≤ n
ready_is_short events raised zero = let e = ready_none events raised in omega (arith, ap length e)
ready_is_short events raised (suc n) =
    let before = ready_is_short events raised n in
    let step = ready_more events raised n in
    let one : suc n ≡ n + 1 = omega arith in
    let more = length-append (ready_below events raised n) (cond (is_enabled events n && is_raised raised n) (n ∷ []) []) in
    let few = length_choice (is_enabled events n && is_raised raised n) n in
    rw one (omega (arith, ap length step))

-- one more element at the front of what is kept
pub put_next : (front old : List ℕ) (k x : ℕ) → length front ≡ k → k < length old → set (front ++ drop k old) k x ≡ (front ++ x ∷ []) ++ drop (k + 1) old
put_next front old k x len lt =
    let none : k - k ≡ 0 = omega arith in
    let rest : drop k old ≡ get_or old k 0 ∷ drop (suc k) old = drop-cons old k 0 lt in
    let one : suc k ≡ k + 1 = omega arith in
    set-append_right front (drop k old) k k x len (omega arith)
    ∙ ap (λ (j : ℕ). front ++ set (drop k old) j x) none
    ∙ ap (λ (xs : List ℕ). front ++ set xs 0 x) rest
    ∙ ap (λ (j : ℕ). front ++ (x ∷ drop j old)) one
    ∙ sym (append_assoc front (x ∷ []) (drop (k + 1) old))

pub ruleset ready_steps = (ready_none, ready_more, ready_is_short, put_next)

append_none : (xs : List ℕ) → xs ++ [] ≡ xs
append_none [] = refl
append_none (x ∷ xs) = ap (λ (ys : List ℕ). x ∷ ys) (append_none xs)

pub one_ready : (events : Sources) (raised : List ℕ) (n : ℕ) → (is_enabled events n && is_raised raised n) ≡ true → ready_below events raised (n + 1) ≡ ready_below events raised n ++ n ∷ []
one_ready events raised n e = ready_more events raised n ∙ ap (λ (b : Bool). ready_below events raised n ++ cond b (n ∷ []) []) e

pub not_ready : (events : Sources) (raised : List ℕ) (n : ℕ) → (is_enabled events n && is_raised raised n) ≡ false → ready_below events raised (n + 1) ≡ ready_below events raised n
not_ready events raised n e = ready_more events raised n ∙ ap (λ (b : Bool). ready_below events raised n ++ cond b (n ∷ []) []) e ∙ append_none (ready_below events raised n)

-- the count and the front, after one more
pub next_count : (front front' : List ℕ) (id count count' : ℕ) → front' ≡ front ++ id ∷ [] → count ≡ length front → count' ≡ count + 1 → count' ≡ length front'
next_count front front' id count count' more len next = let both = length-append front (id ∷ []) in let e = ap length more in omega arith

pub next_front : (front front' out out' old : List ℕ) (id count count' : ℕ) → front' ≡ front ++ id ∷ [] → count ≡ length front → count' ≡ count + 1 → out ≡ front ++ drop count old → count < length old → out' ≡ set out count id → out' ≡ front' ++ drop count' old
next_front front front' out out' old id count count' more len next here lt wrote =
    wrote
    ∙ ap (λ (xs : List ℕ). set xs count id) here
    ∙ put_next front old count id (sym len) lt
    ∙ ap (λ (xs : List ℕ). xs ++ drop (count + 1) old) (sym more)
    ∙ ap (λ (k : ℕ). front' ++ drop k old) (sym next)
