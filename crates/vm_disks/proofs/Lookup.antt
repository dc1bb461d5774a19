-- Look-ups in a drive's list of unfinished requests.
use Rattle.std.proofs.Common.{◌≡◌, ℕ, ◌+◌, ◌<◌, Bool, true, false, not, cond, List, [], ◌∷◌, length, drop, get_or, Some, None, IsSome, refl, sym, ap, ◌∙◌, arith, rules, inl, inr}
use Rattle.std.specs.Prelude.{Option, option_map, is_some, slice_get, ◌&&◌, ◌||◌, ◌==◌}
use Rattle.std.specs.List.{find, list_any}
use Rattle.std.proofs.lemmas.Option.{slice_get_within, slice_get_cases, get_or_from_slice_get}
use Rattle.std.proofs.lemmas.Bool.{true≢false, and_parts}
use Rattle.blk_queue.specs.declared.progress.Progress.{Progress}
use Rattle.blk_queue.specs.declared.progress.Unfinished.{Unfinished}
use Rattle.blk_queue.specs.Queue.{Queue, request_of, some_request, has_request}
use Rattle.blk_queue.specs.Sound.{IsSound, passes}
use Rattle.blk_queue.proofs.Finding.{find_here, find_on}
use Rattle.blk_queue.proofs.Names.{names_one}
use Rattle.vm_disks.specs.Queueing.{has_id}
use Rattle.vm_disks.specs.Requests.{IsFirst, id_of, is_id, is_so}

-- ---- a look-up that goes through the list from its front

pub found_here : (test : Unfinished → Bool) (xs : List Unfinished) (k : ℕ) (x : Unfinished) → find test xs ≡ find test (drop k xs) → slice_get xs k ≡ Some x → test x ≡ true
    → find test xs ≡ slice_get xs k
found_here test xs k x h e t =
    let same : get_or xs k x ≡ x = get_or_from_slice_get xs k x x e in
    find_here test xs k x h (slice_get_within xs k x e) (ap test same ∙ t) ∙ ap (λ (y : Unfinished). Some y) same ∙ sym e

pub not_here : (test : Unfinished → Bool) (xs : List Unfinished) (k : ℕ) (x : Unfinished) → find test xs ≡ find test (drop k xs) → slice_get xs k ≡ Some x → test x ≡ false
    → find test xs ≡ find test (drop (k + 1) xs)
not_here test xs k x h e t =
    let same : get_or xs k x ≡ x = get_or_from_slice_get xs k x x e in
    find_on test xs k x h (slice_get_within xs k x e) (ap test same ∙ t)

-- ---- whether there is one

found_at : (test : Unfinished → Bool) (x : Unfinished) (xs : List Unfinished) → (find test xs ≡ None → list_any test xs ≡ false) → (b : Bool) → cond b (Some x) (find test xs) ≡ None → (b || list_any test xs) ≡ false
found_at test x xs rest true h = absurd (cc)
found_at test x xs rest false h = rest h

pub none_found : (test : Unfinished → Bool) (xs : List Unfinished) → find test xs ≡ None → list_any test xs ≡ false
none_found test [] h = refl
none_found test (x ∷ xs) h = found_at test x xs (none_found test xs) (test x) h

some_at : (test : Unfinished → Bool) (x y : Unfinished) (xs : List Unfinished) → (find test xs ≡ Some y → list_any test xs ≡ true) → (b : Bool) → cond b (Some x) (find test xs) ≡ Some y → (b || list_any test xs) ≡ true
some_at test x y xs rest true h = refl
some_at test x y xs rest false h = rest h

pub some_found : (test : Unfinished → Bool) (xs : List Unfinished) (y : Unfinished) → find test xs ≡ Some y → list_any test xs ≡ true
some_found test [] y h = absurd (cc)
some_found test (x ∷ xs) y h = some_at test x y xs (some_found test xs y) (test x) h

-- ---- by the request of an id

known_at : (test : Progress → Bool) (o : Option Unfinished) → is_so test (option_map (λ (x : Unfinished). x.progress) o) ≡ passes (λ (x : Unfinished). test x.progress) o
known_at test None = refl
known_at test (Some x) = refl

-- how far it is tells the test
pub known : (q : Queue) (id : ℕ) (test : Progress → Bool) (o : Option Progress) → IsSound q → o ≡ option_map (λ (x : Unfinished). x.progress) (request_of q id)
    → is_so test o ≡ some_request q id (λ (x : Unfinished). test x.progress)
known q id test o h e =
    ap (is_so test) e ∙ known_at test (request_of q id) ∙ sym ((names_one q h).test id (λ (x : Unfinished). test x.progress))

both_at : (a b : Unfinished → Bool) (o : Option Unfinished) → passes (λ (x : Unfinished). a x && b x) o ≡ (passes a o && passes b o)
both_at a b None = refl
both_at a b (Some x) = refl

pub both : (q : Queue) (id : ℕ) (a b : Unfinished → Bool) → IsSound q → some_request q id (λ (x : Unfinished). a x && b x) ≡ (some_request q id a && some_request q id b)
both q id a b h =
    let n = names_one q h in
    n.test id (λ (x : Unfinished). a x && b x) ∙ both_at a b (request_of q id) ∙ ap (λ c. c && passes b (request_of q id)) (sym (n.test id a)) ∙ ap (λ c. some_request q id a && c) (sym (n.test id b))

but_at : (a b : Unfinished → Bool) (o : Option Unfinished) → passes (λ (x : Unfinished). a x && not (b x)) o ≡ (passes a o && not (passes b o))
but_at a b None = refl
but_at a b (Some x) = refl

pub but : (q : Queue) (id : ℕ) (a b : Unfinished → Bool) → IsSound q → some_request q id (λ (x : Unfinished). a x && not (b x)) ≡ (some_request q id a && not (some_request q id b))
but q id a b h =
    let n = names_one q h in
    n.test id (λ (x : Unfinished). a x && not (b x)) ∙ but_at a b (request_of q id) ∙ ap (λ c. c && not (passes b (request_of q id))) (sym (n.test id a)) ∙ ap (λ c. some_request q id a && not c) (sym (n.test id b))

-- what passes is the request of the id, which passes
pub record Is (q : Queue) (id : ℕ) (test : Unfinished → Bool) : Type 0 where
  pub request : Unfinished
  pub there : request_of q id ≡ Some request
  pub so : test request ≡ true

is_at : (q : Queue) (id : ℕ) (test : Unfinished → Bool) (o : Option Unfinished) → request_of q id ≡ o → passes test o ≡ true → Is q id test
is_at q id test None e h = absurd (true≢false (sym h))
is_at q id test (Some x) e h = record { request = x; there = e; so = h }

pub is_there : (q : Queue) (id : ℕ) (test : Unfinished → Bool) → IsSound q → some_request q id test ≡ true → Is q id test
is_there q id test s h = is_at q id test (request_of q id) refl (sym ((names_one q s).test id test) ∙ h)

pub has_it : (q : Queue) (id : ℕ) (test : Unfinished → Bool) → IsSound q → some_request q id test ≡ true → has_request q id ≡ true
has_it q id test s h = let i = is_there q id test s h in some_found (λ (x : Unfinished). x.id == id) q.requests i.request i.there

-- the one at a place, which is that of the id
pub at_place : (q : Queue) (id k : ℕ) (test : Unfinished → Bool) (y : Unfinished) → IsSound q → some_request q id test ≡ true → request_of q id ≡ slice_get q.requests k → slice_get q.requests k ≡ Some y
    → test y ≡ true
at_place q id k test y s h p e =
    let i = is_there q id test s h in
    let same : Some i.request ≡ Some y = sym i.there ∙ p ∙ e in
    let equal : i.request ≡ y = cc in
    ap test (sym equal) ∙ i.so

-- ---- the place of the first one

first_at : (test : Unfinished → Bool) (xs : List Unfinished) (k : ℕ) → k < length xs → find test xs ≡ slice_get xs k → list_any test xs ≡ true
first_at test xs k l h =
    elim (slice_get_cases xs k).1 [
      | inl is ↦ some_found test xs is.0 (h ∙ is.2)
      | inr past ↦ absurd (omega (arith, l, past.0))
    ]

pub first_any : (test : Unfinished → Bool) (xs : List Unfinished) (o : Option ℕ) → IsFirst test xs o → is_some o ≡ list_any test xs
first_any test xs None h = sym (none_found test xs h)
first_any test xs (Some k) h = sym (first_at test xs k h.0 h.1)

pub first_there : (test : Unfinished → Bool) (xs : List Unfinished) (o : Option ℕ) → IsFirst test xs o → list_any test xs ≡ true → IsSome o
first_there test xs None h t = absurd (true≢false (sym t ∙ none_found test xs h))
first_there test xs (Some k) h t = search rules

-- ---- two tests, one after the other

pub both_then : (q : Queue) (id : ℕ) (a b : Unfinished → Bool) (r t : Bool) → IsSound q → r ≡ some_request q id a → r ≡ true → t ≡ some_request q id b → t ≡ some_request q id (λ (x : Unfinished). a x && b x)
both_then q id a b r t h e is f = f ∙ ap (λ c. c && some_request q id b) (sym is ∙ e) ∙ sym (both q id a b h)

pub both_else : (q : Queue) (id : ℕ) (a b : Unfinished → Bool) (r : Bool) → IsSound q → r ≡ some_request q id a → r ≡ false → r ≡ some_request q id (λ (x : Unfinished). a x && b x)
both_else q id a b r h e fails = fails ∙ ap (λ c. c && some_request q id b) (sym fails ∙ e) ∙ sym (both q id a b h)

pub but_then : (q : Queue) (id : ℕ) (a b : Unfinished → Bool) (r t : Bool) → IsSound q → r ≡ some_request q id a → r ≡ true → t ≡ some_request q id b → not t ≡ some_request q id (λ (x : Unfinished). a x && not (b x))
but_then q id a b r t h e is f = ap not f ∙ ap (λ c. c && not (some_request q id b)) (sym is ∙ e) ∙ sym (but q id a b h)

pub but_else : (q : Queue) (id : ℕ) (a b : Unfinished → Bool) (r : Bool) → IsSound q → r ≡ some_request q id a → r ≡ false → r ≡ some_request q id (λ (x : Unfinished). a x && not (b x))
but_else q id a b r h e fails = fails ∙ ap (λ c. c && not (some_request q id b)) (sym fails ∙ e) ∙ sym (but q id a b h)

pub same_id : (id : ℕ) (o : Option Unfinished) → is_id id (id_of o) ≡ has_id id o
same_id id None = refl
same_id id (Some x) = refl
