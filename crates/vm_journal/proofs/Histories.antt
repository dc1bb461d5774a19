-- Histories with one more entry.
use Rattle.std.proofs.Common.{◌≡◌, ℕ, ◌+◌, ◌<◌, ◌≤◌, Bool, true, false, ◌&&◌, List, [], ◌∷◌, ◌++◌, length, take, drop, get_or, refl, sym, ap, subst, ◌∙◌}
use Rattle.std.proofs.lemmas.Bool.{and_parts}
use Rattle.std.proofs.lemmas.List.{take-append-drop, take_all, take_more}
use Rattle.std.proofs.lemmas.Option.{slice_get-get_or}
use Rattle.vm_law.specs.declared.journal.Signed.{Signed}
use Rattle.vm_law.specs.declared.journal.Entry.TheVariants.{Claim}
use Rattle.vm_state.specs.State.{State}
use Rattle.vm_table.specs.Table.{lawful, after}
use Rattle.vm_state.specs.declared.start.Start.{Start}
use Rattle.vm_state.specs.Start.{boot}
use Rattle.vm_table.specs.History.{after_all, is_lawful_all, IsLegal, last_state}
use Rattle.vm_journal.specs.Replaying.{IsFirstBad}

after_all-append : (s : State) (xs ys : List Signed) → after_all s (xs ++ ys) ≡ after_all (after_all s xs) ys
after_all-append s [] ys = refl
after_all-append s (x ∷ xs) ys = after_all-append (after s x) xs ys

and_assoc : (a b c : Bool) → (a && (b && c)) ≡ ((a && b) && c)
and_assoc true b c = refl
and_assoc false b c = refl

is_lawful_all-append : (s : State) (xs ys : List Signed) → is_lawful_all s (xs ++ ys) ≡ (is_lawful_all s xs && is_lawful_all (after_all s xs) ys)
is_lawful_all-append s [] ys = refl
is_lawful_all-append s (x ∷ xs) ys =
    ap (λ (b : Bool). lawful s x.by x.entry && b) (is_lawful_all-append (after s x) xs ys) ∙ and_assoc (lawful s x.by x.entry) (is_lawful_all (after s x) xs) (is_lawful_all (after_all (after s x) xs) ys)

after_more : (s : State) (h : List Signed) (at : ℕ) (d : Signed) → at < length h → after_all s (take (at + 1) h) ≡ after (after_all s (take at h)) (get_or h at d)
after_more s h at d l =
    ap (λ (xs : List Signed). after_all s xs) (take_more h at d l) ∙ after_all-append s (take at h) (get_or h at d ∷ [])

-- the first entries and the next one are lawful
next_lawful : (s : State) (h : List Signed) (at : ℕ) (d : Signed) → at < length h
    → is_lawful_all s (take (at + 1) h) ≡ (is_lawful_all s (take at h) && (lawful (after_all s (take at h)) (get_or h at d).by (get_or h at d).entry && true))
next_lawful s h at d l =
    ap (λ (xs : List Signed). is_lawful_all s xs) (take_more h at d l) ∙ is_lawful_all-append s (take at h) (get_or h at d ∷ [])

lawful_more : (s : State) (h : List Signed) (at : ℕ) (d : Signed) → at < length h → is_lawful_all s (take at h) ≡ true
    → lawful (after_all s (take at h)) (get_or h at d).by (get_or h at d).entry ≡ true → is_lawful_all s (take (at + 1) h) ≡ true
lawful_more s h at d l e f = next_lawful s h at d l ∙ rw (e, f) refl

-- every front of a legal history is one
front_lawful : (s : State) (h : List Signed) (n : ℕ) → is_lawful_all s h ≡ true → is_lawful_all s (take n h) ≡ true
front_lawful s h n e =
    (and_parts _ _ (sym (is_lawful_all-append s (take n h) (drop n h)) ∙ ap (λ (xs : List Signed). is_lawful_all s xs) (take-append-drop n h) ∙ e)).0

true_false : (b : Bool) → b ≡ true → b ≡ false → ⊥
true_false b t f = cc

-- a history with a bad entry isn't legal
not_legal : (start : Start) (h : List Signed) (at : ℕ) (d : Signed) → at < length h
    → lawful (last_state start (take at h)) (get_or h at d).by (get_or h at d).entry ≡ false → IsLegal start h → ⊥
not_legal start h at d l f e =
    let front = front_lawful (boot start) h (at + 1) e in
    let both = and_parts _ _ (sym (next_lawful (boot start) h at d l) ∙ front) in
    true_false _ (and_parts _ _ both.1).0 f

-- a state s after the first entries, and the next entry
pub step_legal : (start : Start) (items h : List Signed) (at : ℕ) (d : Signed) (s : State) → items ≡ h → at < length items → IsLegal start (take at h)
    → s ≡ last_state start (take at h) → lawful s (get_or items at d).by (get_or items at d).entry ≡ true → IsLegal start (take (at + 1) h)
step_legal start items h at d s same l e f g =
    let within = subst (λ (xs : List Signed). at < length xs) same l in
    lawful_more (boot start) h at d within e (rw (← f, ← same) g)

pub step_state : (start : Start) (items h : List Signed) (at : ℕ) (d : Signed) (s t : State) → items ≡ h → at < length items
    → s ≡ last_state start (take at h) → t ≡ after s (get_or items at d) → t ≡ last_state start (take (at + 1) h)
step_state start items h at d s t same l f g =
    let within = subst (λ (xs : List Signed). at < length xs) same l in
    g ∙ rw (f, same) (sym (after_more (boot start) h at d within))

-- a history with a first bad entry isn't legal
pub first_bad : (start : Start) (h : List Signed) (at : ℕ) → IsFirstBad start h at → IsLegal start h → ⊥
first_bad start h at f legal =
    let none : Signed = record { by = 0; entry = Claim 0 } in
    not_legal start h at none f.within (f.bad (get_or h at none) (slice_get-get_or h at none f.within)) legal

-- all of the entries are a history, once so many are
pub whole_legal : (start : Start) (items h : List Signed) (at : ℕ) → items ≡ h → length items ≤ at → IsLegal start (take at h) → IsLegal start h
whole_legal start items h at same l e =
    let past = subst (λ (xs : List Signed). length xs ≤ at) same l in
    subst (IsLegal start) (take_all at h past) e
