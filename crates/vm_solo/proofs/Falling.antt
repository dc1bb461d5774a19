-- Rounds bring a run nearer to its end: measures that fall with each round, from any state that stands.
use Rattle.std.specs.Prelude.{is_some, nat_lt, if◌then◌else◌}
use Rattle.std.proofs.Common.{◌≡◌, ◌≢◌, ◌⊎◌, ℕ, ◌+◌, ◌*◌, ◌<◌, ◌≤◌, Bool, true, false, List, [], ◌∷◌, ◌++◌, length, refl, sym, ap, subst, ◌∙◌, inl, inr, arith, length-append}
use Rattle.std.proofs.lemmas.Bool.{lt-ltb}
use Rattle.std.proofs.lemmas.List.{append-nil}
use Rattle.std.proofs.lemmas.Bool.Decides.{nat_tests}
use Rattle.vm_law.specs.declared.journal.Signed.{Signed}
use Rattle.vm_state.specs.State.{State}
use Rattle.vm_table.specs.History.{after_all}
use Rattle.vm_table.specs.Rounds.{Rounds, after_round}
use Rattle.vm_table.specs.Table.{after}
use Rattle.vm_laws.specs.Ending.{need}
use Rattle.vm_laws.proofs.Closing.{closing}
use Rattle.vm_rounds.proofs.Closed.{after_ended, after_entries, come_le, to_come}
use Rattle.vm_rounds.proofs.Passing.{Fine, fine_after}
use Rattle.vm_rounds.proofs.Passes.{Stand}
use Rattle.vm_rounds.proofs.TwoRounds.{round_moves, two_add, two_moves}
use Rattle.vm_rounds.proofs.Walking.{AreGood}
use Rattle.vm_solo.proofs.Alike.{same_history}

-- ---- whether the next round adds an entry

unfoldable pub adds : Rounds → Bool
adds r = nat_lt (length r.history) (length (after_round r).history)

pub adds_same : (r : Rounds) (calls : List Bool) → adds (record r { calls = calls }) ≡ adds r
unfolding adds
adds_same r calls = ap (λ (xs : List Signed). nat_lt (length r.history) (length xs)) (same_history r calls)

-- a round that adds nothing is followed by one that does
some_more : (xs : List Signed) → xs ≢ [] → 0 < length xs
some_more [] n = absurd (n refl)
some_more (x ∷ xs) n = omega arith

longer : (h xs : List Signed) → xs ≢ [] → length h < length (h ++ xs)
longer h xs n = let a = some_more xs n in omega (arith, length-append h xs, a)

none_or : (xs : List Signed) → (xs ≡ []) ⊎ (xs ≢ [])
none_or [] = inl refl
none_or (x ∷ xs) = inr (λ e. absurd (cc))

adds_is : (r : Rounds) (xs : List Signed) → (after_round r).history ≡ r.history ++ xs → xs ≢ [] → adds r ≡ true
unfolding adds
adds_is r xs e n = lt-ltb (length r.history) (length (after_round r).history) (subst (λ (h : List Signed). length r.history < length h) (sym e) (longer r.history xs n))

adds_none : (r : Rounds) (xs : List Signed) → (after_round r).history ≡ r.history ++ xs → xs ≡ [] → adds r ≡ false
unfolding adds
adds_none r xs e n =
    let same : length (after_round r).history ≡ length r.history = ap (λ (h : List Signed). length h) (e ∙ ap (λ (ys : List Signed). r.history ++ ys) n ∙ append-nil r.history) in
    grind (arith, nat_tests, same)

-- what a round of a run that isn't closed adds; where that is nothing, the next one adds something
pub record RoundFalls (r : Rounds) : Type 0 where
  pub entries : List Signed
  pub state : (after_round r).state ≡ after_all r.state entries
  pub good : AreGood r.state entries
  pub stand : Stand (after_round r)
  pub some : entries ≢ [] → adds r ≡ true
  pub none : entries ≡ [] → (adds r ≡ false) × (r.state.closed ≡ false → adds (after_round r) ≡ true)

none_added : (h xs : List Signed) → h ++ xs ≡ h → xs ≡ []
none_added h xs e = elim (none_or xs) [
  | inl none ↦ none
  | inr some ↦ absurd (let a = longer h xs some in let b = ap (λ (ys : List Signed). length ys) e in omega (arith, a, b))
]

next_adds : (r : Rounds) (h : Stand r) → r.state.closed ≡ false → (round_moves r h).entries ≡ [] → adds (after_round r) ≡ true
next_adds r h g e =
    let a = round_moves r h in
    let b = round_moves (after_round r) a.stand in
    elim (none_or b.entries) [
      | inr some ↦ adds_is (after_round r) b.entries b.history some
      | inl none ↦
          let two = two_moves r h in
          let same : (after_round (after_round r)).history ≡ r.history =
          b.history ∙ ap (λ (ys : List Signed). (after_round r).history ++ ys) none ∙ append-nil (after_round r).history ∙ a.history ∙ ap (λ (ys : List Signed). r.history ++ ys) e ∙ append-nil r.history in
          absurd (two_add r h g (none_added r.history two.entries (sym two.history ∙ same)))
    ]

pub round_falls : (r : Rounds) → Stand r → RoundFalls r
round_falls r h =
    let a = round_moves r h in
    record {
      entries = a.entries;
      state = a.state;
      good = a.good;
      stand = a.stand;
      some = λ n. adds_is r a.entries a.history n;
      none = λ e. (adds_none r a.entries a.history e, λ g. next_adds r h g e);
    }

-- ---- the measures

abbrev pub one_unless : Bool → ℕ
one_unless b = if b then 0 else 1

-- a number that falls with each entry, twice, and once more where the next round adds nothing
abbrev pub twice : ℕ → Rounds → ℕ
twice n r = 2 * n + one_unless (adds r)

twice_falls : (r : Rounds) (f : State → ℕ) → Stand r → r.state.closed ≡ false → ((xs : List Signed) → AreGood r.state xs → xs ≢ [] → f (after_all r.state xs) < f r.state)
    → twice (f (after_round r).state) (after_round r) < twice (f r.state) r
twice_falls r f h g less =
    let a = round_falls r h in
    elim (none_or a.entries) [
      | inr some ↦
          let l = less a.entries a.good some in
          let k : f (after_round r).state < f r.state = subst (λ (t : State). f t < f r.state) (sym a.state) l in
          let b = one_most (adds (after_round r)) in
          omega (arith, k, b)
      | inl none ↦
          let b = a.none none in
          let same : f (after_round r).state ≡ f r.state = ap f (a.state ∙ ap (λ (xs : List Signed). after_all r.state xs) none) in
          let now : one_unless (adds (after_round r)) ≡ 0 = ap (λ (b : Bool). one_unless b) (b.1 g) in
          let was : one_unless (adds r) ≡ 1 = ap (λ (b : Bool). one_unless b) b.0 in
          omega (arith, same, now, was)
    ]
  where
    one_most : (b : Bool) → one_unless b ≤ 1
    one_most true = omega arith
    one_most false = omega arith

-- once it has ended
need_le : (s : State) (xs : List Signed) → Fine s → is_some s.ended ≡ true → AreGood s xs → need (after_all s xs) ≤ need s
need_le s [] f e g = omega arith
need_le s (x ∷ xs) f e g =
    let a = closing s x f.sound e g.0.may in
    let b = need_le (after s x) xs (fine_after s x f g.0) (after_ended s x e) g.1 in
    omega (arith, a, b)

need_less : (s : State) (xs : List Signed) → Fine s → is_some s.ended ≡ true → AreGood s xs → xs ≢ [] → need (after_all s xs) < need s
need_less s [] f e g some = absurd (some refl)
need_less s (x ∷ xs) f e g some =
    let a = closing s x f.sound e g.0.may in
    let b = need_le (after s x) xs (fine_after s x f g.0) (after_ended s x e) g.1 in
    omega (arith, a, b)

pub ended_falls : (r : Rounds) → Stand r → r.state.closed ≡ false → is_some r.state.ended ≡ true → twice (need (after_round r).state) (after_round r) < twice (need r.state) r
ended_falls r h g e = twice_falls r need h g (λ xs a n. need_less r.state xs h.fine e a n)

-- before so many entries stand
come_less : (s : State) (xs : List Signed) → xs ≢ [] → 0 < to_come s → to_come (after_all s xs) < to_come s
come_less s [] some l = absurd (some refl)
come_less s (x ∷ xs) some l =
    let a = after_entries s x in
    let b = come_le (after s x) xs in
    omega (arith, a, b, l)

pub early_falls : (r : Rounds) → Stand r → r.state.closed ≡ false → 0 < to_come r.state → twice (to_come (after_round r).state) (after_round r) < twice (to_come r.state) r
early_falls r h g l = twice_falls r to_come h g (λ xs a n. come_less r.state xs n l)
