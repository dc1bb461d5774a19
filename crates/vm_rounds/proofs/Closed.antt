-- A run that has ended comes to Close in some rounds, and one that hasn't ended comes to 40,000,000 entries.
use Rattle.std.specs.Prelude.{min, is_some}
use Rattle.std.proofs.Common.{◌≡◌, ◌≢◌, ℕ, zero, suc, ◌+◌, ◌-◌, ◌<◌, ◌≤◌, ◌^◌, true, false, List, [], ◌∷◌, refl, sym, ap, subst, ◌∙◌, inl, inr, arith}
use Rattle.std.proofs.lemmas.Bool.{cases_Bool, cases_lt}
use Rattle.vm_law.specs.declared.journal.Entry.{Entry}
use Rattle.vm_law.specs.declared.journal.Entry.TheVariants.{Close}
use Rattle.vm_law.specs.declared.journal.Signed.{Signed}
use Rattle.vm_state.specs.State.{State}
use Rattle.vm_orders.specs.Ending.{after_close, entry_limit}
use Rattle.vm_table.specs.History.{after_all}
use Rattle.vm_table.specs.Rounds.{Rounds, after_round, rounds_from}
use Rattle.vm_table.specs.Table.{after, counted, effect}
use Rattle.vm_laws.specs.Ending.{need}
use Rattle.vm_laws.proofs.Closing.{closing}
use Rattle.vm_rounds.proofs.Staying.{effect_stays}
use Rattle.vm_rounds.proofs.Walking.{AreGood}
use Rattle.vm_rounds.proofs.Passing.{Fine, fine_after}
use Rattle.vm_rounds.proofs.Passes.{Stand}
use Rattle.vm_rounds.proofs.TwoRounds.{two_add, two_moves}

-- it is closed after so many rounds
abbrev pub Returns : Rounds → Type 0
Returns r = (n : ℕ) × ((rounds_from r n).state.closed ≡ true)

shift : (r : Rounds) (n : ℕ) → rounds_from (after_round r) n ≡ rounds_from r (suc n)
shift r zero = refl
shift r (suc n) = ap (λ (t : Rounds). after_round t) (shift r n)

pub one_later : (r : Rounds) → Returns (after_round r) → Returns r
one_later r h = (suc h.0, ap (λ (t : Rounds). t.state.closed) (sym (shift r h.0)) ∙ h.1)

pub two_later : (r : Rounds) → Returns (after_round (after_round r)) → Returns r
two_later r h = one_later r (one_later (after_round r) h)

-- ---- what an entry does to these

effect_ended : (s : State) (p : ℕ) (e : Entry) → is_some s.ended ≡ true → is_some (effect s p e).ended ≡ true
unfolding effect after_close
effect_ended s p Close h = h
effect_ended s p e h = elim (effect_stays s p e) [ inl k ↦ k.ended h | inr c ↦ absurd c ]

pub after_ended : (s : State) (x : Signed) → is_some s.ended ≡ true → is_some (after s x).ended ≡ true
unfolding after counted
after_ended s x h = effect_ended s x.by x.entry h

effect_entries : (s : State) (p : ℕ) (e : Entry) → (effect s p e).entries ≡ s.entries
unfolding effect after_close
effect_entries s p Close = refl
effect_entries s p e = elim (effect_stays s p e) [ inl k ↦ k.entries | inr c ↦ absurd c ]

pub after_entries : (s : State) (x : Signed) → (after s x).entries ≡ min (s.entries + 1) (2 ^ 64 - 1)
unfolding after counted
after_entries s x = ap (λ (n : ℕ). min (n + 1) (2 ^ 64 - 1)) (effect_entries s x.by x.entry)

pub ended_all : (s : State) (xs : List Signed) → is_some s.ended ≡ true → is_some (after_all s xs).ended ≡ true
ended_all s [] h = h
ended_all s (x ∷ xs) h = ended_all (after s x) xs (after_ended s x h)

-- ---- once it has ended

need_le : (s : State) (xs : List Signed) → Fine s → is_some s.ended ≡ true → AreGood s xs → need (after_all s xs) ≤ need s
need_le s [] f e g = omega arith
need_le s (x ∷ xs) f e g =
    let a = closing s x f.sound e g.0.may in
    let b = need_le (after s x) xs (fine_after s x f g.0) (after_ended s x e) g.1 in
    omega (arith, a, b)

need_less : (s : State) (xs : List Signed) → Fine s → is_some s.ended ≡ true → AreGood s xs → xs ≢ [] → need (after_all s xs) < need s
need_less s [] f e g some = absurd (some refl)
need_less s (x ∷ xs) f e g some =
    let a = closing s x f.sound e g.0.may in
    let b = need_le (after s x) xs (fine_after s x f g.0) (after_ended s x e) g.1 in
    omega (arith, a, b)

two_need : (r : Rounds) (h : Stand r) → r.state.closed ≡ false → is_some r.state.ended ≡ true → need (after_round (after_round r)).state < need r.state
two_need r h g e =
    let m = two_moves r h in
    let a = need_less r.state m.entries h.fine e m.good (two_add r h g) in
    subst (λ (t : State). need t < need r.state) (sym m.state) a

two_ended : (r : Rounds) (h : Stand r) → is_some r.state.ended ≡ true → is_some (after_round (after_round r)).state.ended ≡ true
two_ended r h e =
    let m = two_moves r h in
    subst (λ (t : State). is_some t.ended ≡ true) (sym m.state) (ended_all r.state m.entries e)

pub ended_returns : (fuel : ℕ) (r : Rounds) → Stand r → is_some r.state.ended ≡ true → need r.state ≤ fuel → Returns r
ended_returns zero r h e l =
    elim (cases_Bool r.state.closed) [
      | inl shut ↦ (0, shut)
      | inr g ↦ absurd (let a = two_need r h g e in omega (arith, a, l))
    ]
ended_returns (suc n) r h e l =
    elim (cases_Bool r.state.closed) [
      | inl shut ↦ (0, shut)
      | inr g ↦
          let a = two_need r h g e in
          two_later r (ended_returns n (after_round (after_round r)) (two_moves r h).stand (two_ended r h e) (omega (arith, a, l)))
    ]

-- ---- before 40,000,000 entries

abbrev pub to_come : State → ℕ
to_come s = entry_limit - s.entries

pub come_le : (s : State) (xs : List Signed) → to_come (after_all s xs) ≤ to_come s
come_le s [] = omega arith
come_le s (x ∷ xs) =
    let a = after_entries s x in
    let b = come_le (after s x) xs in
    omega (arith, a, b)

come_less : (s : State) (xs : List Signed) → xs ≢ [] → 0 < to_come s → to_come (after_all s xs) < to_come s
come_less s [] some l = absurd (some refl)
come_less s (x ∷ xs) some l =
    let a = after_entries s x in
    let b = come_le (after s x) xs in
    omega (arith, a, b, l)

two_come : (r : Rounds) (h : Stand r) → r.state.closed ≡ false → 0 < to_come r.state → to_come (after_round (after_round r)).state < to_come r.state
two_come r h g l =
    let m = two_moves r h in
    subst (λ (t : State). to_come t < to_come r.state) (sym m.state) (come_less r.state m.entries (two_add r h g) l)

pub many_later : ((t : Rounds) → Stand t → entry_limit ≤ t.state.entries → Returns t) → (fuel : ℕ) (r : Rounds) → Stand r → to_come r.state ≤ fuel → Returns r
many_later then zero r h l = then r h (omega (arith, l))
many_later then (suc n) r h l =
    elim (cases_Bool r.state.closed) [
      | inl shut ↦ (0, shut)
      | inr g ↦ (elim (cases_lt 0 (to_come r.state)) [
        | inr none ↦ then r h (omega (arith, none))
        | inl some ↦ (let a = two_come r h g some in two_later r (many_later then n (after_round (after_round r)) (two_moves r h).stand (omega (arith, a, l))))
      ])
    ]
