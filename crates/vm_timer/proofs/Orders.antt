-- The order in which timers fire.
use Rattle.std.specs.Prelude.{◌↔◌}
use Rattle.std.proofs.Common.{◌≡◌, ◌≢◌, ℕ, ◌+◌, ◌-◌, ◌<◌, ◌≤◌, true, false, List, [], length, get_or, sym, ap, subst, arith, inl, inr, ◌∙◌, ◌⊎◌}
use Rattle.std.proofs.lemmas.Bool.{cases_lt, cases_eq}
use Rattle.std.proofs.lemmas.List.{get_or_default, get_or_past}
use Rattle.std.proofs.lemmas.List.Edits.{length-insert, get_or-insert_below, get_or-insert_at, get_or-insert_above}
use Rattle.std.proofs.lemmas.List.FromFn.{get_or-map-range_with_len}
use Rattle.std.specs.List.{All, AllPairs, Contains, insert}
use Rattle.vm_timer.specs.Timers.{left_of, left_after, ticked, fires, IsBefore, AreFired}

apart : (timers : List ℕ) (a b : ℕ) → IsBefore timers a b → a ≢ b
apart timers a b (inl less) e = let same = ap (left_of timers) e in absurd (omega arith)
apart timers a b (inr same) e = let more = same.1 in absurd (omega arith)

pub fired_once : (timers : List ℕ) (n : ℕ) (cpus : List ℕ) → AreFired timers n cpus → AllPairs (λ a b. a ≢ b) cpus
fired_once timers n cpus fired = λ i j d less within. apart timers (get_or cpus i d) (get_or cpus j d) (fired.in_order i j d less within)

-- where place k stands once another element was put in at place p
old_place : (p k : ℕ) → k ≢ p → (k < p) ⊎ ((j : ℕ) × (k ≡ j + 1) × (p ≤ j))
old_place p k ne = elim (cases_lt k p) [ inl l ↦ inl l | inr g ↦ inr (k - 1, omega arith, omega arith) ]

module _ (cpus : List ℕ) (place cpu : ℕ) (within : place ≤ length cpus) where
  pub inserted_new : Contains (insert cpus place cpu) cpu
  inserted_new = (place, (let long = length-insert cpus place cpu within in omega arith), get_or-insert_at cpus place cpu cpu within)

  pub inserted_old : (c : ℕ) → Contains cpus c → Contains (insert cpus place cpu) c
  inserted_old c there =
      let long = length-insert cpus place cpu within in
      let inside = there.1 in
      elim (cases_lt there.0 place) [
        | inl l ↦ (there.0, omega arith, get_or-insert_below cpus place cpu c there.0 l within ∙ there.2)
        | inr g ↦ (there.0 + 1, omega arith, get_or-insert_above cpus place cpu c there.0 g within ∙ there.2)
      ]

  pub inserted_cases : (c : ℕ) → Contains (insert cpus place cpu) c → Contains cpus c ⊎ (cpu ≡ c)
  inserted_cases c there =
      let long = length-insert cpus place cpu within in
      let inside = there.1 in
      elim (cases_eq there.0 place) [
        | inl e ↦ inr (sym (get_or-insert_at cpus place cpu c within) ∙ ap (λ (k : ℕ). get_or (insert cpus place cpu) k c) (sym e) ∙ there.2)
        | inr ne ↦ elim (old_place place there.0 ne) [
          | inl l ↦ inl (there.0, omega arith, sym (get_or-insert_below cpus place cpu c there.0 l within) ∙ there.2)
          | inr back ↦
              let next : there.0 ≡ back.0 + 1 = back.1 in
              inl (back.0, omega arith, sym (get_or-insert_above cpus place cpu c back.0 back.2 within) ∙ ap (λ (k : ℕ). get_or (insert cpus place cpu) k c) (sym next) ∙ there.2)
        ]
      ]

  -- what holds of the old ones and of the new one holds of all
  pub inserted_all : (P : ℕ → Type 0) → All P cpus → P cpu → All P (insert cpus place cpu)
  inserted_all P old new k d inside =
      let long = length-insert cpus place cpu within in
      elim (cases_eq k place) [
        | inl e ↦ subst P (sym (ap (λ (j : ℕ). get_or (insert cpus place cpu) j d) e ∙ get_or-insert_at cpus place cpu d within)) new
        | inr ne ↦ elim (old_place place k ne) [
          | inl l ↦ subst P (sym (get_or-insert_below cpus place cpu d k l within)) (old k d (omega arith))
          | inr back ↦
              let next : k ≡ back.0 + 1 = back.1 in
              subst P (sym (ap (λ (j : ℕ). get_or (insert cpus place cpu) j d) next ∙ get_or-insert_above cpus place cpu d back.0 back.2 within)) (old back.0 d (omega arith))
        ]
      ]

  -- the new one comes after those before its place and before those behind it
  pub inserted_pairs : (R : ℕ → ℕ → Type 0) → AllPairs R cpus → ((k d : ℕ) → k < place → R (get_or cpus k d) cpu) → ((k d : ℕ) → place ≤ k → k < length cpus → R cpu (get_or cpus k d)) → AllPairs R (insert cpus place cpu)
  inserted_pairs R old before after i j d less inside =
      let long = length-insert cpus place cpu within in
      let all = insert cpus place cpu in
      elim (cases_eq j place) [
        | inl e ↦
            subst (R (get_or all i d)) (sym (ap (λ (k : ℕ). get_or all k d) e ∙ get_or-insert_at cpus place cpu d within))
            (subst (λ (x : ℕ). R x cpu) (sym (get_or-insert_below cpus place cpu d i (omega arith) within)) (before i d (omega arith)))
        | inr ne ↦ elim (old_place place j ne) [
          | inl l ↦
              subst (R (get_or all i d)) (sym (get_or-insert_below cpus place cpu d j l within))
              (subst (λ (x : ℕ). R x (get_or cpus j d)) (sym (get_or-insert_below cpus place cpu d i (omega arith) within)) (old i j d less (omega arith)))
          | inr back ↦
              let next : j ≡ back.0 + 1 = back.1 in
              let far : place ≤ back.0 = back.2 in
              subst (R (get_or all i d)) (sym (ap (λ (k : ℕ). get_or all k d) next ∙ get_or-insert_above cpus place cpu d back.0 far within))
              (elim (cases_eq i place) [
                | inl e ↦ subst (λ (x : ℕ). R x (get_or cpus back.0 d)) (sym (ap (λ (k : ℕ). get_or all k d) e ∙ get_or-insert_at cpus place cpu d within)) (after back.0 d far (omega arith))
                | inr ni ↦ elim (old_place place i ni) [
                  | inl l ↦ subst (λ (x : ℕ). R x (get_or cpus back.0 d)) (sym (get_or-insert_below cpus place cpu d i l within)) (old i back.0 d (omega arith) (omega arith))
                  | inr first ↦
                      let one : i ≡ first.0 + 1 = first.1 in
                      subst (λ (x : ℕ). R x (get_or cpus back.0 d)) (sym (ap (λ (k : ℕ). get_or all k d) one ∙ get_or-insert_above cpus place cpu d first.0 first.2 within)) (old first.0 back.0 d (omega arith) (omega arith))
                ]
              ])
        ]
      ]

-- of the vCPUs below a number those whose timers fire, in order
pub record AreFiredBelow (timers : List ℕ) (n bound : ℕ) (cpus : List ℕ) : Type 0 where
  pub exactly : (c : ℕ) → Contains cpus c ↔ ((c < bound) × (fires n (left_of timers c) ≡ true))
  pub in_order : AllPairs (IsBefore timers) cpus
  pub below : All (λ c. c < bound) cpus
  pub short : length cpus ≤ bound

pub fired_none : (timers : List ℕ) (n : ℕ) → AreFiredBelow timers n 0 []
fired_none timers n =
    record {
      exactly = λ c. (λ there. absurd (let inside = there.1 in omega arith), λ both. absurd (let l = both.0 in omega arith));
      in_order = λ i j d less inside. absurd (omega arith);
      below = λ k d inside. absurd (omega arith);
      short = omega arith;
    }

-- a vCPU whose timer doesn't fire
pub fired_same : (timers : List ℕ) (n cpu : ℕ) (cpus : List ℕ) → AreFiredBelow timers n cpu cpus → fires n (left_of timers cpu) ≡ false → AreFiredBelow timers n (cpu + 1) cpus
fired_same timers n cpu cpus sofar not_this =
    record {
      exactly = λ c. (
        λ there. (let both = (sofar.exactly c).0 there in (let l = both.0 in omega arith, both.1)),
        λ both. (sofar.exactly c).1 (elim (cases_eq c cpu) [
          | inl e ↦ (let this = ap (λ (x : ℕ). fires n (left_of timers x)) e in let fire = both.1 in absurd cc)
          | inr ne ↦ (let l = both.0 in omega arith, both.1)
        ]),
      );
      in_order = sofar.in_order;
      below = λ k d inside. let l = sofar.below k d inside in omega arith;
      short = let l = sofar.short in omega arith;
    }

before_by : (timers : List ℕ) (a b : ℕ) → left_of timers a ≤ left_of timers b → a < b → IsBefore timers a b
before_by timers a b le lt = elim (cases_lt (left_of timers a) (left_of timers b)) [ inl l ↦ inl l | inr g ↦ inr (omega arith, lt) ]

no_less : (timers : List ℕ) (a b : ℕ) → IsBefore timers a b → left_of timers a ≤ left_of timers b
no_less timers a b (inl l) = omega arith
no_less timers a b (inr same) = let e = same.0 in omega arith

-- a vCPU whose timer fires, put behind all those with no more left
pub fired_more : (timers : List ℕ) (n cpu : ℕ) (cpus : List ℕ) (place : ℕ) → AreFiredBelow timers n cpu cpus → fires n (left_of timers cpu) ≡ true → place ≤ length cpus → ((k : ℕ) → k < place → left_of timers (get_or cpus k 0) ≤ left_of timers cpu) → (place < length cpus → left_of timers cpu < left_of timers (get_or cpus place 0)) → AreFiredBelow timers n (cpu + 1) (insert cpus place cpu)
fired_more timers n cpu cpus place sofar this within before after =
    record {
      exactly = λ c. (
        λ there. elim (inserted_cases cpus place cpu within c there) [
          | inl old ↦ (let both = (sofar.exactly c).0 old in (let l = both.0 in omega arith, both.1))
          | inr e ↦ (omega arith, subst (λ (x : ℕ). fires n (left_of timers x) ≡ true) e this)
        ],
        λ both. elim (cases_eq c cpu) [
          | inl e ↦ subst (λ (x : ℕ). Contains (insert cpus place cpu) x) (sym e) (inserted_new cpus place cpu within)
          | inr ne ↦ inserted_old cpus place cpu within c ((sofar.exactly c).1 (let l = both.0 in omega arith, both.1))
        ],
      );
      in_order =
          inserted_pairs cpus place cpu within (IsBefore timers) sofar.in_order
          (λ k d l. before_by timers (get_or cpus k d) cpu (subst (λ (x : ℕ). left_of timers x ≤ left_of timers cpu) (get_or_default cpus k 0 d (omega arith)) (before k l)) (sofar.below k d (omega arith)))
          (λ k d far inside.
          let first : left_of timers cpu < left_of timers (get_or cpus place d) = subst (λ (x : ℕ). left_of timers cpu < left_of timers x) (get_or_default cpus place 0 d (omega arith)) (after (omega arith)) in
          elim (cases_eq place k) [
            | inl e ↦ inl (subst (λ (j : ℕ). left_of timers cpu < left_of timers (get_or cpus j d)) e first)
            | inr ne ↦ (let next = no_less timers (get_or cpus place d) (get_or cpus k d) (sofar.in_order place k d (omega arith) inside) in inl (omega arith))
          ]);
      below = inserted_all cpus place cpu within (λ c. c < cpu + 1) (λ k d inside. let l = sofar.below k d inside in omega arith) (omega arith);
      short = let l = sofar.short in let long = length-insert cpus place cpu within in omega arith;
    }

nothing_fires : (n : ℕ) → fires n 0 ≡ true → ⊥
nothing_fires n e = cc

-- there are no others
pub fired_all : (timers : List ℕ) (n bound : ℕ) (cpus : List ℕ) → length timers ≤ bound → AreFiredBelow timers n bound cpus → AreFired timers n cpus
fired_all timers n bound cpus few sofar =
    record {
      exactly = λ c. (
        λ there. ((sofar.exactly c).0 there).1,
        λ fire. (sofar.exactly c).1 (elim (cases_lt c bound) [
          | inl l ↦ (l, fire)
          | inr g ↦ absurd (nothing_fires n (sym (ap (fires n) (get_or_past timers c 0 (omega arith))) ∙ fire))
        ]),
      );
      in_order = sofar.in_order;
    }

-- what is left of one timer after a tick
pub left_of-ticked : (timers : List ℕ) (n : ℕ) (spans : List ℕ) (cpu : ℕ) → cpu < 16 → left_of (ticked timers n spans) cpu ≡ left_after n (get_or spans cpu 0) (left_of timers cpu)
unfolding ticked
left_of-ticked timers n spans cpu small = get_or-map-range_with_len (λ (k : ℕ). left_after n (get_or spans k 0) (left_of timers k)) 0 16 cpu cpu 0 small (omega arith)
