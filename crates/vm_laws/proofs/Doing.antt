-- Requests are done once: what was accepted is there, was finished, or was cancelled untouched.
use Rattle.std.proofs.Common.{◌≡◌, ℕ, ◌+◌, ◌<◌, ◌≤◌, Bool, true, false, not, List, [], ◌∷◌, refl, sym, ap, ◌∙◌, inl, inr, ◌⊎◌, arith}
use Rattle.std.specs.Prelude.{◌&&◌, ◌==◌}
use Rattle.std.proofs.lemmas.Bool.{cases_Bool, and_parts}
use Rattle.std.proofs.lemmas.Bool.Decides.{nat_tests}
use Rattle.vm_law.specs.declared.journal.Signed.{Signed}
use Rattle.blk_queue.specs.Queue.{Queue, has_request}
use Rattle.blk_queue.specs.Progress.{is_waiting}
use Rattle.blk_queue.specs.Sound.{IsSound as IsQueue}
use Rattle.vm_state.specs.declared.start.Start as start_type
use Rattle.vm_state.specs.Sound.{IsSoundState}
use Rattle.vm_state.specs.Start.{IsSound, boot}
use Rattle.vm_state.specs.State.{State}
use Rattle.vm_state.proofs.Sound.{boot_is_sound}
use Rattle.vm_table.proofs.Keeps.{after_keeps as keeps}
use Rattle.vm_table.specs.History.{after_all, is_lawful_all, IsLegal}
use Rattle.vm_table.specs.Table.{lawful, after}
use Rattle.vm_laws.specs.Counting.{count_of, one_if}
use Rattle.vm_laws.specs.Entries.{is_finish_of, is_work_on}
use Rattle.vm_laws.specs.Requests.{queue_of, takes_in, accepts, accepts_as, cancels, IsDoneOnce}
use Rattle.vm_laws.proofs.Lists.{clash}
use Rattle.vm_laws.proofs.Queues.{QueueStep, waits, test_has, id_below}
use Rattle.vm_laws.proofs.Serving.{known, after_step_of}

-- ---- one entry

abbrev gone_of : Queue → Queue → ℕ → Bool
gone_of q r id = waits q id && not (has_request r id)

waits_has : (q : Queue) (id : ℕ) → waits q id ≡ true → has_request q id ≡ true
waits_has q id h = test_has q id is_waiting h

no_wait : (q : Queue) (id : ℕ) → has_request q id ≡ false → waits q id ≡ false
no_wait q id h = elim (cases_Bool (waits q id)) [ inr f ↦ f | inl t ↦ absurd (clash (has_request q id) (waits_has q id t) h) ]

not_next : (q : Queue) (id : ℕ) → id < q.next → (q.next == id) ≡ false
not_next q id l = grind (arith, nat_tests, l)

and_false : (b : Bool) → (b && false) ≡ false
and_false true = refl
and_false false = refl

not_if : (b : Bool) → (b ≡ true → ⊥) → b ≡ false
not_if true h = absurd (h refl)
not_if false h = refl

zeros : (a w : Bool) → one_if true + one_if (a && false) ≡ one_if true + one_if false + one_if (w && not true)
zeros true true = refl
zeros true false = refl
zeros false true = refl
zeros false false = refl

gone_balance : (q : Queue) (id : ℕ) (acc fin n : Bool) → n ≡ false → ((fin ≡ true) × (waits q id ≡ false)) ⊎ ((fin ≡ false) × (waits q id ≡ true))
    → one_if true + one_if (acc && n) ≡ one_if false + one_if fin + one_if (waits q id && not false)
gone_balance q id true fin n z (inl e) = rw (z, e.0, e.1) refl
gone_balance q id true fin n z (inr e) = rw (z, e.0, e.1) refl
gone_balance q id false fin n z (inl e) = rw (e.0, e.1) refl
gone_balance q id false fin n z (inr e) = rw (e.0, e.1) refl

-- the balance, by what was there before and is there now
balance_as : (q r : Queue) (id : ℕ) (acc fin wrk : Bool) → IsQueue q → QueueStep q r id acc fin wrk → (a b : Bool) → has_request q id ≡ a → has_request r id ≡ b
    → one_if a + one_if (acc && (q.next == id)) ≡ one_if b + one_if fin + one_if (waits q id && not b)
balance_as q r id acc fin wrk s k true true h g =
    let z : (q.next == id) ≡ false = not_next q id (id_below q id s h) in
    let f : fin ≡ false = not_if fin (λ t. clash (has_request r id) g (k.finished t).2) in
    rw (z, f) (zeros acc (waits q id))
balance_as q r id acc fin wrk s k true false h g =
    let z : (q.next == id) ≡ false = not_next q id (id_below q id s h) in
    gone_balance q id acc fin (q.next == id) z (elim (k.gone h g) [ inl f ↦ inl (f, (k.finished f).1) | inr w ↦ inr (not_if fin (λ t. clash (waits q id) w (k.finished t).1), w) ])
balance_as q r id acc fin wrk s k false true h g =
    let w = no_wait q id h in
    let f : fin ≡ false = not_if fin (λ t. clash (has_request q id) (k.finished t).0 h) in
    let n : (acc && (q.next == id)) ≡ true = elim (k.old g) [ inl x ↦ absurd (clash (has_request q id) x h) | inr y ↦ rw (y.0, y.1) refl ] in
    rw (n, f, w) refl
balance_as q r id acc fin wrk s k false false h g =
    let w = no_wait q id h in
    let f : fin ≡ false = not_if fin (λ t. clash (has_request q id) (k.finished t).0 h) in
    let n : (acc && (q.next == id)) ≡ false = not_if (acc && (q.next == id)) (λ t. let p = and_parts acc (q.next == id) t in clash (has_request r id) (k.new p.0 p.1) g) in
    rw (n, f, w) refl

balance : (q r : Queue) (id : ℕ) (acc fin wrk : Bool) → IsQueue q → QueueStep q r id acc fin wrk → one_if (has_request q id) + one_if (acc && (q.next == id)) ≡ one_if (has_request r id) + one_if fin + one_if (gone_of q r id)
balance q r id acc fin wrk s k = balance_as q r id acc fin wrk s k (has_request q id) (has_request r id) refl refl

-- ---- an entry in a state of which enough is known

step_at : (s : State) (x : Signed) (d id : ℕ) → IsSoundState s → lawful s x.by x.entry ≡ true → QueueStep (queue_of s.machine d) (queue_of (after s x).machine d) id (takes_in s d x.entry) (is_finish_of d id x.entry) (is_work_on d id x.entry)
step_at s x d id h m = after_step_of s x d id (known s h) m

queue_at : (s : State) (d : ℕ) → IsSoundState s → IsQueue (queue_of s.machine d)
queue_at s d h = (known s h).queues d

module _ (d id : ℕ) where
  -- ---- ids follow each other

  follow : (s : State) (xs : List Signed) → IsSoundState s → is_lawful_all s xs ≡ true → (queue_of (after_all s xs).machine d).next ≡ (queue_of s.machine d).next + count_of (accepts d) s xs
  unfolding accepts
  follow s [] h m = omega arith
  follow s (x ∷ xs) h m =
      let t = and_parts (lawful s x.by x.entry) _ m in
      let a = (step_at s x d id h t.0).next in
      let b = follow (after s x) xs (keeps s x h t.0) t.1 in
      omega (arith, a, b)

  -- ---- an id is accepted at most once

  accepts_one : (s : State) (x : Signed) → accepts_as d id s x ≡ (takes_in s d x.entry && ((queue_of s.machine d).next == id))
  unfolding accepts_as accepts
  accepts_one s x = refl

  no_more : (s : State) (xs : List Signed) → IsSoundState s → is_lawful_all s xs ≡ true → id < (queue_of s.machine d).next → count_of (accepts_as d id) s xs ≡ 0
  no_more s [] h m l = refl
  no_more s (x ∷ xs) h m l =
      let t = and_parts (lawful s x.by x.entry) _ m in
      let a = (step_at s x d id h t.0).next in
      let z : one_if (accepts_as d id s x) ≡ 0 = ap one_if (accepts_one s x ∙ ap (λ b. takes_in s d x.entry && b) (not_next (queue_of s.machine d) id l) ∙ and_false (takes_in s d x.entry)) in
      let b = no_more (after s x) xs (keeps s x h t.0) t.1 (omega (arith, a, l)) in
      omega (arith, z, b)

  at_most : (s : State) (xs : List Signed) → IsSoundState s → is_lawful_all s xs ≡ true → count_of (accepts_as d id) s xs ≤ 1
  at_most s [] h m = omega arith
  at_most s (x ∷ xs) h m =
      let t = and_parts (lawful s x.by x.entry) _ m in
      elim (cases_Bool (accepts_as d id s x)) [
        | inl y ↦
            let p = and_parts (takes_in s d x.entry) ((queue_of s.machine d).next == id) (sym (accepts_one s x) ∙ y) in
            let a = (step_at s x d id h t.0).next in
            let one : one_if (takes_in s d x.entry) ≡ 1 = ap one_if p.0 in
            let e : (queue_of s.machine d).next ≡ id = grind (arith, nat_tests, p.1) in
            let b = no_more (after s x) xs (keeps s x h t.0) t.1 (omega (arith, a, one, e)) in
            let c : one_if (accepts_as d id s x) ≡ 1 = ap one_if y in
            omega (arith, b, c)
        | inr f ↦
            let b = at_most (after s x) xs (keeps s x h t.0) t.1 in
            let c : one_if (accepts_as d id s x) ≡ 0 = ap one_if f in
            omega (arith, b, c)
      ]

  known_once : (s : State) (xs : List Signed) → IsSoundState s → is_lawful_all s xs ≡ true → one_if (has_request (queue_of s.machine d) id) + count_of (accepts_as d id) s xs ≤ 1
  known_once s xs h m =
      elim (cases_Bool (has_request (queue_of s.machine d) id)) [
        | inl y ↦
            let a = no_more s xs h m (id_below (queue_of s.machine d) id (queue_at s d h) y) in
            let c : one_if (has_request (queue_of s.machine d) id) ≡ 1 = ap one_if y in
            omega (arith, a, c)
        | inr f ↦
            let a = at_most s xs h m in
            let c : one_if (has_request (queue_of s.machine d) id) ≡ 0 = ap one_if f in
            omega (arith, a, c)
      ]

  -- ---- the balance

  cancels_one : (s : State) (x : Signed) → cancels d id s x ≡ gone_of (queue_of s.machine d) (queue_of (after s x).machine d) id
  unfolding cancels
  cancels_one s x = refl

  one_balance : (s : State) (x : Signed) → IsSoundState s → lawful s x.by x.entry ≡ true
      → one_if (has_request (queue_of s.machine d) id) + one_if (accepts_as d id s x) ≡ one_if (has_request (queue_of (after s x).machine d) id) + one_if (is_finish_of d id x.entry) + one_if (cancels d id s x)
  one_balance s x h m =
      let a = balance (queue_of s.machine d) (queue_of (after s x).machine d) id (takes_in s d x.entry) (is_finish_of d id x.entry) (is_work_on d id x.entry) (queue_at s d h) (step_at s x d id h m) in
      let b = ap one_if (accepts_one s x) in
      let c = ap one_if (cancels_one s x) in
      omega (arith, a, b, c)

  all_balance : (s : State) (xs : List Signed) → IsSoundState s → is_lawful_all s xs ≡ true
      → one_if (has_request (queue_of s.machine d) id) + count_of (accepts_as d id) s xs
      ≡ one_if (has_request (queue_of (after_all s xs).machine d) id) + count_of (λ s x. is_finish_of d id x.entry) s xs + count_of (cancels d id) s xs
  all_balance s [] h m = omega arith
  all_balance s (x ∷ xs) h m =
      let t = and_parts (lawful s x.by x.entry) _ m in
      let a = one_balance s x h t.0 in
      let b = all_balance (after s x) xs (keeps s x h t.0) t.1 in
      omega (arith, a, b)

  -- ---- of one that was cancelled nothing was begun

  abbrev cancelled_in : State → List Signed → ℕ
  cancelled_in s xs = count_of (cancels d id) s xs

  abbrev worked_in : State → List Signed → ℕ
  worked_in s xs = count_of (λ s x. is_work_on d id x.entry) s xs

  sum_zero : (b : Bool) (n : ℕ) → b ≡ false → n ≡ 0 → one_if b + n ≡ 0
  sum_zero b n e z = let a : one_if b ≡ 0 = ap one_if e in omega (arith, a, z)

  no_cancel : (s : State) (x : Signed) → waits (queue_of s.machine d) id ≡ false → cancels d id s x ≡ false
  no_cancel s x w = cancels_one s x ∙ ap (λ b. b && not (has_request (queue_of (after s x).machine d) id)) w

  no_cancel_there : (s : State) (x : Signed) → has_request (queue_of (after s x).machine d) id ≡ true → cancels d id s x ≡ false
  no_cancel_there s x g = cancels_one s x ∙ ap (λ b. waits (queue_of s.machine d) id && not b) g ∙ and_false (waits (queue_of s.machine d) id)

  -- it is gone: nothing more is done for it
  gone_rests : (s : State) (xs : List Signed) → IsSoundState s → is_lawful_all s xs ≡ true → has_request (queue_of s.machine d) id ≡ false → id < (queue_of s.machine d).next → (cancelled_in s xs ≡ 0) × (worked_in s xs ≡ 0)
  gone_rests s [] h m f l = (refl, refl)
  gone_rests s (x ∷ xs) h m f l =
      let t = and_parts (lawful s x.by x.entry) _ m in
      let k = step_at s x d id h t.0 in
      let n = k.next in
      let after_f = not_if (has_request (queue_of (after s x).machine d) id) (λ g. elim (k.old g) [ inl y ↦ clash (has_request (queue_of s.machine d) id) y f | inr y ↦ clash ((queue_of s.machine d).next == id) y.1 (not_next (queue_of s.machine d) id l) ]) in
      let r = gone_rests (after s x) xs (keeps s x h t.0) t.1 after_f (omega (arith, n, l)) in
      let w = not_if (is_work_on d id x.entry) (λ y. clash (has_request (queue_of s.machine d) id) (k.worked y) f) in
      (sum_zero (cancels d id s x) _ (no_cancel s x (no_wait (queue_of s.machine d) id f)) r.0, sum_zero (is_work_on d id x.entry) _ w r.1)

  -- a worker has it: it isn't cancelled any more
  busy_stays : (s : State) (xs : List Signed) → IsSoundState s → is_lawful_all s xs ≡ true → has_request (queue_of s.machine d) id ≡ true → waits (queue_of s.machine d) id ≡ false → cancelled_in s xs ≡ 0
  busy_stays s [] h m y w = refl
  busy_stays s (x ∷ xs) h m y w =
      let t = and_parts (lawful s x.by x.entry) _ m in
      let k = step_at s x d id h t.0 in
      let n = k.next in
      let l = id_below (queue_of s.machine d) id (queue_at s d h) y in
      let rest : cancelled_in (after s x) xs ≡ 0 = elim (cases_Bool (has_request (queue_of (after s x).machine d) id)) [
        | inl g ↦ busy_stays (after s x) xs (keeps s x h t.0) t.1 g (k.stays w y)
        | inr f ↦ (gone_rests (after s x) xs (keeps s x h t.0) t.1 f (omega (arith, n, l))).0
      ] in
      sum_zero (cancels d id s x) _ (no_cancel s x w) rest

  -- it waits
  waiting_or : (s : State) (xs : List Signed) → IsSoundState s → is_lawful_all s xs ≡ true → waits (queue_of s.machine d) id ≡ true → (cancelled_in s xs ≡ 0) ⊎ (worked_in s xs ≡ 0)
  waiting_or s [] h m w = inl refl
  waiting_or s (x ∷ xs) h m w =
      let t = and_parts (lawful s x.by x.entry) _ m in
      let k = step_at s x d id h t.0 in
      let n = k.next in
      let l = id_below (queue_of s.machine d) id (queue_at s d h) (waits_has (queue_of s.machine d) id w) in
      let g = keeps s x h t.0 in
      elim (cases_Bool (is_work_on d id x.entry)) [
        | inl y ↦
            let b = k.begun w y in
            inl (sum_zero (cancels d id s x) _ (no_cancel_there s x b.1) (busy_stays (after s x) xs g t.1 b.1 b.0))
        | inr f ↦
            elim (cases_Bool (has_request (queue_of (after s x).machine d) id)) [
              | inr none ↦ inr (sum_zero (is_work_on d id x.entry) _ f (gone_rests (after s x) xs g t.1 none (omega (arith, n, l))).1)
              | inl there ↦
                  elim (cases_Bool (waits (queue_of (after s x).machine d) id)) [
                    | inr b ↦ inl (sum_zero (cancels d id s x) _ (no_cancel_there s x there) (busy_stays (after s x) xs g t.1 there b))
                    | inl v ↦ elim (waiting_or (after s x) xs g t.1 v) [
                      | inl c ↦ inl (sum_zero (cancels d id s x) _ (no_cancel_there s x there) c)
                      | inr c ↦ inr (sum_zero (is_work_on d id x.entry) _ f c)
                    ]
                  ]
            ]
      ]

  -- it isn't there
  absent_or : (s : State) (xs : List Signed) → IsSoundState s → is_lawful_all s xs ≡ true → has_request (queue_of s.machine d) id ≡ false → (cancelled_in s xs ≡ 0) ⊎ (worked_in s xs ≡ 0)
  absent_or s [] h m f = inl refl
  absent_or s (x ∷ xs) h m f =
      let t = and_parts (lawful s x.by x.entry) _ m in
      let k = step_at s x d id h t.0 in
      let g = keeps s x h t.0 in
      let w = not_if (is_work_on d id x.entry) (λ y. clash (has_request (queue_of s.machine d) id) (k.worked y) f) in
      let c = no_cancel s x (no_wait (queue_of s.machine d) id f) in
      let rest : (cancelled_in (after s x) xs ≡ 0) ⊎ (worked_in (after s x) xs ≡ 0) = elim (cases_Bool (has_request (queue_of (after s x).machine d) id)) [
        | inr none ↦ absent_or (after s x) xs g t.1 none
        | inl there ↦ elim (cases_Bool (waits (queue_of (after s x).machine d) id)) [
          | inl v ↦ waiting_or (after s x) xs g t.1 v
          | inr b ↦ inl (busy_stays (after s x) xs g t.1 there b)
        ]
      ] in
      elim rest [ inl z ↦ inl (sum_zero (cancels d id s x) _ c z) | inr z ↦ inr (sum_zero (is_work_on d id x.entry) _ w z) ]

  untouched : (s : State) (xs : List Signed) → IsSoundState s → is_lawful_all s xs ≡ true → (cancelled_in s xs ≡ 0) ⊎ (worked_in s xs ≡ 0)
  untouched s xs h m =
      elim (cases_Bool (has_request (queue_of s.machine d) id)) [
        | inr f ↦ absent_or s xs h m f
        | inl there ↦ elim (cases_Bool (waits (queue_of s.machine d) id)) [
          | inl v ↦ waiting_or s xs h m v
          | inr b ↦ inl (busy_stays s xs h m there b)
        ]
      ]

-- requests are done once
pub done_once : (start : start_type.Start) (history : List Signed) (d id : ℕ) → IsSound start → IsLegal start history → IsDoneOnce start history d id
done_once start history d id sound legal =
    let h = boot_is_sound start sound in
    record {
      follow = follow d id (boot start) history h legal;
      known = known_once d id (boot start) history h legal;
      balance = all_balance d id (boot start) history h legal;
      untouched = untouched d id (boot start) history h legal;
    }
