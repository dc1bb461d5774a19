-- A pass after the other: what each adds is good, and what a pass that adds nothing has out.
use Rattle.std.specs.Prelude.{Option, Some, None, ◌==◌, nat_le, if◌then◌else◌, is_some, slice_index_or, slice_set}
use Rattle.std.proofs.Common.{◌≡◌, ℕ, zero, suc, ◌+◌, ◌-◌, ◌<◌, ◌≤◌, ◌≢◌, Bool, true, false, List, [], ◌∷◌, ◌++◌, length, append_assoc, refl, sym, ap, subst, ◌∙◌, inl, inr, arith}
use Rattle.std.proofs.Math.ListN.{length-set}
use Rattle.std.proofs.lemmas.Bool.{cases_eq, cases_lt, true≢false}
use Rattle.std.proofs.lemmas.Bool.Decides.{nat_tests}
use Rattle.std.proofs.lemmas.List.{get_or-set_same, get_or-set_other, get_or_past, append-nil}
use Rattle.vm_law.specs.declared.journal.Signed.{Signed}
use Rattle.vm_state.specs.Machine.{cpu_count}
use Rattle.vm_state.specs.Requests.{pass_count}
use Rattle.vm_state.specs.State.{State}
use Rattle.vm_table.specs.History.{after_all}
use Rattle.vm_table.specs.Rounds.{Lease, Rounds, added, after_pass, after_passes, after_runner, after_worker, answer_at, call_answered, choose, chosen, gone_out, held_by, lease_at, lease_back, no_lease, put_back, run_outside, worker_out}
use Rattle.vm_rounds.proofs.Leasing.{LeaseFits, outside_fits}
use Rattle.vm_rounds.proofs.Walking.{AreGood, AreOf, AreOver, over_append, over_from, after_append, chosen_good, chosen_of, good_append, of_append}
use Rattle.vm_rounds.proofs.Passing.{Fine, back_good, back_of, cpus_all, fine_all, leases_all, passes_all, put_good, put_of}

-- ---- what holds at the turn of each pass

pub record Stand (r : Rounds) : Type 0 where
  pub fine : Fine r.state
  pub leased : length r.leased ≡ cpu_count r.state.machine
  pub answered : length r.answered ≡ pass_count r.state.machine
  pub leases : (i : ℕ) → LeaseFits r.state i (lease_at r i)

-- where the pass added nothing: it chose nothing, nothing came back, and it has out what it can
pub record PassQuiet (r : Rounds) (p : ℕ) (t : Rounds) : Type 0 where
  pub none : chosen r.state p ≡ []
  pub back : (i : ℕ) → p ≡ 1 + i → i < cpu_count r.state.machine → lease_back r.state i (lease_at r i) ≡ []
  pub out : (i : ℕ) → p ≡ 1 + i → i < cpu_count r.state.machine → lease_at t i ≡ run_outside r.state i
  pub put : cpu_count r.state.machine < p → put_back r.state p (held_by r.state p) (answer_at r p) ≡ []
  pub gone : cpu_count r.state.machine < p → p < pass_count r.state.machine → is_some (held_by r.state p) ≡ true → is_some (answer_at t p) ≡ true

pub record PassGoes (r : Rounds) (p : ℕ) (t : Rounds) : Type 0 where
  pub entries : List Signed
  pub state : t.state ≡ after_all r.state entries
  pub history : t.history ≡ r.history ++ entries
  pub good : AreGood r.state entries
  pub of : AreOf p entries
  pub control : p ≡ 0 → entries ≡ chosen r.state 0
  pub stand : Stand t
  pub leases : (i : ℕ) → p ≢ 1 + i → lease_at t i ≡ lease_at r i
  pub answers : (q : ℕ) → q ≢ p → answer_at t q ≡ answer_at r q
  pub quiet : entries ≡ [] → PassQuiet r p t

is_other : (p i : ℕ) → p ≢ 1 + i → (p == 1 + i) ≡ false
is_other p i ne = grind (arith, nat_tests)

pub both_none : (xs ys : List Signed) → xs ++ ys ≡ [] → (xs ≡ []) × (ys ≡ [])
both_none [] ys h = (refl, h)
both_none (x ∷ xs) ys h = absurd (cc)

-- the same state where nothing was added
same_state : (s : State) (xs : List Signed) → xs ≡ [] → after_all s xs ≡ s
same_state s xs e = ap (λ (ys : List Signed). after_all s ys) e

-- ---- control

control_goes : (r : Rounds) → Stand r → PassGoes r 0 (choose r 0)
control_goes r h =
    let g = chosen_good r.state 0 in
    record {
      entries = chosen r.state 0;
      state = refl;
      history = refl;
      good = g;
      of = chosen_of r.state 0;
      control = λ e. refl;
      stand = record {
        fine = fine_all r.state (chosen r.state 0) h.fine g;
        leased = h.leased ∙ sym (cpus_all r.state (chosen r.state 0));
        answered = h.answered ∙ sym (passes_all r.state (chosen r.state 0));
        leases = λ i. leases_all r.state 0 (chosen r.state 0) i (lease_at r i) h.fine g (chosen_of r.state 0) (is_other 0 i (λ e. absurd (omega (arith, e)))) (h.leases i);
      };
      leases = λ i ne. refl;
      answers = λ q ne. refl;
      quiet = λ e. record {
        none = e;
        back = λ i z l. absurd (omega (arith, z));
        out = λ i z l. absurd (omega (arith, z));
        put = λ l. absurd (omega (arith, l));
        gone = λ l m n. absurd (omega (arith, l));
      };
    }

-- ---- a runner

runner_goes : (r : Rounds) (i : ℕ) → i < cpu_count r.state.machine → Stand r → PassGoes r (1 + i) (after_runner r i)
unfolding after_runner
runner_goes r i l h =
    let s = r.state in
    let one = lease_back s i (lease_at r i) in
    let mid = after_all s one in
    let two = chosen mid (1 + i) in
    let last = after_all mid two in
    let a = back_good s i (lease_at r i) h.fine (h.leases i) in
    let b = chosen_good mid (1 + i) in
    let joined = good_append s one two a b in
    let of = of_append (1 + i) one two (back_of s i (lease_at r i)) (chosen_of mid (1 + i)) in
    let whole : last ≡ after_all s (one ++ two) = sym (after_append s one two) in
    let count : cpu_count last.machine ≡ cpu_count s.machine = cpus_all mid two ∙ cpus_all s one in
    let long : i < length r.leased = (let e = h.leased in omega (arith, e, l)) in
    let here : slice_index_or (slice_set r.leased i (run_outside last i)) i no_lease ≡ run_outside last i = get_or-set_same r.leased i (run_outside last i) no_lease long in
    record {
      entries = one ++ two;
      state = whole;
      history = append_assoc r.history one two;
      good = joined;
      of = of;
      control = λ e. absurd (omega (arith, e));
      stand = record {
        fine = fine_all mid two (fine_all s one h.fine a) b;
        leased = length-set r.leased i (run_outside last i) ∙ h.leased ∙ sym count;
        answered = h.answered ∙ sym (passes_all mid two ∙ passes_all s one);
        leases = λ k. (elim (cases_eq k i) [
          | inl same ↦ subst (λ (j : ℕ). LeaseFits last j (slice_index_or (slice_set r.leased i (run_outside last i)) j no_lease)) (sym same) (subst (λ (x : Lease). LeaseFits last i x) (sym here) (outside_fits last i))
          | inr other ↦
              subst (λ (x : Lease). LeaseFits last k x) (sym (get_or-set_other r.leased i k (run_outside last i) no_lease other))
              (subst (λ (t : State). LeaseFits t k (lease_at r k)) (sym whole)
              (leases_all s (1 + i) (one ++ two) k (lease_at r k) h.fine joined of (is_other (1 + i) k (λ e. other (omega (arith, e)))) (h.leases k)))
        ]);
      };
      leases = λ k ne. get_or-set_other r.leased i k (run_outside last i) no_lease (λ e. ne (omega (arith, e)));
      answers = λ q ne. refl;
      quiet = λ e.
          let n = both_none one two e in
          let same : mid ≡ s = same_state s one n.0 in
          record {
            none = ap (λ (t : State). chosen t (1 + i)) (sym same) ∙ n.1;
            back = λ k z m. (let j : k ≡ i = omega (arith, z) in subst (λ (w : ℕ). lease_back s w (lease_at r w) ≡ []) (sym j) n.0);
            out = λ k z m. (let j : k ≡ i = omega (arith, z) in subst (λ (w : ℕ). slice_index_or (slice_set r.leased i (run_outside last i)) w no_lease ≡ run_outside s w) (sym j) (here ∙ ap (λ (t : State). run_outside t i) (same_state mid two n.1 ∙ same)));
            put = λ m. absurd (omega (arith, m, l));
            gone = λ m w z. absurd (omega (arith, m, l));
          };
    }

-- ---- a worker

-- what gone_out leaves, and that an answer stands where an image is out
record Gone (r : Rounds) (p : ℕ) (o : Option ℕ) (t : Rounds) : Type 0 where
  state : t.state ≡ r.state
  history : t.history ≡ r.history
  leased : t.leased ≡ r.leased
  answered : length t.answered ≡ length r.answered
  answers : (q : ℕ) → q ≢ p → answer_at t q ≡ answer_at r q
  stands : p < length r.answered → is_some o ≡ true → is_some (answer_at t p) ≡ true

set_gone : (r : Rounds) (p : ℕ) (o : Option ℕ) (x : Option Bool) (calls : List Bool) → (is_some o ≡ true → is_some x ≡ true) → Gone r p o (record r { answered = slice_set r.answered p x; calls = calls })
set_gone r p o x calls h = record {
  state = refl;
  history = refl;
  leased = refl;
  answered = length-set r.answered p x;
  answers = λ q ne. get_or-set_other r.answered p q x None ne;
  stands = λ l m. ap (λ (y : Option Bool). is_some y) (get_or-set_same r.answered p x None l) ∙ h m;
}

call_gone : (r : Rounds) (p d : ℕ) (calls : List Bool) → Gone r p (Some d) (call_answered r p calls)
call_gone r p d [] = set_gone r p (Some d) (Some true) r.calls (λ h. refl)
call_gone r p d (ok ∷ calls) = set_gone r p (Some d) (Some ok) calls (λ h. refl)

worker_gone : (r : Rounds) (p : ℕ) (o : Option ℕ) → Gone r p o (worker_out r p o)
worker_gone r p None = set_gone r p None None r.calls (λ h. absurd (true≢false (sym h)))
worker_gone r p (Some d) = call_gone r p d r.calls

past_none : (r : Rounds) (k : ℕ) → length r.leased ≡ cpu_count r.state.machine → cpu_count r.state.machine ≤ k → (lease_at r k).ran ≡ 0
past_none r k e l = ap (λ (x : Lease). x.ran) (get_or_past r.leased k no_lease (omega (arith, e, l)))

-- a lease while a worker's entries come
lease_other : (s : State) (p : ℕ) (xs : List Signed) (k : ℕ) (y : Lease) → cpu_count s.machine < p → Fine s → AreGood s xs → AreOf p xs → (cpu_count s.machine ≤ k → y.ran ≡ 0) → LeaseFits s k y → LeaseFits (after_all s xs) k y
lease_other s p xs k y l f g o none h =
    elim (cases_lt k (cpu_count s.machine)) [
      | inl inside ↦ leases_all s p xs k y f g o (is_other p k (λ e. omega (arith, e, l, inside))) h
      | inr past ↦ inl (none past)
    ]

worker_goes : (r : Rounds) (p : ℕ) → cpu_count r.state.machine < p → Stand r → PassGoes r p (after_worker r p)
unfolding after_worker
worker_goes r p l h =
    let s = r.state in
    let one = put_back s p (held_by s p) (answer_at r p) in
    let mid = after_all s one in
    let two = chosen mid p in
    let last = after_all mid two in
    let a = put_good s p (answer_at r p) h.fine in
    let b = chosen_good mid p in
    let joined = good_append s one two a b in
    let of = of_append p one two (put_of s p (held_by s p) (answer_at r p)) (chosen_of mid p) in
    let whole : last ≡ after_all s (one ++ two) = sym (after_append s one two) in
    let before : Rounds = choose (added r one) p in
    let g : Gone before p (held_by last p) (gone_out before p) = worker_gone before p (held_by last p) in
    let end : State = (gone_out before p).state in
    let still : end ≡ last = g.state in
    let count : cpu_count last.machine ≡ cpu_count s.machine = cpus_all mid two ∙ cpus_all s one in
    record {
      entries = one ++ two;
      state = still ∙ whole;
      history = g.history ∙ append_assoc r.history one two;
      good = joined;
      of = of;
      control = λ e. absurd (omega (arith, e, l));
      stand = record {
        fine = subst (λ (t : State). Fine t) (sym still) (fine_all mid two (fine_all s one h.fine a) b);
        leased = ap (λ (xs : List Lease). length xs) g.leased ∙ h.leased ∙ sym count ∙ ap (λ (t : State). cpu_count t.machine) (sym still);
        answered = g.answered ∙ h.answered ∙ sym (passes_all mid two ∙ passes_all s one) ∙ ap (λ (t : State). pass_count t.machine) (sym still);
        leases = λ k. subst (λ (xs : List Lease). LeaseFits end k (slice_index_or xs k no_lease)) (sym g.leased)
            (subst (λ (t : State). LeaseFits t k (lease_at r k)) (sym (still ∙ whole))
            (lease_other s p (one ++ two) k (lease_at r k) l h.fine joined of (past_none r k h.leased) (h.leases k)));
      };
      leases = λ k ne. ap (λ (xs : List Lease). slice_index_or xs k no_lease) g.leased;
      answers = λ q ne. g.answers q ne;
      quiet = λ e.
          let n = both_none one two e in
          let same : mid ≡ s = same_state s one n.0 in
          let all : last ≡ s = same_state mid two n.1 ∙ same in
          record {
            none = ap (λ (t : State). chosen t p) (sym same) ∙ n.1;
            back = λ k z m. absurd (omega (arith, z, m, l));
            out = λ k z m. absurd (omega (arith, z, m, l));
            put = λ m. n.0;
            gone = λ m w t. g.stands (let e2 = h.answered in omega (arith, w, e2)) (ap (λ (u : State). is_some (held_by u p)) all ∙ t);
          };
    }

-- ---- a pass

goes_as : (r : Rounds) (p : ℕ) (a b : Bool) → (p == 0) ≡ a → nat_le p (cpu_count r.state.machine) ≡ b → Stand r → PassGoes r p (if a then choose r 0 else if b then after_runner r (p - 1) else after_worker r p)
goes_as r p true b e f h = let z : 0 ≡ p = grind (arith, nat_tests, e) in subst (λ (k : ℕ). PassGoes r k (choose r 0)) z (control_goes r h)
goes_as r p false true e f h =
    let some : 0 < p = grind (arith, nat_tests, e) in
    let most : p ≤ cpu_count r.state.machine = grind (arith, nat_tests, f) in
    let z : 1 + (p - 1) ≡ p = omega arith in
    subst (λ (k : ℕ). PassGoes r k (after_runner r (p - 1))) z (runner_goes r (p - 1) (omega arith) h)
goes_as r p false false e f h = worker_goes r p (grind (arith, nat_tests, f)) h

pub pass_goes : (r : Rounds) (p : ℕ) → Stand r → PassGoes r p (after_pass r p)
unfolding after_pass
pass_goes r p h = goes_as r p _ _ refl refl h

-- ---- the passes below n

pub record Quiet (r : Rounds) (n : ℕ) (t : Rounds) : Type 0 where
  pub none : (p : ℕ) → p < n → chosen r.state p ≡ []
  pub back : (i : ℕ) → 1 + i < n → i < cpu_count r.state.machine → lease_back r.state i (lease_at r i) ≡ []
  pub out : (i : ℕ) → 1 + i < n → i < cpu_count r.state.machine → lease_at t i ≡ run_outside r.state i
  pub put : (p : ℕ) → p < n → cpu_count r.state.machine < p → put_back r.state p (held_by r.state p) (answer_at r p) ≡ []
  pub gone : (p : ℕ) → p < n → cpu_count r.state.machine < p → p < pass_count r.state.machine → is_some (held_by r.state p) ≡ true → is_some (answer_at t p) ≡ true

pub record PassesGo (r : Rounds) (n : ℕ) (t : Rounds) : Type 0 where
  pub entries : List Signed
  pub state : t.state ≡ after_all r.state entries
  pub history : t.history ≡ r.history ++ entries
  pub good : AreGood r.state entries
  pub empty : n ≡ 0 → entries ≡ []
  pub first : 0 < n → (rest : List Signed) × (entries ≡ chosen r.state 0 ++ rest) × AreOver rest
  pub stand : Stand t
  pub leases : (i : ℕ) → n ≤ 1 + i → lease_at t i ≡ lease_at r i
  pub answers : (q : ℕ) → n ≤ q → answer_at t q ≡ answer_at r q
  pub quiet : entries ≡ [] → Quiet r n t

more_quiet : (r : Rounds) (n : ℕ) (mid t : Rounds) → mid.state ≡ r.state → ((i : ℕ) → n ≤ 1 + i → lease_at mid i ≡ lease_at r i) → ((q : ℕ) → n ≤ q → answer_at mid q ≡ answer_at r q)
    → ((i : ℕ) → n ≢ 1 + i → lease_at t i ≡ lease_at mid i) → ((q : ℕ) → q ≢ n → answer_at t q ≡ answer_at mid q) → Quiet r n mid → PassQuiet mid n t → Quiet r (suc n) t
more_quiet r n mid t same leases answers later others a b =
    let count : cpu_count mid.state.machine ≡ cpu_count r.state.machine = ap (λ (s : State). cpu_count s.machine) same in
    let passes : pass_count mid.state.machine ≡ pass_count r.state.machine = ap (λ (s : State). pass_count s.machine) same in
    record {
      none = λ p l. elim (cases_eq p n) [
        | inl e ↦ subst (λ (k : ℕ). chosen r.state k ≡ []) (sym e) (ap (λ (s : State). chosen s n) (sym same) ∙ b.none)
        | inr ne ↦ a.none p (omega (arith, l, ne))
      ];
      back = λ i l m. elim (cases_eq n (1 + i)) [
        | inl e ↦ ap (λ (s : State). lease_back s i (lease_at r i)) (sym same) ∙ ap (λ (x : Lease). lease_back mid.state i x) (sym (leases i (omega (arith, e)))) ∙ b.back i e (omega (arith, m, count))
        | inr ne ↦ a.back i (omega (arith, l, ne)) m
      ];
      out = λ i l m. elim (cases_eq n (1 + i)) [
        | inl e ↦ b.out i e (omega (arith, m, count)) ∙ ap (λ (s : State). run_outside s i) same
        | inr ne ↦ later i ne ∙ a.out i (omega (arith, l, ne)) m
      ];
      put = λ p l m. elim (cases_eq p n) [
        | inl e ↦ subst (λ (k : ℕ). put_back r.state k (held_by r.state k) (answer_at r k) ≡ []) (sym e)
            (ap (λ (s : State). put_back s n (held_by s n) (answer_at r n)) (sym same) ∙ ap (λ (x : Option Bool). put_back mid.state n (held_by mid.state n) x) (sym (answers n (omega arith))) ∙ b.put (omega (arith, m, count, e)))
        | inr ne ↦ a.put p (omega (arith, l, ne)) m
      ];
      gone = λ p l m w z. elim (cases_eq p n) [
        | inl e ↦ subst (λ (k : ℕ). is_some (answer_at t k) ≡ true) (sym e) (b.gone (omega (arith, m, count, e)) (omega (arith, w, passes, e)) (ap (λ (s : State). is_some (held_by s n)) same ∙ subst (λ (k : ℕ). is_some (held_by r.state k) ≡ true) e z))
        | inr ne ↦ ap (λ (x : Option Bool). is_some x) (others p ne) ∙ a.gone p (omega (arith, l, ne)) m w z
      ];
    }

-- control's entry comes first
first_more : (r : Rounds) (n : ℕ) (mid : Rounds) (xs ys : List Signed) → mid.state ≡ after_all r.state xs → (n ≡ 0 → xs ≡ []) → (0 < n → (rest : List Signed) × (xs ≡ chosen r.state 0 ++ rest) × AreOver rest) → AreOf n ys → (n ≡ 0 → ys ≡ chosen mid.state 0)
    → (rest : List Signed) × (xs ++ ys ≡ chosen r.state 0 ++ rest) × AreOver rest
first_more r n mid xs ys state empty first of control =
    elim (cases_lt 0 n) [
      | inl some ↦
          let f = first some in
          (f.0 ++ ys, ap (λ (zs : List Signed). zs ++ ys) f.1 ∙ append_assoc (chosen r.state 0) f.0 ys, over_append f.0 ys f.2 (over_from n ys some of))
      | inr none ↦
          let z : n ≡ 0 = omega (arith, none) in
          let same : mid.state ≡ r.state = state ∙ same_state r.state xs (empty z) in
          ([], ap (λ (zs : List Signed). zs ++ ys) (empty z) ∙ control z ∙ ap (λ (t : State). chosen t 0) same ∙ sym (append-nil (chosen r.state 0)), tt)
    ]

pub passes_go : (r : Rounds) (n : ℕ) → Stand r → PassesGo r n (after_passes r n)
passes_go r zero h = record {
  entries = [];
  state = refl;
  history = sym (append-nil r.history);
  good = tt;
  empty = λ e. refl;
  first = λ l. absurd (omega (arith, l));
  stand = h;
  leases = λ i l. refl;
  answers = λ q l. refl;
  quiet = λ e. record {
    none = λ p l. absurd (omega (arith, l));
    back = λ i l m. absurd (omega (arith, l));
    out = λ i l m. absurd (omega (arith, l));
    put = λ p l m. absurd (omega (arith, l));
    gone = λ p l m w z. absurd (omega (arith, l));
  };
}
passes_go r (suc n) h =
    let a = passes_go r n h in
    let mid = after_passes r n in
    let b = pass_goes mid n a.stand in
    let good = subst (λ (s : State). AreGood s b.entries) a.state b.good in
    record {
      entries = a.entries ++ b.entries;
      state = b.state ∙ ap (λ (s : State). after_all s b.entries) a.state ∙ sym (after_append r.state a.entries b.entries);
      history = b.history ∙ ap (λ (xs : List Signed). xs ++ b.entries) a.history ∙ append_assoc r.history a.entries b.entries;
      good = good_append r.state a.entries b.entries a.good good;
      empty = λ e. absurd (omega (arith, e));
      first = λ l. first_more r n mid a.entries b.entries a.state a.empty a.first b.of b.control;
      stand = b.stand;
      leases = λ i l. b.leases i (λ e. omega (arith, e, l)) ∙ a.leases i (omega (arith, l));
      answers = λ q l. b.answers q (λ e. omega (arith, e, l)) ∙ a.answers q (omega (arith, l));
      quiet = λ e.
          let z = both_none a.entries b.entries e in
          more_quiet r n mid (after_pass mid n) (a.state ∙ same_state r.state a.entries z.0) a.leases a.answers b.leases b.answers (a.quiet z.0) (b.quiet z.1);
    }
