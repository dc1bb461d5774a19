-- How many vectors aren't requested: no entry but Enter raises it, and Enter by one at most.
use Rattle.std.specs.Prelude.{Option, Some, None, ◌==◌, ◌&&◌, nat_lt}
use Rattle.std.proofs.Common.{◌≡◌, ◌⊎◌, ℕ, zero, suc, ◌+◌, ◌<◌, ◌≤◌, Bool, true, false, not, refl, sym, ap, ◌∙◌, inl, inr, arith}
use Rattle.std.proofs.lemmas.Bool.{cases_lt, cases_eq, true≢false}
use Rattle.std.proofs.lemmas.Bool.Decides.{nat_tests}
use Rattle.vm_law.specs.declared.journal.Entry.{Entry}
use Rattle.vm_law.specs.declared.journal.Entry.TheVariants.{Enter}
use Rattle.vm_law.specs.declared.journal.Signed.{Signed}
use Rattle.vm_lapic.specs.Apic.{ready}
use Rattle.vm_state.specs.declared.cpu.Cpu.{Cpu}
use Rattle.vm_state.specs.Machine.{cpu_at, cpu_count, takes_nmi, takes_vector}
use Rattle.vm_state.specs.State.{State}
use Rattle.vm_table.specs.Table.{after, lawful}
use Rattle.vm_table.proofs.Plan.{after_cpus}
use Rattle.vm_laws.specs.Counting.{one_if}
use Rattle.vm_laws.specs.Ending.{sum_below}
use Rattle.vm_laws.specs.Entries.{is_enter, is_enter_of}
use Rattle.vm_laws.specs.Vectors.{is_requested, is_vector, services, takes}
use Rattle.vm_laws.proofs.Sums.{sum_le, sum_less}
use Rattle.vm_rounds.proofs.Taking.{after_still}

-- there are 256 vectors
unfoldable pub vectors : ℕ
vectors = 256

pub below_vectors : (v : ℕ) → v < 256 → v < vectors
unfolding vectors
below_vectors v l = l

-- ---- sums

pub sum_add : (f g : ℕ → ℕ) (n : ℕ) → sum_below (λ k. f k + g k) n ≡ sum_below f n + sum_below g n
sum_add f g zero = refl
sum_add f g (suc n) = let a = sum_add f g n in omega (arith, a)

sum_none : (f : ℕ → ℕ) (n : ℕ) → ((k : ℕ) → f k ≡ 0) → sum_below f n ≡ 0
sum_none f zero h = refl
sum_none f (suc n) h = let a = sum_none f n h in let b = h n in omega (arith, a, b)

one_more_below : (w n : ℕ) → one_if (nat_lt w n) + one_if (w == n) ≡ one_if (nat_lt w (suc n))
one_more_below w n =
    elim (cases_lt w n) [
      | inl l ↦
          let a : nat_lt w n ≡ true = grind (arith, nat_tests) in
          let b : (w == n) ≡ false = grind (arith, nat_tests) in
          let c : nat_lt w (suc n) ≡ true = grind (arith, nat_tests) in
          rw (a, b, c) refl
      | inr m ↦
          let a : nat_lt w n ≡ false = grind (arith, nat_tests) in
          elim (cases_eq w n) [
            | inl e ↦
                let b : (w == n) ≡ true = grind (arith, nat_tests) in
                let c : nat_lt w (suc n) ≡ true = grind (arith, nat_tests) in
                rw (a, b, c) refl
            | inr ne ↦
                let b : (w == n) ≡ false = grind (arith, nat_tests) in
                let c : nat_lt w (suc n) ≡ false = grind (arith, nat_tests) in
                rw (a, b, c) refl
          ]
    ]

sum_point : (w n : ℕ) → sum_below (λ v. one_if (w == v)) n ≡ one_if (nat_lt w n)
sum_point w zero = let a : nat_lt w 0 ≡ false = grind (arith, nat_tests) in sym (ap one_if a)
sum_point w (suc n) = ap (λ (m : ℕ). m + one_if (w == n)) (sum_point w n) ∙ one_more_below w n

one_most : (b : Bool) → one_if b ≤ 1
one_most true = omega arith
one_most false = omega arith

pub point_most : (w n : ℕ) → sum_below (λ v. one_if (w == v)) n ≤ 1
point_most w n = let a = sum_point w n in let b = one_most (nat_lt w n) in omega (arith, a, b)

-- ---- what an entry services

abbrev served : State → Signed → ℕ → ℕ
served s x k = sum_below (λ v. one_if (services k v s x)) vectors

takes_one : (c : Cpu) (o : Option ℕ) → sum_below (λ v. one_if (not (takes_nmi c) && takes_vector c && is_vector v o)) vectors ≤ 1
takes_one c None = let a = sum_none (λ v. one_if (not (takes_nmi c) && takes_vector c && false)) vectors (λ k. zero_of (not (takes_nmi c) && takes_vector c)) in omega (arith, a)
  where
    zero_of : (b : Bool) → one_if (b && false) ≡ 0
    zero_of true = refl
    zero_of false = refl
takes_one c (Some w) =
    let a = sum_le (λ v. one_if (not (takes_nmi c) && takes_vector c && (w == v))) (λ v. one_if (w == v)) vectors (λ k l. less_of (not (takes_nmi c) && takes_vector c) (w == k)) in
    let b = point_most w vectors in
    omega (arith, a, b)
  where
    less_of : (a b : Bool) → one_if (a && b) ≤ one_if b
    less_of true b = omega arith
    less_of false true = omega arith
    less_of false false = omega arith

gated : (b : Bool) (f : ℕ → Bool) (n m : ℕ) → sum_below (λ v. one_if (f v)) n ≤ m → sum_below (λ v. one_if (b && f v)) n ≤ one_if b + m
gated true f n m h = omega (arith, h)
gated false f n m h = let a = sum_none (λ v. one_if (false && f v)) n (λ k. refl) in omega (arith, a)

gated_none : (f : ℕ → Bool) (n : ℕ) → sum_below (λ v. one_if (false && f v)) n ≡ 0
gated_none f n = sum_none (λ v. one_if (false && f v)) n (λ k. refl)

gated_one : (b : Bool) (f : ℕ → Bool) (n : ℕ) → sum_below (λ v. one_if (f v)) n ≤ 1 → sum_below (λ v. one_if (b && f v)) n ≤ one_if b
gated_one true f n h = h
gated_one false f n h = let a = gated_none f n in omega (arith, a)

entry_served : (s : State) (e : Entry) (n : ℕ) → sum_below (λ k. sum_below (λ v. one_if (is_enter_of k e && takes (cpu_at s.machine k) v)) vectors) n ≤ one_if (is_enter e)
entry_served s (Enter j grant) n =
    let a = sum_le (λ k. sum_below (λ v. one_if ((j == k) && takes (cpu_at s.machine k) v)) vectors) (λ k. one_if (j == k)) n
    (λ k l. gated_one (j == k) (λ v. takes (cpu_at s.machine k) v) vectors (takes_one (cpu_at s.machine k) (ready (cpu_at s.machine k).lapic))) in
    let b = point_most j n in
    omega (arith, a, b)
entry_served s e n = let a = sum_none (λ k. sum_below (λ v. one_if (false && takes (cpu_at s.machine k) v)) vectors) n (λ k. gated_none (λ v. takes (cpu_at s.machine k) v) vectors) in omega (arith, a)

serves_one : (s : State) (x : Signed) (n : ℕ) → sum_below (served s x) n ≤ one_if (is_enter x.entry)
unfolding services
serves_one s x n = entry_served s x.entry n

-- ---- the vectors that aren't requested

abbrev clear_at : State → ℕ → ℕ → ℕ
clear_at s k v = one_if (not (is_requested s.machine k v))

abbrev clear_of : State → ℕ → ℕ
clear_of s k = sum_below (clear_at s k) vectors

unfoldable pub bits : State → ℕ
bits s = sum_below (clear_of s) (cpu_count s.machine)

clear_by : (a b c : Bool) → (a ≡ true → (b ≡ true) ⊎ (c ≡ true)) → one_if (not b) ≤ one_if (not a) + one_if c
clear_by true true c h = omega arith
clear_by true false true h = omega arith
clear_by true false false h = elim (h refl) [ inl x ↦ absurd (true≢false (sym x)) | inr y ↦ absurd (true≢false (sym y)) ]
clear_by false true c h = omega arith
clear_by false false c h = omega arith

clear_less : (s : State) (x : Signed) (k v : ℕ) → lawful s x.by x.entry ≡ true → clear_at (after s x) k v ≤ clear_at s k v + one_if (services k v s x)
clear_less s x k v m = clear_by (is_requested s.machine k v) (is_requested (after s x).machine k v) (services k v s x) (λ h. after_still s x k v m h)

clear_sum : (s : State) (x : Signed) (k : ℕ) → lawful s x.by x.entry ≡ true → clear_of (after s x) k ≤ clear_of s k + served s x k
clear_sum s x k m =
    let a = sum_le (clear_at (after s x) k) (λ v. clear_at s k v + one_if (services k v s x)) vectors (λ v l. clear_less s x k v m) in
    let b = sum_add (clear_at s k) (λ v. one_if (services k v s x)) vectors in
    omega (arith, a, b)

pub bits_le : (s : State) (x : Signed) → lawful s x.by x.entry ≡ true → bits (after s x) ≤ bits s + one_if (is_enter x.entry)
unfolding bits
bits_le s x m =
    let n = cpu_count s.machine in
    let a = sum_le (clear_of (after s x)) (λ k. clear_of s k + served s x k) n (λ k l. clear_sum s x k m) in
    let b = sum_add (clear_of s) (served s x) n in
    let c = serves_one s x n in
    let d : sum_below (clear_of (after s x)) (cpu_count (after s x).machine) ≡ sum_below (clear_of (after s x)) n = ap (λ (w : ℕ). sum_below (clear_of (after s x)) w) (after_cpus s x) in
    omega (arith, a, b, c, d)

-- one that wasn't requested is
pub bits_less : (s : State) (x : Signed) (i v : ℕ) → lawful s x.by x.entry ≡ true → is_enter x.entry ≡ false → i < cpu_count s.machine → v < vectors
    → is_requested s.machine i v ≡ false → is_requested (after s x).machine i v ≡ true → bits (after s x) < bits s
unfolding bits services
bits_less s x i v m ne l w was now =
    let n = cpu_count s.machine in
    let none : (k u : ℕ) → one_if (services k u s x) ≡ 0 = λ k u. ap one_if (no_service s x.entry k u ne) in
    let each : (k : ℕ) → clear_of (after s x) k ≤ clear_of s k = λ k. sum_le (clear_at (after s x) k) (clear_at s k) vectors (λ u b. let a = clear_less s x k u m in let z = none k u in omega (arith, a, z)) in
    let here : clear_at (after s x) i v < clear_at s i v = rw (was, now) (omega arith) in
    let less = sum_less (clear_at (after s x) i) (clear_at s i) vectors v w here (λ u b. let a = clear_less s x i u m in let z = none i u in omega (arith, a, z)) in
    let a = sum_less (clear_of (after s x)) (clear_of s) n i l less (λ k b. each k) in
    let d : sum_below (clear_of (after s x)) (cpu_count (after s x).machine) ≡ sum_below (clear_of (after s x)) n = ap (λ (y : ℕ). sum_below (clear_of (after s x)) y) (after_cpus s x) in
    omega (arith, a, d)
  where
    no_service : (s : State) (e : Entry) (k u : ℕ) → is_enter e ≡ false → (is_enter_of k e && takes (cpu_at s.machine k) u) ≡ false
    no_service s (Enter j grant) k u h = absurd (true≢false h)
    no_service s e k u h = refl
