-- Reading values one after the other, as a loop does.
use Rattle.std.proofs.Common.{◌≡◌, ℕ, suc, ◌-◌, ◌+◌, ◌≤◌, ◌<◌, List, [], ◌∷◌, ◌++◌, Ok, Err, refl, sym, ap, ◌∙◌, append_assoc, arith}
use Rattle.std.proofs.lemmas.List.{append-nil}
use Rattle.byte_reader.specs.declared.reading.ReadError.{ReadError}
use Rattle.byte_reader.specs.declared.reading.ReadError.TheVariants as errors
use Rattle.byte_reader.specs.declared.reading.Refusal.{Refusal}
use Rattle.byte_reader.specs.Reader.{Read, Reader, then_read, pure, times, Fails}

-- what was read before, and what is still read
abbrev pub with_front : {K A : Type 0} → List A → Read (Refusal K) (List A) → Read (Refusal K) (List A)
with_front front read = then_read (λ others. pure (front ++ others)) read

regroup : {K A : Type 0} (front : List A) (n : A) (read : Read (Refusal K) (List A)) → with_front front (then_read (λ others. pure (n ∷ others)) read) ≡ with_front (front ++ n ∷ []) read
regroup {K} {A} front n (Ok x) = ap (λ (ns : List A). Ok (ns, x.1)) (simp append_assoc)
regroup front n (Err f) = refl

pub goes_on : {K A : Type 0} (r : Reader (Refusal K) A) (front : List A) (count i : ℕ) (bytes : List ℕ) (n : A) (after : List ℕ) (total : Read (Refusal K) (List A)) → i < count → r bytes ≡ Ok (n, after)
    → with_front front (times (count - i) r bytes) ≡ total → with_front (front ++ n ∷ []) (times (count - (i + 1)) r after) ≡ total
unfolding times
goes_on r front count i bytes n after total lt h so_far =
    let k : count - i ≡ suc (count - (i + 1)) = omega arith in
    let one : with_front front (times (count - i) r bytes) ≡ with_front (front ++ n ∷ []) (times (count - (i + 1)) r after) = rw (k, h) (regroup front n (times (count - (i + 1)) r after)) in
    sym one ∙ so_far

pub ends : {K A : Type 0} (e : ReadError K) (r : Reader (Refusal K) A) (front : List A) (count i : ℕ) (bytes : List ℕ) (total : Read (Refusal K) (List A)) → i < count → Fails e (r bytes)
    → with_front front (times (count - i) r bytes) ≡ total → Fails e total
unfolding times
ends errors.Memory r front count i bytes total lt h so_far = tt
ends (errors.Refused f) r front count i bytes total lt h so_far =
    let k : count - i ≡ suc (count - (i + 1)) = omega arith in
    let one : with_front front (times (count - i) r bytes) ≡ Err f = rw (k, h) refl in
    sym so_far ∙ one

pub is_done : {K A : Type 0} (r : Reader (Refusal K) A) (front : List A) (count i : ℕ) (bytes : List ℕ) (total : Read (Refusal K) (List A)) → count ≤ i → with_front front (times (count - i) r bytes) ≡ total → total ≡ Ok (front, bytes)
unfolding times
is_done {K} {A} r front count i bytes total le so_far =
    let k : count - i ≡ 0 = omega arith in
    let one : with_front front (times (count - i) r bytes) ≡ Ok (front, bytes) = rw k (ap (λ (ns : List A). Ok (ns, bytes)) (append-nil front)) in
    sym so_far ∙ one
