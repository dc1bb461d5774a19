-- What is read is spelled so, and what is spelled so is read again.
use Rattle.std.proofs.Common.{◌≡◌, ℕ, ◌+◌, ◌^◌, ◌<◌, ◌≤◌, Bool, true, false, cond, ltb, List, ◌++◌, length, take, drop, Ok, Err, refl, sym, ap, subst, ◌∙◌, append_assoc, arith}
use Rattle.std.proofs.lemmas.Bool.{ltb-false, le-ltb}
use Rattle.std.proofs.lemmas.List.{drop_at, take-append-drop, length-append, get_or-drop}
use Rattle.byteorder.specs.Endian.{little_number, little_bytes}
use Rattle.byteorder.specs.Numbers.{little_number-reads_back, little_from-lt, length-bytes_low_first}
use Rattle.byte_reader.specs.Reader.{Read, Reader, fault_at, then_read, ◌>>=◌, pure, number, with1, with2, with3}
use Rattle.vm_law.proofs.Numbers.{IsBytes, bytes_of_number}

-- y stands at the front of the bytes, spelled by text, and rest follows
pub record Takes (bytes text rest : List ℕ) : Type 0 where
  pub parts : bytes ≡ text ++ rest
  pub rest_fits : IsBytes rest

-- a reader of values that are spelled by text
pub record Reads {E Y : Type 0} (r : Reader E Y) (text : Y → List ℕ) (fits : Y → Type 0) : Type 0 where
  pub takes : (bytes : List ℕ) (y : Y) (rest : List ℕ) → IsBytes bytes → r bytes ≡ Ok (y, rest) → Takes bytes (text y) rest × fits y
  pub again : (y : Y) (rest : List ℕ) → fits y → r (text y ++ rest) ≡ Ok (y, rest)

pub then_ok : {E A B : Type 0} (read : Read E A) (f : A → Reader E B) (y : B) (rest : List ℕ) → then_read f read ≡ Ok (y, rest) → (x : A) × (mid : List ℕ) × (read ≡ Ok (x, mid)) × (f x mid ≡ Ok (y, rest))
then_ok (Ok p) f y rest e = (p.0, p.1, refl, e)
then_ok (Err d) f y rest e = absurd cc

pub Takes-then : (a x b y c : List ℕ) → Takes a x b → Takes b y c → Takes a (x ++ y) c
Takes-then a x b y c p q = record { parts = p.parts ∙ ap (λ (t : List ℕ). x ++ t) q.parts ∙ sym (append_assoc x y c); rest_fits = q.rest_fits }

abbrev pub done : {E A : Type 0} → A → List ℕ → Read E A
done x rest = Ok (x, rest)

pub done_is : {E A : Type 0} (x y : A) (r s : List ℕ) → done {E = E} x r ≡ done y s → (x ≡ y) × (r ≡ s)
done_is {E} {A} x y r s e =
    let pair : (x, r) ≡ (y, s) = cc in
    (ap (λ (p : A × List ℕ). p.0) pair, ap (λ (p : A × List ℕ). p.1) pair)

IsBytes-drop : (n : ℕ) (bytes : List ℕ) → IsBytes bytes → IsBytes (drop n bytes)
IsBytes-drop n bytes h i = rw get_or-drop (h (n + i))

-- ---- numbers

pub number_reads : {K : Type 0} (short : K) (n : ℕ) → Reads (number short n) (little_bytes n) (λ x. x < 256 ^ n)
number_reads short n = record {
  takes = λ bytes y rest fits e. number_takes short n bytes y rest fits e;
  again = λ y rest lt.
      let len : length (little_bytes n y) ≡ n = length-bytes_low_first 0 n y in
      let long : ltb (length (little_bytes n y ++ rest)) n ≡ false = le-ltb _ _ (omega (arith, length-append (little_bytes n y) rest)) in
      rw (long, little_number-reads_back n y rest lt, drop_at (little_bytes n y) rest n len) refl;
}
  where
    number_takes : {K : Type 0} (short : K) (n : ℕ) (bytes : List ℕ) (y : ℕ) (rest : List ℕ) → IsBytes bytes → number short n bytes ≡ Ok (y, rest) → Takes bytes (little_bytes n y) rest × (y < 256 ^ n)
    number_takes short n bytes y rest fits e = go (ltb (length bytes) n) refl e
      where
        go : (b : Bool) → ltb (length bytes) n ≡ b → cond b (fault_at short bytes) (Ok (little_number n bytes, drop n bytes)) ≡ Ok (y, rest) → Takes bytes (little_bytes n y) rest × (y < 256 ^ n)
        go true is e = absurd cc
        go false is e =
            let long : n ≤ length bytes = ltb-false _ _ is in
            let both = done_is (little_number n bytes) y (drop n bytes) rest e in
            let y-is : little_number n bytes ≡ y = both.0 in
            let rest-is : drop n bytes ≡ rest = both.1 in
            let front : little_bytes n y ≡ take n bytes = rw (← y-is) (bytes_of_number n bytes fits long) in (
              record { parts = rw (front, ← rest-is) (sym (take-append-drop n bytes)); rest_fits = rw (← rest-is) (IsBytes-drop n bytes fits) },
              rw (← y-is) (little_from-lt 0 n bytes fits),
            )

-- ---- several fields

-- what a reader of a variant gives: its fields, and their text
pub record Made {X Y : Type 0} (make : X → Y) (text : X → List ℕ) (fits : X → Type 0) (bytes : List ℕ) (y : Y) (rest : List ℕ) : Type 0 where
  pub fields : X
  pub is : y ≡ make fields
  pub front : Takes bytes (text fields) rest
  pub each_fits : fits fields

module _ {E A Y : Type 0} (a : Reader E A) (ta : A → List ℕ) (fa : A → Type 0) (ra : Reads a ta fa) (make : A → Y) where
  pub with1_takes : (bytes : List ℕ) (y : Y) (rest : List ℕ) → IsBytes bytes → with1 make a bytes ≡ Ok (y, rest) → Made make ta fa bytes y rest
  with1_takes bytes y rest fits e =
      let s = then_ok (a bytes) (λ x. pure (make x)) y rest e in
      let t = ra.takes bytes s.0 s.1 fits s.2 in
      let both = done_is (make s.0) y s.1 rest s.3 in
      let end : s.1 ≡ rest = both.1 in
      record { fields = s.0; is = sym both.0; front = subst (λ (r : List ℕ). Takes bytes (ta s.0) r) end t.0; each_fits = t.1 }

  pub with1_again : (x : A) (rest : List ℕ) → fa x → with1 make a (ta x ++ rest) ≡ Ok (make x, rest)
  with1_again x rest fx = let e = ra.again x rest fx in rw e refl

module _ {E A B Y : Type 0} (a : Reader E A) (ta : A → List ℕ) (fa : A → Type 0) (ra : Reads a ta fa) (b : Reader E B) (tb : B → List ℕ) (fb : B → Type 0) (rb : Reads b tb fb) (make : A → B → Y) where
  pub with2_takes : (bytes : List ℕ) (y : Y) (rest : List ℕ) → IsBytes bytes → with2 make a b bytes ≡ Ok (y, rest)
      → Made {X = A × B} (λ p. make p.0 p.1) (λ p. ta p.0 ++ tb p.1) (λ p. fa p.0 × fb p.1) bytes y rest
  with2_takes bytes y rest fits e =
      let s = then_ok (a bytes) (λ x. b >>= λ z. pure (make x z)) y rest e in
      let t = ra.takes bytes s.0 s.1 fits s.2 in
      let m = with1_takes b tb fb rb (make s.0) s.1 y rest t.0.rest_fits s.3 in
      record { fields = (s.0, m.fields); is = m.is; front = Takes-then bytes (ta s.0) s.1 (tb m.fields) rest t.0 m.front; each_fits = (t.1, m.each_fits) }

  pub with2_again : (x : A) (z : B) (rest : List ℕ) → fa x → fb z → with2 make a b ((ta x ++ tb z) ++ rest) ≡ Ok (make x z, rest)
  with2_again x z rest fx fz =
      let e = ra.again x (tb z ++ rest) fx in
      rw (append_assoc (ta x) (tb z) rest, e) (with1_again b tb fb rb (make x) z rest fz)

module _ {E A B C Y : Type 0} (a : Reader E A) (ta : A → List ℕ) (fa : A → Type 0) (ra : Reads a ta fa) (b : Reader E B) (tb : B → List ℕ) (fb : B → Type 0) (rb : Reads b tb fb)
    (c : Reader E C) (tc : C → List ℕ) (fc : C → Type 0) (rc : Reads c tc fc) (make : A → B → C → Y) where
  pub with3_takes : (bytes : List ℕ) (y : Y) (rest : List ℕ) → IsBytes bytes → with3 make a b c bytes ≡ Ok (y, rest)
      → Made {X = A × B × C} (λ p. make p.0 p.1 p.2) (λ p. ta p.0 ++ (tb p.1 ++ tc p.2)) (λ p. fa p.0 × fb p.1 × fc p.2) bytes y rest
  with3_takes bytes y rest fits e =
      let s = then_ok (a bytes) (λ x. b >>= λ z. c >>= λ w. pure (make x z w)) y rest e in
      let t = ra.takes bytes s.0 s.1 fits s.2 in
      let m = with2_takes b tb fb rb c tc fc rc (make s.0) s.1 y rest t.0.rest_fits s.3 in
      record { fields = (s.0, m.fields.0, m.fields.1); is = m.is; front = Takes-then bytes (ta s.0) s.1 (tb m.fields.0 ++ tc m.fields.1) rest t.0 m.front; each_fits = (t.1, m.each_fits.0, m.each_fits.1) }

  pub with3_again : (x : A) (z : B) (w : C) (rest : List ℕ) → fa x → fb z → fc w → with3 make a b c ((ta x ++ (tb z ++ tc w)) ++ rest) ≡ Ok (make x z w, rest)
  with3_again x z w rest fx fz fw =
      let e = ra.again x ((tb z ++ tc w) ++ rest) fx in
      rw (append_assoc (ta x) (tb z ++ tc w) rest, e) (with2_again b tb fb rb c tc fc rc (make x) z w rest fz fw)
