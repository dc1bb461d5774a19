-- Reading bytes from left to right: a value and what is left, or why there is none. `E` is what is answered then.
use Rattle.std.specs.Prelude.{◌≡◌, ℕ, zero, suc, Bool, List, [], ◌∷◌, length, take, drop, Result, Ok, Err, nat_lt, if◌then◌else◌}
use Rattle.byteorder.specs.Endian.{little_number}
use Rattle.byte_reader.specs.declared.reading.Refusal.{Refusal}
use Rattle.byte_reader.specs.declared.reading.ReadError.{ReadError}
use Rattle.byte_reader.specs.declared.reading.ReadError.TheVariants as errors

-- what reading gives
abbrev pub Read : Type 0 → Type 0 → Type 0
Read E A = Result (A × List ℕ) E

abbrev pub Reader : Type 0 → Type 0 → Type 0
Reader E A = List ℕ → Read E A

module _ {E : Type 0} where
  -- reading on, where something was read
  abbrev pub then_read : {A B : Type 0} → (A → Reader E B) → Read E A → Read E B
  then_read f (Ok x) = f x.0 x.1
  then_read f (Err e) = Err e

  abbrev pub pure : {A : Type 0} → A → Reader E A
  pure x = λ bytes. Ok (x, bytes)

infixl 10 ◌>>=◌
abbrev pub ◌>>=◌ : {E A B : Type 0} → Reader E A → (A → Reader E B) → Reader E B
r >>= f = λ bytes. then_read f (r bytes)

module _ {E : Type 0} where
  -- one, two or three fields after each other
  abbrev pub with1 : {A Y : Type 0} → (A → Y) → Reader E A → Reader E Y
  with1 make a = a >>= λ x. pure (make x)

  abbrev pub with2 : {A B Y : Type 0} → (A → B → Y) → Reader E A → Reader E B → Reader E Y
  with2 make a b = a >>= λ x. b >>= λ y. pure (make x y)

  abbrev pub with3 : {A B C Y : Type 0} → (A → B → C → Y) → Reader E A → Reader E B → Reader E C → Reader E Y
  with3 make a b c = a >>= λ x. b >>= λ y. c >>= λ z. pure (make x y z)

  -- n values, one after the other
  unfoldable pub times : {A : Type 0} → ℕ → Reader E A → Reader E (List A)
  times zero r = pure []
  times (suc n) r = r >>= λ first. times n r >>= λ others. pure (first ∷ others)

-- ---- refusals at a place. `K` are the kinds of a format's faults

module _ {K : Type 0} where
  -- the fault at the first of these bytes
  abbrev pub fault_at : {A : Type 0} → K → List ℕ → Read (Refusal K) A
  fault_at kind bytes = Err (record { left = length bytes; kind = kind })

  -- a number of n bytes, the lowest first
  abbrev pub number : K → ℕ → Reader (Refusal K) ℕ
  number short n bytes = if nat_lt (length bytes) n then fault_at short bytes else Ok (little_number n bytes, drop n bytes)

  -- n bytes as they stand
  abbrev pub some_bytes : K → ℕ → Reader (Refusal K) (List ℕ)
  some_bytes short n bytes = if nat_lt (length bytes) n then fault_at short bytes else Ok (take n bytes, drop n bytes)

  -- a value that fails the test is refused at its first byte
  abbrev pub guarded : {A : Type 0} → K → (A → Bool) → Reader (Refusal K) A → Reader (Refusal K) A
  guarded kind test r = λ bytes. then_read (λ x rest. if test x then Ok (x, rest) else fault_at kind bytes) (r bytes)

  -- a count of w bytes, and that many values
  abbrev pub counted : {A : Type 0} → K → ℕ → Reader (Refusal K) A → Reader (Refusal K) (List A)
  counted short w r = number short w >>= λ n. times n r

-- what a function returned, seen by view, is what reading gives, unless memory ran out
abbrev pub Fails : {K Y : Type 0} → ReadError K → Result Y (Refusal K) → Type 0
Fails errors.Memory read = Unit {0}
Fails (errors.Refused f) read = read ≡ Err f

abbrev pub Gives : {K X Y : Type 0} → (X → Y) → Result X (ReadError K) → Result Y (Refusal K) → Type 0
Gives view (Ok x) read = read ≡ Ok (view x)
Gives view (Err e) read = Fails e read
