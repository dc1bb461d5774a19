-- Reading a fixed text, and the end of the bytes. `K` are the kinds of a grammar's faults.
use Rattle.std.specs.Prelude.{◌≡◌, ◌-◌, ℕ, Bool, false, not, List, [], ◌∷◌, length, Result, Ok, Err, nat_lt, ◌==◌, if◌then◌else◌}
use Rattle.byte_reader.specs.declared.reading.Refusal.{Refusal}
use Rattle.byte_reader.specs.Reader.{Read, Reader, fault_at}

-- the first byte is there, and is another than the text's
abbrev pub differs_at_once : List ℕ → List ℕ → Bool
differs_at_once (c ∷ cs) (b ∷ bytes) = not (b == c)
differs_at_once _ _ = false

module _ {K : Type 0} where
  -- these bytes, of which the first that differs is the fault
  unfoldable pub same : K → K → List ℕ → Reader (Refusal K) (Unit {0})
  same short other [] bytes = Ok (tt, bytes)
  same short other (c ∷ cs) [] = fault_at short []
  same short other (c ∷ cs) (b ∷ rest) = if b == c then same short other cs rest else fault_at other (b ∷ rest)

  -- A fixed text. Where it is cut, the fault is at its first byte: that the byte differs, or else that the text is cut.
  unfoldable pub text_at : K → K → List ℕ → Reader (Refusal K) (Unit {0})
  text_at short other text bytes =
      if nat_lt (length bytes) (length text) then fault_at (if differs_at_once text bytes then other else short) bytes
      else same short other text bytes

  -- nothing follows
  abbrev pub ended : {A : Type 0} → K → Read (Refusal K) A → Result A (Refusal K)
  ended trailing (Ok x) = if length x.1 == 0 then Ok x.0 else Err (record { left = length x.1; kind = trailing })
  ended trailing (Err e) = Err e

  -- Among `size` bytes the reading refused at this place, for this reason.
  abbrev pub IsFault : {A : Type 0} → ℕ → ℕ → K → Result A (Refusal K) → Type 0
  IsFault size at kind (Ok x) = ⊥
  IsFault size at kind (Err r) = (at ≡ size - r.left) × (kind ≡ r.kind)
