-- Sets of interrupt vectors, and how registers and saved forms hold them.
-- Source: Intel SDM volume 3, section 10.8.4: a register of 256 bits, of which bit v stands for vector v, read as
-- eight words of 32 bits.
use Rattle.std.specs.Prelude.{ℕ, zero, suc, ◌+◌, ◌*◌, ◌/◌, ◌%◌, ◌^◌, max, Bool, List, [], ◌∷◌, map, fold, Option, Some, None, ◌==◌, if◌then◌else◌, slice_index}
use Rattle.std.specs.List.{range_with_len}
use Rattle.std.specs.Int.{bit_at}
use Rattle.std.specs.FinSet as set
use Rattle.vm_law.specs.BitSet.{Numbers, set_of}

-- a set of vectors by their numbers
abbrev pub Vectors : Type 0
Vectors = Numbers

-- the vector is a member
abbrev pub has : Vectors → ℕ → Bool
has s v = set.contains s v

-- the greatest number of a list
abbrev pub greatest : List ℕ → Option ℕ
greatest [] = None
greatest (v ∷ vs) = Some (fold max v vs)

-- the highest member
unfoldable pub highest : Vectors → Option ℕ
highest s = greatest (set.items s)

-- the number of n bits whose bit b is set where b passes the test
abbrev pub number_of : (ℕ → Bool) → ℕ → ℕ
number_of p zero = 0
number_of p (suc n) = number_of p n + (if p n then 2 ^ n else 0)

-- n bits of the set from bit v on
unfoldable pub bits_of : Vectors → ℕ → ℕ → ℕ
bits_of s v n = number_of (λ b. has s (v + b)) n

-- word k of the eight
abbrev pub word_of : Vectors → ℕ → ℕ
word_of s k = bits_of s (32 * k) 32

-- the saved form: vector v is bit v % 8 of byte v / 8
unfoldable pub bytes_of : Vectors → List ℕ
bytes_of s = map (λ k. bits_of s (8 * k) 8) (range_with_len 0 32)

-- the vectors whose bits are set in a saved form
unfoldable pub vectors_of : List ℕ → Vectors
vectors_of bytes = set_of (map (λ v. bit_at (slice_index bytes (v / 8)) (v % 8) == 1) (range_with_len 0 256))
