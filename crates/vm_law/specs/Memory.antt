-- Guest memory, a byte list whose first part is code.
use Rattle.std.specs.Prelude.{◌≡◌, ℕ, ◌+◌, List, length, take, drop, ◌++◌}

pub record Memory : Type 0 where
  pub bytes : List ℕ
  pub code : ℕ

-- the code part
abbrev pub code_of : Memory → List ℕ
code_of m = take m.code m.bytes

-- n bytes from an address on
abbrev pub read_of : Memory → ℕ → ℕ → List ℕ
read_of m at n = take n (drop at m.bytes)

-- the memory after a piece was written from an address on
abbrev pub written : Memory → ℕ → List ℕ → Memory
written m at piece = record m { bytes = take at m.bytes ++ piece ++ drop (at + length piece) m.bytes }

-- how many bytes there are and how many of them are code stays
pub record KeepsSize (old new : Memory) : Type 0 where
  pub code : new.code ≡ old.code
  pub size : length new.bytes ≡ length old.bytes

-- the code part stays besides
pub record KeepsCode (old new : Memory) : Type 0 where
  pub size : KeepsSize old new
  pub part : code_of new ≡ code_of old
