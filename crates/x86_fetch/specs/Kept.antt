-- What a table keeps of a code.
use Rattle.std.specs.Prelude.{◌≡◌, ◌⊎◌, ℕ, ◌+◌, ◌%◌, ◌<◌, ◌≤◌, List, length, slice_index, slice_index_or, Ok, Option, Some, None}
use Rattle.vm_law.specs.Memory.{Memory, code_of, written}
use Rattle.x86_decode.specs.Reading.{decoded}
use Rattle.x86_op.specs.Access.{is_local}
use Rattle.x86_fetch.specs.Fetching.{fetched}
use Rattle.x86_fetch.specs.declared.table.Found.{Found}
use Rattle.x86_fetch.specs.declared.table.Place.{Place}

-- the bytes that are fetched at this address begin with this instruction
pub record IsFound (code : List ℕ) (at : ℕ) (found : Found) : Type 0 where
  pub spelled : decoded (fetched code at) ≡ Ok (found.insn, found.len)
  pub local : found.local ≡ is_local found.insn

-- a place of the table holds nothing, or what stands in the code at its address
abbrev pub IsKept : List ℕ → Option Place → Type 0
IsKept code None = Unit {0}
IsKept code (Some place) = IsFound code place.at place.found

-- the table is right for the code: so is each of its places
pub record AreKept (code : List ℕ) (places : List (Option Place)) : Type 0 where
  pub each : (k : ℕ) → IsKept code (slice_index_or places k None)

-- a place stands where its address modulo 4,096 says
abbrev pub IsPlaced : ℕ → Option Place → Type 0
IsPlaced k None = Unit {0}
IsPlaced k (Some place) = place.at % 4096 ≡ k

pub record IsTable (places : List (Option Place)) : Type 0 where
  pub size : length places ≡ 4096
  pub placed : (k : ℕ) → IsPlaced k (slice_index_or places k None)

-- the codes are as long, and differ in no byte but the n from an address on
pub record ChangesOnly (old new : List ℕ) (at n : ℕ) : Type 0 where
  pub size : length new ≡ length old
  pub rest : (k : ℕ) → (k < at) ⊎ (at + n ≤ k) → slice_index new k ≡ slice_index old k

-- a write inside the memory changes no other byte of the code
abbrev pub WritesChangeOnly : Type 0
WritesChangeOnly = (m : Memory) (at : ℕ) (piece : List ℕ) → at + length piece ≤ length m.bytes
    → ChangesOnly (code_of m) (code_of (written m at piece)) at (length piece)

-- an instruction that holds none of the n bytes from an address on, even if it had 15 bytes
abbrev pub IsClear : ℕ → ℕ → Option Place → Type 0
IsClear at n None = Unit {0}
IsClear at n (Some place) = (place.at + 15 ≤ at) ⊎ (at + n ≤ place.at)

-- places stay or are emptied, and that of this number is clear of the bytes
pub record IsEmptied (old new : List (Option Place)) : Type 0 where
  pub size : length new ≡ length old
  pub each : (k : ℕ) → (slice_index_or new k None ≡ slice_index_or old k None) ⊎ (slice_index_or new k None ≡ None)

pub record AreEmptied (old new : List (Option Place)) (number at n : ℕ) : Type 0 where
  pub rest : IsEmptied old new
  pub clear : IsClear at n (slice_index_or new number None)
