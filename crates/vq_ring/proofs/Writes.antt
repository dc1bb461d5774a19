-- What a write leaves of memory.
use Rattle.std.proofs.Common.{◌≡◌, ℕ, ◌+◌, ◌≤◌, List, length, arith}
use Rattle.std.proofs.lemmas.Grind.{common_steps}
use Rattle.vm_law.specs.Memory.{Memory, code_of, written}

pub size_written : (m : Memory) (at : ℕ) (piece : List ℕ) → at + length piece ≤ length m.bytes → length (written m at piece).bytes ≡ length m.bytes
size_written m at piece inside = grind (arith, common_steps)

pub code_written : (m : Memory) (at : ℕ) (piece : List ℕ) → m.code ≤ at → at + length piece ≤ length m.bytes → code_of (written m at piece) ≡ code_of m
code_written m at piece above inside = grind (arith, common_steps)

pub ruleset writes = (size_written, code_written)
