-- What a vCPU is to have for an instruction that is noted.
use Rattle.std.specs.Prelude.{ℕ, ◌+◌, ◌<◌, ◌≤◌, ◌^◌, List, length, slice_index, Option, Some, None}
use Rattle.vm_law.specs.Memory.{Memory}
use Rattle.x86_exec.specs.declared.effect.Stored.{Stored}
use Rattle.vm_state.specs.State.{State, seat_at}

-- an instruction is left of its grant, and the counts have room for one more
pub record CanSpend (s : State) (i : ℕ) : Type 0 where
  pub seat : i < length s.seats
  pub left : 1 ≤ (seat_at s i).left
  pub ran : (seat_at s i).ran + 1 < 2 ^ 64
  pub executed : s.executed + 1 < 2 ^ 64

-- each is below a number
abbrev pub AreBelow : List ℕ → ℕ → Type 0
AreBelow xs n = (k : ℕ) → slice_index xs k < n

-- what was stored is some bytes of memory
abbrev pub IsInside : Memory → Option Stored → Type 0
IsInside mem None = Unit {0}
IsInside mem (Some r) = r.at + r.len ≤ length mem.bytes
