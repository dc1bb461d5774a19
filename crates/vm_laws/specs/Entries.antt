-- Which entry it is.
use Rattle.std.specs.Prelude.{ℕ, Bool, true, false, ◌&&◌, ◌==◌}
use Rattle.vm_law.specs.declared.journal.Entry.{Entry}
use Rattle.vm_law.specs.declared.journal.Entry.TheVariants.{Enter, Slice, Step, Turn, Begin, Move, Hold, Put, Finish}

-- vCPU i enters
abbrev pub is_enter_of : ℕ → Entry → Bool
is_enter_of i (Enter j grant) = j == i
is_enter_of i e = false

-- a vCPU enters
abbrev pub is_enter : Entry → Bool
is_enter (Enter j grant) = true
is_enter e = false

-- vCPU i executes
abbrev pub is_run_of : ℕ → Entry → Bool
is_run_of i (Slice j n) = j == i
is_run_of i (Step j) = j == i
is_run_of i e = false

-- a vCPU executes
abbrev pub is_run : Entry → Bool
is_run (Slice j n) = true
is_run (Step j) = true
is_run e = false

-- vCPU i takes its turn
abbrev pub is_turn_of : ℕ → Entry → Bool
is_turn_of i (Turn j) = j == i
is_turn_of i e = false

-- a worker takes up request id of disk d, moves a unit of it, or finishes it
abbrev pub is_work_on : ℕ → ℕ → Entry → Bool
is_work_on d id (Begin c n) = (c == d) && (n == id)
is_work_on d id (Move c n) = (c == d) && (n == id)
is_work_on d id (Hold c n) = (c == d) && (n == id)
is_work_on d id (Put c n ok) = (c == d) && (n == id)
is_work_on d id (Finish c n) = (c == d) && (n == id)
is_work_on d id e = false

-- a unit of request id of disk d is done: a sector that was read, or a write or a flush that came back
abbrev pub is_unit_of : ℕ → ℕ → Entry → Bool
is_unit_of d id (Move c n) = (c == d) && (n == id)
is_unit_of d id (Put c n ok) = (c == d) && (n == id)
is_unit_of d id e = false

-- request id of disk d is finished
abbrev pub is_finish_of : ℕ → ℕ → Entry → Bool
is_finish_of d id (Finish c n) = (c == d) && (n == id)
is_finish_of d id e = false
