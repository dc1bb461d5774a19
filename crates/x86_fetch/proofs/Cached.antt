-- A write to memory and the table of its code.
use Rattle.std.proofs.Common.{◌≡◌, ℕ, ◌+◌, ◌≤◌, List, Option, length, subst, sym}
use Rattle.vm_law.specs.Memory.{Memory, code_of, written}
use Rattle.x86_fetch.specs.declared.table.Place.{Place}
use Rattle.x86_fetch.specs.Kept.{AreKept, ChangesOnly}
use Rattle.x86_fetch.proofs.Changes.{write_changes}

-- a table that forgot the bytes of a write is right for the new code
pub right_after : (m new : Memory) (at : ℕ) (piece : List ℕ) (before after : List (Option Place)) → at + length piece ≤ length m.bytes → new ≡ written m at piece → AreKept (code_of m) before
    → ((old now : List ℕ) → AreKept old before → ChangesOnly old now at (length piece) → AreKept now after) → AreKept (code_of new) after
right_after m new at piece before after le is kept forget =
    subst (λ (x : Memory). AreKept (code_of x) after) (sym is) (forget (code_of m) (code_of (written m at piece)) kept (write_changes m at piece le))
