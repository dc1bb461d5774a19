-- How many entries of a history pass a test.
use Rattle.std.specs.Prelude.{ℕ, ◌+◌, Bool, List, [], ◌∷◌, if◌then◌else◌}
use Rattle.vm_law.specs.declared.journal.Signed.{Signed}
use Rattle.vm_state.specs.State.{State}
use Rattle.vm_table.specs.Table.{after}

abbrev pub one_if : Bool → ℕ
one_if b = if b then 1 else 0

-- from the state s on; the test is of an entry in the state before it
abbrev pub count_of : (State → Signed → Bool) → State → List Signed → ℕ
count_of test s [] = 0
count_of test s (x ∷ xs) = one_if (test s x) + count_of test (after s x) xs
