-- A list of tests as the set of the places that pass.
use Rattle.std.specs.Prelude.{ℕ, zero, suc, Bool, false, List, length, slice_index_or, if◌then◌else◌}
use Rattle.std.specs.Ordering.{nat_cmp}
use Rattle.std.specs.FinSet as set

-- a set of numbers
abbrev pub Numbers : Type 0
Numbers = set.FinSet nat_cmp

-- the numbers below n at which the list has true
abbrev pub set_below : List Bool → ℕ → Numbers
set_below bits zero = set.empty
set_below bits (suc n) = if slice_index_or bits n false then set.insert (set_below bits n) n else set_below bits n

-- the numbers at which the list has true
unfoldable pub set_of : List Bool → Numbers
set_of bits = set_below bits (length bits)
