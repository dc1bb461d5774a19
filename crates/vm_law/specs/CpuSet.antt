-- Sets of vCPUs.
use Rattle.std.specs.Prelude.{ℕ, Bool}
use Rattle.std.specs.FinSet as set
use Rattle.vm_law.specs.BitSet.{Numbers}

-- a set of vCPUs by their numbers
abbrev pub Cpus : Type 0
Cpus = Numbers

-- the vCPU is a member
abbrev pub has : Cpus → ℕ → Bool
has s cpu = set.contains s cpu
