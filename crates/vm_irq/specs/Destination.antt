-- The vCPUs that an interrupt message is for.
-- Source: Intel SDM volume 3, section 10.6.2 (destination, shorthands).
use Rattle.std.specs.Prelude.{ℕ, Bool, true, false, not, ◌==◌}
use Rattle.std.specs.List.{range_with_len}
use Rattle.std.specs.FinSet as set
use Rattle.vm_law.specs.declared.message.Message.{Message}
use Rattle.vm_law.specs.declared.message.Dest.{Dest}
use Rattle.vm_law.specs.declared.message.Dest.TheVariants.{One, All, AllBut, Nobody}
use Rattle.vm_law.specs.CpuSet.{Cpus}

-- whether vCPU i is meant by a destination
abbrev pub is_for : Dest → ℕ → Bool
is_for (One cpu) i = i == cpu
is_for All i = true
is_for (AllBut cpu) i = not (i == cpu)
is_for Nobody i = false

-- the vCPUs of a machine that has so many
abbrev pub all_cpus : ℕ → Cpus
all_cpus cpus = set.from_list (range_with_len 0 cpus)

-- those of them that the message is for
unfoldable pub targets_of : Message → ℕ → Cpus
targets_of m cpus = set.retain (all_cpus cpus) (is_for m.dest)
