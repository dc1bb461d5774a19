-- Each vector that a local APIC accepts is serviced once, or is requested still.
-- Source: Intel SDM volume 3, sections 10.8.3 and 10.8.4.
use Rattle.std.specs.Prelude.{◌≡◌, ℕ, ◌+◌, Bool, true, false, not, ◌&&◌, ◌==◌, List, Option, Some, None}
use Rattle.vm_law.specs.declared.journal.Signed.{Signed}
use Rattle.vm_vectors.specs.Vectors.{has}
use Rattle.vm_lapic.specs.declared.effect.Posted.{Posted}
use Rattle.vm_lapic.specs.declared.effect.Posted.TheVariants.{Set, Merged, Ignored, Illegal}
use Rattle.vm_lapic.specs.Apic.{post_answer, ready}
use Rattle.vm_state.specs.declared.cpu.Cpu.{Cpu}
use Rattle.vm_state.specs.declared.start.Start as start_type
use Rattle.vm_state.specs.Machine.{MachineState, cpu_at, takes_nmi, takes_vector}
use Rattle.vm_state.specs.Start.{boot}
use Rattle.vm_state.specs.State.{State}
use Rattle.vm_table.specs.History.{IsLegal, last_state}
use Rattle.vm_table.specs.Table.{after}
use Rattle.vm_laws.specs.Counting.{count_of, one_if}
use Rattle.vm_laws.specs.Entries.{is_enter_of}

-- v is requested at vCPU i
abbrev pub is_requested : MachineState → ℕ → ℕ → Bool
is_requested m i v = has (cpu_at m i).lapic.irr v

abbrev pub is_set : Posted → Bool
is_set Set = true
is_set Merged = false
is_set Ignored = false
is_set Illegal = false

-- the entry posts v to vCPU i, whose APIC accepts it: a post of it is to be accepted, and the vector is requested afterwards
unfoldable pub posts : ℕ → ℕ → State → Signed → Bool
posts i v s x = is_set (post_answer (cpu_at s.machine i).lapic v) && is_requested (after s x).machine i v

abbrev pub is_vector : ℕ → Option ℕ → Bool
is_vector v None = false
is_vector v (Some w) = w == v

-- the vCPU takes v as it enters: v can be delivered, and no NMI goes before it
abbrev pub takes : Cpu → ℕ → Bool
takes cpu v = not (takes_nmi cpu) && takes_vector cpu && is_vector v (ready cpu.lapic)

-- the entry services v at vCPU i
unfoldable pub services : ℕ → ℕ → State → Signed → Bool
services i v s x = is_enter_of i x.entry && takes (cpu_at s.machine i) v

-- what was requested at the start and what was accepted since then was serviced, or is requested now
abbrev pub IsBalanced : start_type.Start → List Signed → ℕ → ℕ → Type 0
IsBalanced start history i v =
    one_if (is_requested (boot start).machine i v) + count_of (posts i v) (boot start) history
    ≡ count_of (services i v) (boot start) history + one_if (is_requested (last_state start history).machine i v)

abbrev pub VectorsBalance : Type 0
VectorsBalance = (start : start_type.Start) (history : List Signed) (i v : ℕ) → IsLegal start history → IsBalanced start history i v
