-- The state of each vCPU as one line of JSON (RFC 8259): the members in the order of their names, without spaces.
use Rattle.std.specs.Prelude.{ℕ, List, [], ◌∷◌, ◌++◌, map, codes}
use Rattle.std.specs.List.{filter, range_with_len}
use Rattle.serde_json.specs.Data.{Data, boolean, number, unsigned, string, array, object, member, no_members}
use Rattle.serde_json.specs.View.{items_of}
use Rattle.serde_json.specs.Written.{compact_text}
use Rattle.ctl_script.specs.Print.{hex16}
use Rattle.vm_law.specs.declared.context.Ctx.{Ctx}
use Rattle.vm_law.specs.declared.stage.Owned.{Owned}
use Rattle.vm_law.specs.declared.stage.Owned.TheVariants.{Idle, Frozen, Running, Sleeping}
use Rattle.vm_vectors.specs.Vectors.{Vectors, has}
use Rattle.vm_state.specs.declared.cpu.Cpu.{Cpu}
use Rattle.vm_state.specs.Machine.{MachineState, cpu_at, cpu_numbers}

-- `0x` and 16 hexadecimal digits
abbrev pub address_text : ℕ → List ℕ
address_text n = codes "0x" ++ hex16 n

abbrev pub stage_word : Owned → List ℕ
stage_word Idle = codes "idle"
stage_word (Frozen p) = codes "frozen"
stage_word (Running p) = codes "running"
stage_word (Sleeping p) = codes "sleeping"

-- the vectors of a set, in ascending order
abbrev pub vectors_in : Vectors → List ℕ
vectors_in v = filter (has v) (range_with_len 0 256)

abbrev pub number_data : ℕ → Data
number_data n = number (unsigned n)

abbrev pub vectors_data : Vectors → Data
vectors_data v = array (items_of (map number_data (vectors_in v)))

-- the sixteen registers, RIP and RFLAGS
abbrev pub registers_in : Ctx → List ℕ
registers_in c = c.regs ++ c.rip ∷ c.rflags ∷ []

abbrev pub register_data : ℕ → Data
register_data n = string (address_text n)

abbrev pub registers_data : Ctx → Data
registers_data c = array (items_of (map register_data (registers_in c)))

-- the members of a vCPU, of its vectors and registers
abbrev pub members_data : Cpu → Data → Data → Data → Data → Data
members_data c irr isr regs tmr =
    object (member (codes "halted") (boolean c.halted)
    (member (codes "irr") irr
    (member (codes "isr") isr
    (member (codes "regs") regs
    (member (codes "stage") (string (stage_word c.stage))
    (member (codes "started") (boolean c.started)
    (member (codes "tmr") tmr no_members)))))))

abbrev pub cpu_data : Cpu → Data
cpu_data c = members_data c (vectors_data c.lapic.irr) (vectors_data c.lapic.isr) (registers_data c.ctx) (vectors_data c.lapic.tmr)

abbrev pub cpus_data : MachineState → Data
cpus_data m = array (items_of (map (λ i. cpu_data (cpu_at m i)) (cpu_numbers m)))

abbrev pub state_data : MachineState → Data
state_data m = object (member (codes "cpus") (cpus_data m) no_members)

-- the line, with its line feed (10)
abbrev pub state_text : MachineState → List ℕ
state_text m = compact_text (state_data m) ++ 10 ∷ []
