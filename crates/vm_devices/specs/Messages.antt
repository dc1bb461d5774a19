-- Interrupt messages, and the lines that send them.
-- Source: Intel SDM volume 3, sections 8.4.3 (start-up), 10.5.2 (fixed), 6.7 (NMI) and 10.8.5 (EOI); Intel's 82093AA.
use Rattle.std.specs.Prelude.{ℕ, zero, suc, Bool, true, false, not, ◌&&◌, List, [], ◌∷◌, Some, is_none, if◌then◌else◌}
use Rattle.std.specs.Option.{option_to_list}
use Rattle.vm_law.specs.CpuSet.{Cpus, has}
use Rattle.vm_law.specs.declared.message.Message.{Message}
use Rattle.vm_law.specs.declared.message.Mode.{Mode}
use Rattle.vm_law.specs.declared.message.Mode.TheVariants.{Fixed, Nmi, Startup, Dropped}
use Rattle.vm_irq.specs.Destination.{targets_of}
use Rattle.vm_lapic.specs.Apic.{posted}
use Rattle.vm_ioapic.specs.Ioapic.{raised, raise_message, lowered, after_eoi, eoi_messages}
use Rattle.vm_state.specs.declared.cpu.Cpu.{Cpu}
use Rattle.vm_state.specs.Machine.{MachineState, cpu_at, cpu_count, with_cpu}

-- what a message does at a vCPU that it reaches: a vector is posted, an NMI is pending from now on, and a start-up waits
-- where the vCPU isn't started and none waits
abbrev pub received_as : Mode → ℕ → Cpu → Cpu
received_as Fixed v cpu = record cpu { lapic = posted cpu.lapic v }
received_as Nmi v cpu = record cpu { nmi = true }
received_as Startup v cpu = if not cpu.started && is_none cpu.startup then record cpu { startup = Some v } else cpu
received_as Dropped v cpu = cpu

unfoldable pub received : Message → Cpu → Cpu
received x cpu = received_as x.mode x.vector cpu

-- it reaches vCPU i where i is one of its targets
unfoldable pub sent_to : MachineState → Message → Cpus → ℕ → MachineState
sent_to m x targets i = if has targets i then with_cpu m i (received x (cpu_at m i)) else m

-- its targets below n, in ascending order
abbrev pub sent_below : MachineState → Message → Cpus → ℕ → MachineState
sent_below m x targets zero = m
sent_below m x targets (suc n) = sent_to (sent_below m x targets n) x targets n

-- a message goes out
unfoldable pub sent : MachineState → Message → MachineState
sent m x = sent_below m x (targets_of x (cpu_count m)) (cpu_count m)

-- one message after the other
abbrev pub all_sent : MachineState → List Message → MachineState
all_sent m [] = m
all_sent m (x ∷ xs) = all_sent (sent m x) xs

-- ---- pins

-- a pin is asserted once more, and sends where it is to
unfoldable pub pin_raised : MachineState → ℕ → MachineState
pin_raised m pin = all_sent (record m { ioapic = raised m.ioapic pin }) (option_to_list (raise_message m.ioapic pin))

unfoldable pub pin_lowered : MachineState → ℕ → MachineState
pin_lowered m pin = record m { ioapic = lowered m.ioapic pin }

-- the line of a pin was so before, and is so now
unfoldable pub pin_followed : MachineState → ℕ → Bool → Bool → MachineState
pin_followed m pin false false = m
pin_followed m pin false true = pin_raised m pin
pin_followed m pin true false = pin_lowered m pin
pin_followed m pin true true = m

-- a level-triggered interrupt of vector v was serviced
unfoldable pub level_ended : MachineState → ℕ → MachineState
level_ended m v = all_sent (record m { ioapic = after_eoi m.ioapic v }) (eoi_messages m.ioapic v)
