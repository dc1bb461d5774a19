-- The machine as its guest sees it, and words on it.
use Rattle.std.specs.Prelude.{ℕ, ◌+◌, Bool, true, false, not, ◌&&◌, ◌||◌, ◌==◌, nat_lt, List, [], length, replicate, slice_index_or, slice_set, Option, None, is_some}
use Rattle.std.specs.List.{list_any, list_all, range_with_len}
use Rattle.std.specs.Int.{bit_at}
use Rattle.std.specs.FinSet as set
use Rattle.vm_law.specs.CpuSet.{Cpus}
use Rattle.vm_law.specs.Memory.{Memory}
use Rattle.vm_law.specs.Memory.{code_of as code_part}
use Rattle.vm_law.specs.declared.context.Ctx.{Ctx}
use Rattle.vm_law.specs.declared.stage.Owned.{Owned}
use Rattle.vm_law.specs.declared.stage.Owned.TheVariants.{Idle, Frozen, Running, Sleeping}
use Rattle.vm_irq.specs.Destination.{all_cpus}
use Rattle.vm_lapic.specs.Apic.{ready, at_start}
use Rattle.vm_ioapic.specs.Ioapic.{Chip}
use Rattle.vm_uart.specs.Uart.{Serial}
use Rattle.vm_vblk.specs.Window as window
use Rattle.blk_queue.specs.Steps.{empty}
use Rattle.vm_meet.specs.declared.meeting.Meeting.{Meeting}
use Rattle.x86_trap.specs.Delivery.{IF}
use Rattle.vm_state.specs.declared.cpu.Cpu.{Cpu}
use Rattle.vm_state.specs.declared.drive.Drive.{Drive}

-- vCPUs and drives by their numbers; memory; the chips; whether a pause is wished; the meeting that is open; and what is
-- left of each of 16 timers
pub record MachineState : Type 0 where
  pub cpus : List Cpu
  pub ram : Memory
  pub ioapic : Chip
  pub uart : Serial
  pub drives : List Drive
  pub pause : Bool
  pub meet : Option Meeting
  pub timers : List ℕ

-- ---- vCPUs

-- registers of a vCPU that is to run from rip on: RFLAGS holds its one fixed bit, and all else is 0.
-- Source: Intel SDM volume 1, section 3.4.3
unfoldable pub ctx_from : ℕ → Ctx
ctx_from rip = record {
  regs = replicate 16 0;
  rip = rip;
  rflags = 2;
  idt_base = 0;
  idt_limit = 0;
  shadow = false;
  nmi_block = false;
}

-- vCPU i as long as it wasn't started; also what is read past the last one
unfoldable pub unstarted_cpu : ℕ → Cpu
unstarted_cpu i = record { stage = Idle; ctx = ctx_from 0; started = false; halted = false; startup = None; nmi = false; lapic = at_start i }

abbrev pub cpu_count : MachineState → ℕ
cpu_count m = length m.cpus

-- i is the number of a vCPU
abbrev pub is_cpu : MachineState → ℕ → Bool
is_cpu m i = nat_lt i (cpu_count m)

-- the numbers of the vCPUs, ascending
abbrev pub cpu_numbers : MachineState → List ℕ
cpu_numbers m = range_with_len 0 (cpu_count m)

abbrev pub cpu_at : MachineState → ℕ → Cpu
cpu_at m i = slice_index_or m.cpus i (unstarted_cpu i)

-- the machine with another vCPU i
abbrev pub with_cpu : MachineState → ℕ → Cpu → MachineState
with_cpu m i cpu = record m { cpus = slice_set m.cpus i cpu }

abbrev pub with_stage : MachineState → ℕ → Owned → MachineState
with_stage m i stage = with_cpu m i (record (cpu_at m i) { stage = stage })

abbrev pub with_ctx : MachineState → ℕ → Ctx → MachineState
with_ctx m i ctx = with_cpu m i (record (cpu_at m i) { ctx = ctx })

-- ---- stages

abbrev pub is_idle : Owned → Bool
is_idle Idle = true
is_idle (Frozen p) = false
is_idle (Running p) = false
is_idle (Sleeping p) = false

-- frozen by the pass q
abbrev pub is_frozen : Owned → ℕ → Bool
is_frozen Idle q = false
is_frozen (Frozen p) q = p == q
is_frozen (Running p) q = false
is_frozen (Sleeping p) q = false

-- running by the pass q
abbrev pub is_running : Owned → ℕ → Bool
is_running Idle q = false
is_running (Frozen p) q = false
is_running (Running p) q = p == q
is_running (Sleeping p) q = false

-- sleeping by the pass q
abbrev pub is_sleeping : Owned → ℕ → Bool
is_sleeping Idle q = false
is_sleeping (Frozen p) q = false
is_sleeping (Running p) q = false
is_sleeping (Sleeping p) q = p == q

abbrev pub all_idle : MachineState → Bool
all_idle m = list_all (λ (cpu : Cpu). is_idle cpu.stage) m.cpus

-- every vCPU is frozen by control, which is pass 0
abbrev pub all_frozen : MachineState → Bool
all_frozen m = list_all (λ (cpu : Cpu). is_frozen cpu.stage 0) m.cpus

-- ---- interrupts

-- an NMI is pending and not blocked, whatever IF says. Source: Intel SDM volume 3, section 6.7.1
abbrev pub takes_nmi : Cpu → Bool
takes_nmi cpu = cpu.nmi && not cpu.ctx.nmi_block

-- IF is set, no shadow stands, and the local APIC has a vector that may be delivered.
-- Source: Intel SDM volume 3, sections 6.8.1, 6.8.3 and 10.8.3
abbrev pub takes_vector : Cpu → Bool
takes_vector cpu = (bit_at cpu.ctx.rflags IF == 1) && not cpu.ctx.shadow && is_some (ready cpu.lapic)

unfoldable pub is_deliverable : Cpu → Bool
is_deliverable cpu = takes_nmi cpu || takes_vector cpu

-- it isn't halted, or an interrupt wakes it
abbrev pub is_awake : Cpu → Bool
is_awake cpu = not cpu.halted || is_deliverable cpu

-- it has something to do
unfoldable pub is_eager : Cpu → Bool
is_eager cpu = is_some cpu.startup || (cpu.started && is_awake cpu)

abbrev pub any_eager : MachineState → Bool
any_eager m = list_any is_eager m.cpus

-- the vCPUs that are started
abbrev pub started_cpus : MachineState → Cpus
started_cpus m = set.retain (all_cpus (cpu_count m)) (λ i. (cpu_at m i).started)

-- ---- memory

-- the code, from address 0 on
abbrev pub code_of : MachineState → List ℕ
code_of m = code_part m.ram

-- ---- drives

-- what is read past the last drive
unfoldable pub no_drive : Drive
no_drive = record { ro = true; workers = 0; window = window.at_start 0 true; queue = empty 0; bytes = [] }

abbrev pub drive_count : MachineState → ℕ
drive_count m = length m.drives

-- d is the number of a drive
abbrev pub is_drive : MachineState → ℕ → Bool
is_drive m d = nat_lt d (drive_count m)

-- the numbers of the drives, ascending
abbrev pub drive_numbers : MachineState → List ℕ
drive_numbers m = range_with_len 0 (drive_count m)

abbrev pub drive_at : MachineState → ℕ → Drive
drive_at m d = slice_index_or m.drives d no_drive

-- the machine with another drive d
abbrev pub with_drive : MachineState → ℕ → Drive → MachineState
with_drive m d drive = record m { drives = slice_set m.drives d drive }

-- ---- pins of the I/O APIC

abbrev pub uart_pin : ℕ
uart_pin = 4

abbrev pub drive_pin : ℕ → ℕ
drive_pin d = 16 + d
