-- One instruction of a running vCPU that isn't local: Step. It reaches memory, a port or a device's window, or it is
-- delivered to, by the exception that it raises or by INT.
-- Source: Intel SDM volume 3, sections 6.12 to 6.15; the pages of HLT, IN, OUT, INT and MOV in volume 2.
use Rattle.std.specs.Prelude.{ℕ, ◌+◌, ◌%◌, ◌^◌, Bool, true, false, not, ◌&&◌, ◌||◌, nat_lt, slice_set, ◌++◌, Option, None, Result, Ok, Err, is_none}
use Rattle.std.specs.Option.{option_to_list}
use Rattle.vm_law.specs.Memory.{Memory}
use Rattle.vm_law.specs.declared.context.Ctx.{Ctx}
use Rattle.vm_law.specs.declared.context.Stop.{Stop}
use Rattle.vm_law.specs.declared.context.Stop.TheVariants as stop
use Rattle.vm_law.specs.declared.insn.Insn.{Insn}
use Rattle.vm_law.specs.declared.insn.Op.{Op}
use Rattle.vm_law.specs.declared.insn.Op.TheVariants as op
use Rattle.x86_exec.specs.declared.effect.Effect.{Effect}
use Rattle.x86_exec.specs.declared.effect.Effect.TheVariants as effect
use Rattle.x86_exec.specs.declared.effect.Stored.{Stored}
use Rattle.x86_exec.specs.Shared as exec
use Rattle.vm_bus.specs.declared.area.Area.{Area}
use Rattle.vm_law.specs.declared.insn.Width.{Width}
use Rattle.x86_fetch.specs.declared.fetching.Next.{Next}
use Rattle.x86_fetch.specs.declared.fetching.Next.TheVariants.{Local, Shared, Undefined, OutOfCode}
use Rattle.x86_fetch.specs.Fetching.{next_of, is_local_next}
use Rattle.x86_trap.specs.Delivery.{delivered, Delivered}
use Rattle.vm_meet.specs.Meeting.{started_by}
use Rattle.vm_devices.specs.Ports.{port_value, port_read, port_written, port_output}
use Rattle.vm_devices.specs.Windows.{window_value, window_written, is_routing_write}
use Rattle.vm_state.specs.Machine.{is_cpu, cpu_at, with_cpu, code_of, is_running}
use Rattle.vm_state.specs.State.{State, seat_at, versions_after, with_machine}
use Rattle.vm_running.specs.Enter.{stopped_at}
use Rattle.vm_running.specs.Slice.{spent}

-- what stands at RIP of vCPU i
abbrev pub next_at : State → ℕ → Next
next_at s i = next_of (code_of s.machine) (cpu_at s.machine i).ctx

-- ---- when

abbrev pub is_routing_effect : State → Effect → Bool
is_routing_effect s (effect.Store a value) = is_routing_write s a value
is_routing_effect s e = false

abbrev pub is_routing_next : State → ℕ → Next → Bool
is_routing_next s i (Shared insn len) = is_routing_effect s (exec.shared (cpu_at s.machine i).ctx insn len s.machine.ram).effect
is_routing_next s i next = false

-- the next instruction changes the interrupt routing
unfoldable pub would_route : State → ℕ → Bool
would_route s i = is_routing_next s i (next_at s i)

-- a running vCPU has an instruction left, and didn't open the meeting that is open
unfoldable pub has_step : State → ℕ → ℕ → Bool
has_step s p i =
    is_cpu s.machine i && is_running (cpu_at s.machine i).stage p && nat_lt 0 (seat_at s i).left
    && not (cpu_at s.machine i).halted && is_none s.ended && not (started_by s.machine.meet p)

-- the next instruction isn't local, and changes the routing only where no meeting is open
abbrev pub is_allowed : State → ℕ → Bool
is_allowed s i = not (is_local_next (next_at s i)) && (not (would_route s i) || is_none s.machine.meet)

unfoldable pub may_step : State → ℕ → ℕ → Bool
may_step s p i = has_step s p i && is_allowed s i

-- ---- what

-- the instruction was executed: this is the vCPU's context, and whether it is halted
unfoldable pub stepped_to : State → ℕ → Ctx → Bool → State
stepped_to s i c halted = spent (with_machine s (with_cpu s.machine i (record (cpu_at s.machine i) { ctx = c; halted = halted }))) i 1

-- memory after it
abbrev pub with_ram : State → Memory → State
with_ram s ram = with_machine s (record s.machine { ram = ram })

-- it stored into memory, which counts in the versions of the pages of code that it touched
abbrev pub counted : State → Option Stored → State
counted s stored = record s { versions = versions_after s.versions s.machine.ram.code stored }

abbrev pub stored_in : State → exec.Shared → State
stored_in s x = with_ram (counted s x.stored) x.memory

-- an instruction of vCPU i, on its registers and on memory
abbrev pub attempt : State → ℕ → Insn → ℕ → Result exec.Shared Effect
attempt s i insn len = exec.attempted (cpu_at s.machine i).ctx insn len s.machine.ram insn.op

abbrev pub shared_at : State → ℕ → Insn → ℕ → exec.Shared
shared_at s i insn len = exec.shared (cpu_at s.machine i).ctx insn len s.machine.ram

-- it has this context, and memory is this
abbrev pub moved_on : State → ℕ → Ctx → Memory → State
moved_on s i c ram = with_machine s (record s.machine { cpus = slice_set s.machine.cpus i (record (cpu_at s.machine i) { ctx = c }); ram = ram })

-- it is done, and asks nothing
abbrev pub done_by : State → ℕ → exec.Shared → State
done_by s i x = stepped_to (stored_in s x) i x.ctx false

-- the console receives a byte
abbrev pub printed : State → Option ℕ → State
printed s byte = record s { console = s.console ++ option_to_list byte }

-- a delivery that can't be done ends the run, and else it is the instruction
abbrev pub after_trap : State → ℕ → Delivered → Result (Unit {0}) Stop → State
after_trap s i d (Ok u) = stepped_to (with_ram s d.memory) i d.ctx false
after_trap s i d (Err why) = stopped_at s i why

-- an exception or a software interrupt, which pushes this RIP
unfoldable pub trapped : State → ℕ → ℕ → ℕ → Option ℕ → State
trapped s i rip v error =
    let d = delivered (record (cpu_at s.machine i).ctx { rip = rip }) s.machine.ram v error false in after_trap s i d d.answer

-- a software interrupt pushes the address of the next instruction, and an exception that of its own
abbrev pub pushed_rip : Ctx → Op → ℕ → ℕ
pushed_rip c (op.Int v) len = (c.rip + len) % 2 ^ 64
pushed_rip c o len = c.rip

-- what a port or a window gave goes to a register
abbrev pub completed : State → ℕ → State → Insn → ℕ → ℕ → State
completed s i after insn len value = stepped_to after i (exec.completed (cpu_at s.machine i).ctx insn len value) false

unfoldable pub port_in : State → ℕ → Insn → ℕ → ℕ → Width → State
port_in s i insn len port w = completed s i (with_machine s (port_read s.machine port w)) insn len (port_value s.machine port w)

unfoldable pub port_out : State → ℕ → Ctx → ℕ → Width → ℕ → State
port_out s i c port w value =
    stepped_to (printed (with_machine s (port_written s.machine port w value)) (port_output s.machine port w value)) i c false

unfoldable pub window_load : State → ℕ → Insn → ℕ → Area → State
window_load s i insn len a = completed s i s insn len (window_value s i a)

unfoldable pub window_store : State → ℕ → ℕ → Ctx → Area → ℕ → State
window_store s p i c a value = stepped_to (window_written s p i a value) i c false

unfoldable pub performed_as : State → ℕ → ℕ → Insn → ℕ → exec.Shared → Effect → State
performed_as s p i insn len x effect.Done = done_by s i x
performed_as s p i insn len x effect.Halt = stepped_to s i x.ctx true
performed_as s p i insn len x (effect.Trap v error) = trapped s i (pushed_rip (cpu_at s.machine i).ctx insn.op len) v error
performed_as s p i insn len x (effect.Stop why) = stopped_at s i why
performed_as s p i insn len x (effect.PortIn port w) = port_in s i insn len port w
performed_as s p i insn len x (effect.PortOut port w value) = port_out s i x.ctx port w value
performed_as s p i insn len x (effect.Load a) = window_load s i insn len a
performed_as s p i insn len x (effect.Store a value) = window_store s p i x.ctx a value

-- bytes that no instruction spells raise #UD, which is vector 6
unfoldable pub performed : State → ℕ → ℕ → Next → State
performed s p i (Local insn len) = s
performed s p i (Shared insn len) =
    let x = exec.shared (cpu_at s.machine i).ctx insn len s.machine.ram in performed_as s p i insn len x x.effect
performed s p i Undefined = trapped s i (cpu_at s.machine i).ctx.rip 6 None
performed s p i OutOfCode = stopped_at s i stop.Fetch

unfoldable pub after_step : State → ℕ → ℕ → State
after_step s p i = performed s p i (next_at s i)
