-- A frozen vCPU runs: Enter. It takes an interrupt, where one can be delivered.
-- Source: Intel SDM volume 3, sections 6.9 (priorities), 6.7.1 (NMI) and 10.8.3 (fixed interrupts).
use Rattle.std.specs.Prelude.{ℕ, ◌+◌, Bool, true, false, not, ◌&&◌, nat_le, ◌==◌, Option, Some, None, Result, Ok, Err, is_none, if◌then◌else◌}
use Rattle.vm_law.specs.declared.context.Stop.{Stop}
use Rattle.vm_law.specs.declared.stage.Owned.TheVariants.{Running}
use Rattle.vm_lapic.specs.Apic.{ready, serviced}
use Rattle.x86_trap.specs.Delivery.{delivered, Delivered}
use Rattle.vm_state.specs.declared.cpu.Cpu.{Cpu}
use Rattle.vm_state.specs.declared.run_state.Why.TheVariants.{Stopped}
use Rattle.vm_state.specs.Machine.{is_cpu, cpu_at, with_cpu, with_ctx, is_frozen, is_awake, takes_nmi, takes_vector}
use Rattle.vm_state.specs.State.{State, seat_at, open_grants, with_machine, with_seat}

-- a Stop ends the run
unfoldable pub stopped_at : State → ℕ → Stop → State
stopped_at s i why = record s { ended = Some (Stopped i why (cpu_at s.machine i).ctx.rip) }

-- for at most 1,024 instructions, and no more than the limit leaves
unfoldable pub may_enter : State → ℕ → ℕ → ℕ → Bool
may_enter s p i grant =
    is_cpu s.machine i && is_frozen (cpu_at s.machine i).stage p && (p == 1 + i)
    && (cpu_at s.machine i).started && is_awake (cpu_at s.machine i)
    && is_none s.machine.meet && not s.machine.pause && is_none s.ended
    && nat_le 1 grant && nat_le grant 1024 && nat_le (s.executed + open_grants s.seats + grant) s.limit

-- a stay begins
unfoldable pub entered : State → ℕ → ℕ → ℕ → State
entered s p i grant =
    with_seat (with_machine s (with_cpu s.machine i (record (cpu_at s.machine i) { stage = Running p; halted = false }))) i
    (record (seat_at s i) { left = grant; stayed = false })

-- ---- what is taken

-- what was delivered stands in the context and in memory, or a Stop ends the run and leaves both
unfoldable pub settled : State → ℕ → Delivered → Result (Unit {0}) Stop → State
settled s i d (Ok u) = with_machine s (record (with_ctx s.machine i d.ctx) { ram = d.memory })
settled s i d (Err why) = stopped_at s i why

abbrev pub delivered_in : State → ℕ → ℕ → Bool → State
delivered_in s i v nmi = let d = delivered (cpu_at s.machine i).ctx s.machine.ram v None nmi in settled s i d d.answer

-- the vCPU without what it takes, which it did in this stay
abbrev pub taken : State → ℕ → Cpu → State
taken s i cpu = with_seat (with_machine s (with_cpu s.machine i cpu)) i (record (seat_at s i) { stayed = true })

-- vector 2; it isn't pending any more
unfoldable pub nmi_taken : State → ℕ → State
nmi_taken s i = delivered_in (taken s i (record (cpu_at s.machine i) { nmi = false })) i 2 true

-- a vector goes into service
unfoldable pub vector_taken : State → ℕ → Option ℕ → State
vector_taken s i None = s
vector_taken s i (Some v) =
    delivered_in (taken s i (record (cpu_at s.machine i) { lapic = serviced (cpu_at s.machine i).lapic v })) i v false

-- an NMI first, and else the vector that can be delivered, and else nothing
unfoldable pub interrupt_taken : State → ℕ → State
interrupt_taken s i =
    if takes_nmi (cpu_at s.machine i) then nmi_taken s i
    else if takes_vector (cpu_at s.machine i) then vector_taken s i (ready (cpu_at s.machine i).lapic)
    else s

unfoldable pub after_enter : State → ℕ → ℕ → ℕ → State
after_enter s p i grant = interrupt_taken (entered s p i grant) i
