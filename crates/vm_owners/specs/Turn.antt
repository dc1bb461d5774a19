-- A vCPU's turn in the rendezvous that is open. Source: vm_handle_rendezvous of FreeBSD's sys/amd64/vmm/vmm.c, and
-- vioapic_update_tmr of its io/vioapic.c.
use Rattle.std.specs.Prelude.{ℕ, Bool, ◌&&◌, [], ◌∷◌, ◌++◌, Option, Some, None}
use Rattle.vm_law.specs.declared.stage.MeetKind.{MeetKind}
use Rattle.vm_law.specs.declared.stage.MeetKind.TheVariants.{Routing, Sample}
use Rattle.vm_ioapic.specs.Ioapic.{tmr}
use Rattle.vm_meet.specs.Meeting.{awaits, turned}
use Rattle.vm_meet.specs.declared.meeting.Meeting.{Meeting}
use Rattle.vm_state.specs.Machine.{MachineState, is_cpu, cpu_at, cpu_count, with_cpu, is_frozen}
use Rattle.vm_state.specs.State.{State, seat_at, with_machine}

-- the meeting waits for a frozen vCPU
unfoldable pub may_turn : State → ℕ → ℕ → Bool
may_turn s p i = is_cpu s.machine i && is_frozen (cpu_at s.machine i).stage p && awaits s.machine.meet i

-- the vCPU takes over which vectors are level-triggered
unfoldable pub with_routing : MachineState → ℕ → MachineState
with_routing m i = with_cpu m i (record (cpu_at m i) { lapic = record (cpu_at m i).lapic { tmr = tmr m.ioapic i (cpu_count m) } })

-- what it does in its turn: it takes the routing over, or how many instructions it ran is noted
unfoldable pub turn_taken : State → ℕ → MeetKind → State
turn_taken s i Routing = with_machine s (with_routing s.machine i)
turn_taken s i Sample = record s { samples = s.samples ++ record { cpu = i; ran = (seat_at s i).ran } ∷ [] }

-- with the last turn no meeting is open
abbrev pub turn_noted : State → ℕ → State
turn_noted s i = with_machine s (record s.machine { meet = turned s.machine.meet i })

abbrev pub turn_in : State → ℕ → Option Meeting → State
turn_in s i None = s
turn_in s i (Some x) = turn_noted (turn_taken s i x.kind) i

unfoldable pub after_turn : State → ℕ → State
after_turn s i = turn_in s i s.machine.meet
