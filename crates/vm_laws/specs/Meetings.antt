-- A rendezvous excludes: each named vCPU takes its turn once, and executes nothing from then until the last one did.
-- Source: vm_smp_rendezvous and vm_handle_rendezvous of FreeBSD's sys/amd64/vmm/vmm.c.
use Rattle.std.specs.Prelude.{◌≡◌, ℕ, Bool, true, false, ◌&&◌, ◌==◌, List, [], ◌∷◌, ◌++◌, map, Option, Some, None, is_some}
use Rattle.std.specs.FinSet as set
use Rattle.vm_law.specs.CpuSet.{has}
use Rattle.vm_law.specs.declared.journal.Signed.{Signed}
use Rattle.vm_law.specs.declared.stage.MeetKind.TheVariants.{Routing}
use Rattle.vm_ioapic.specs.declared.entry.Redirection.{Redirection}
use Rattle.vm_ioapic.specs.declared.pin.Pin.{Pin}
use Rattle.vm_ioapic.specs.Ioapic.{tmr}
use Rattle.vm_meet.specs.declared.meeting.Meeting.{Meeting}
use Rattle.vm_state.specs.declared.start.Start as start_type
use Rattle.vm_state.specs.Machine.{MachineState, cpu_at, cpu_count}
use Rattle.vm_state.specs.State.{State}
use Rattle.vm_table.specs.History.{IsLegal, after_all, last_state}
use Rattle.vm_table.specs.Table.{after}
use Rattle.vm_laws.specs.Counting.{count_of, one_if}
use Rattle.vm_laws.specs.Entries.{is_enter, is_run, is_run_of, is_turn_of}

-- a rendezvous is open before each of the entries
abbrev pub is_open_along : State → List Signed → Bool
is_open_along s [] = true
is_open_along s (x ∷ xs) = is_some s.machine.meet && is_open_along (after s x) xs

-- what has become of the rendezvous: it was closed, or it is the one that is open
abbrev pub HasBecome : Meeting → Option Meeting → Type 0
HasBecome m None = Unit {0}
HasBecome m (Some now) = (now.kind ≡ m.kind) × (now.by ≡ m.by) × (now.named ≡ m.named)

-- the vCPU has taken its turn: in one that was closed each named one has
abbrev pub is_through : Meeting → Option Meeting → ℕ → Bool
is_through m None i = has m.named i
is_through m (Some now) i = has now.done i

-- the entry executes instructions of a vCPU that has taken its turn in the rendezvous that is open
abbrev pub has_turned : Option Meeting → ℕ → Bool
has_turned None i = false
has_turned (Some now) i = has now.done i

unfoldable pub runs_turned : ℕ → State → Signed → Bool
runs_turned i s x = is_run_of i x.entry && has_turned s.machine.meet i

-- the pass executes instructions
unfoldable pub runs_by : ℕ → State → Signed → Bool
runs_by p s x = (x.by == p) && is_run x.entry

-- the interrupt routing: all of the pins' entries but their polarity and their masks
abbrev pub route_of : Redirection → Redirection
route_of e = record e { active_low = false; masked = false }

abbrev pub routing_of : MachineState → List Redirection
routing_of m = map (λ (p : Pin). route_of p.entry) m.ioapic.pins

-- a vCPU's trigger modes are those of the pins
abbrev pub HasModes : MachineState → MachineState → ℕ → Type 0
HasModes opened now i = (cpu_at now i).lapic.tmr ≡ tmr opened.ioapic i (cpu_count opened)

-- s is the state in which the rendezvous m was opened, and xs are the entries since then, up to the one that closes it
pub record Excludes (s : State) (m : Meeting) (xs : List Signed) : Type 0 where
  pub same : HasBecome m (after_all s xs).machine.meet
  pub turns : (i : ℕ) → count_of (λ t x. is_turn_of i x.entry) s xs ≡ one_if (is_through m (after_all s xs).machine.meet i)
  pub enters : count_of (λ t x. is_enter x.entry) s xs ≡ 0
  pub rests : (i : ℕ) → count_of (runs_turned i) s xs ≡ 0
  pub starter : count_of (runs_by m.by) s xs ≡ 0
  pub routing : routing_of (after_all s xs).machine ≡ routing_of s.machine
  pub modes : m.kind ≡ Routing → (i : ℕ) → is_through m (after_all s xs).machine.meet i ≡ true → HasModes s.machine (after_all s xs).machine i

-- the entry opens the rendezvous m, and no vCPU has taken its turn in it
pub record IsOpened (s : State) (x : Signed) (m : Meeting) : Type 0 where
  pub none : s.machine.meet ≡ None
  pub open_now : (after s x).machine.meet ≡ Some m

abbrev pub MeetingsExclude : Type 0
MeetingsExclude =
    (start : start_type.Start) (before : List Signed) (x : Signed) (m : Meeting) (xs : List Signed) → IsLegal start (before ++ x ∷ xs)
    → IsOpened (last_state start before) x m → is_open_along (after (last_state start before) x) xs ≡ true
    → (m.done ≡ set.empty) × Excludes (after (last_state start before) x) m xs
