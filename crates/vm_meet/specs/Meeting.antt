-- A rendezvous of vCPUs: who is named, and who is done.
-- Source: vm_smp_rendezvous and vm_handle_rendezvous of FreeBSD's sys/amd64/vmm/vmm.c.
use Rattle.std.specs.Prelude.{◌≡◌, ◌≢◌, ℕ, Bool, true, false, not, ◌&&◌, ◌==◌, Option, None, Some, if◌then◌else◌}
use Rattle.std.specs.FinSet as set
use Rattle.vm_law.specs.CpuSet.{Cpus, has}
use Rattle.vm_law.specs.declared.stage.MeetKind.{MeetKind}
use Rattle.vm_meet.specs.declared.meeting.Meeting.{Meeting}

-- of an open meeting: somebody is named, only those named are done, and one of them isn't yet
pub record IsOpen (m : Meeting) : Type 0 where
  pub some_named : m.named ≢ set.empty
  pub inside : set.is_subset m.done m.named ≡ true
  pub some_left : m.done ≢ m.named

-- a meeting as it opens: nobody is done
abbrev pub opened : MeetKind → ℕ → Cpus → Meeting
opened kind by named = record { kind = kind; by = by; named = named; done = set.empty }

-- the vCPU is named
abbrev pub is_named : Meeting → ℕ → Bool
is_named m cpu = has m.named cpu

-- the vCPU is named and not done
abbrev pub is_awaited : Meeting → ℕ → Bool
is_awaited m cpu = has m.named cpu && not (has m.done cpu)

-- those who are done once the vCPU took its turn
abbrev pub done_with : Meeting → ℕ → Cpus
done_with m cpu = set.insert m.done cpu

-- nobody who is named is missing once the vCPU took its turn
abbrev pub is_last : Meeting → ℕ → Bool
is_last m cpu = set.is_subset m.named (done_with m cpu)

-- an open meeting names the vCPU
abbrev pub names : Option Meeting → ℕ → Bool
names None cpu = false
names (Some m) cpu = is_named m cpu

-- an open meeting waits for the vCPU
abbrev pub awaits : Option Meeting → ℕ → Bool
awaits None cpu = false
awaits (Some m) cpu = is_awaited m cpu

-- the pass opened the meeting that is open
abbrev pub started_by : Option Meeting → ℕ → Bool
started_by None pass = false
started_by (Some m) pass = m.by == pass

-- the turn of the vCPU closes the meeting
abbrev pub closes : Option Meeting → ℕ → Bool
closes None cpu = false
closes (Some m) cpu = is_last m cpu

-- after the turn of a vCPU: it is done, and where it was the last one no meeting is open
abbrev pub turned : Option Meeting → ℕ → Option Meeting
turned None cpu = None
turned (Some m) cpu = if is_last m cpu then None else Some (record m { done = done_with m cpu })
