-- What an actor chooses: the entries that control considers of each vCPU, and a worker of each request that it has; and what
-- the run is after the choice.
use Rattle.std.specs.Prelude.{◌≡◌, ℕ, ◌<◌, Bool, true, false, ◌==◌, Option, Some, None, if◌then◌else◌}
use Rattle.vm_law.specs.declared.journal.Entry.{Entry}
use Rattle.vm_law.specs.declared.journal.Entry.TheVariants as entry
use Rattle.vm_law.specs.declared.stage.Owned.{Owned}
use Rattle.vm_law.specs.declared.stage.Owned.TheVariants.{Frozen, Idle, Running, Sleeping}
use Rattle.vm_state.specs.Machine.{cpu_at, cpu_count}
use Rattle.vm_state.specs.State.{State}
use Rattle.vm_table.specs.Table.{lawful, after}
use Rattle.vm_table.specs.declared.choosing.Care.{Care}
use Rattle.vm_table.specs.declared.choosing.Care.TheVariants as care
use Rattle.vm_table.specs.declared.choosing.Work.{Work}
use Rattle.vm_table.specs.declared.choosing.Work.TheVariants as work

abbrev pub care_of : Care → ℕ → Entry
care_of care.Turn i = entry.Turn i
care_of care.Yield i = entry.Yield i
care_of care.Claim i = entry.Claim i

abbrev pub work_on : Work → ℕ → ℕ → Entry
work_on work.Finish d id = entry.Finish d id
work_on work.Move d id = entry.Move d id
work_on work.Hold d id = entry.Hold d id

-- a vCPU that is idle or frozen by control
abbrev pub is_free : Owned → Bool
is_free Idle = true
is_free (Frozen p) = p == 0
is_free (Running p) = false
is_free (Sleeping p) = false

-- no vCPU is idle or frozen by control
abbrev pub NoneIsFree : State → Type 0
NoneIsFree s = (i : ℕ) → i < cpu_count s.machine → is_free (cpu_at s.machine i).stage ≡ false

-- the entry, if it is lawful
abbrev pub where_lawful : State → ℕ → Entry → Option Entry
where_lawful s p e = if lawful s p e then Some e else None

-- the run after what the pass chose
abbrev pub after_choice : State → ℕ → Option Entry → State
after_choice s p None = s
after_choice s p (Some e) = after s (record { by = p; entry = e })
