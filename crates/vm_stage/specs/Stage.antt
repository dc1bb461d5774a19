-- The lawful moves of a vCPU's stage. Source: the states of FreeBSD's vmm(4), enum vcpu_state of
-- sys/amd64/include/vmm.h. The owner is this project's own.
use Rattle.std.specs.Prelude.{ℕ, Bool, true, false, ◌==◌}
use Rattle.vm_law.specs.declared.stage.Owned.{Owned}
use Rattle.vm_law.specs.declared.stage.Owned.TheVariants as owned
use Rattle.vm_stage.specs.declared.stage_cell.To.{To}
use Rattle.vm_stage.specs.declared.stage_cell.To.TheVariants as to

-- the stage that a move by pass p leads to
abbrev pub reached : To → ℕ → Owned
reached to.Idle p = owned.Idle
reached to.Frozen p = owned.Frozen p
reached to.Running p = owned.Running p
reached to.Sleeping p = owned.Sleeping p

-- the moves that pass p may make: from idle to frozen anybody; from frozen to any other the owner; from running and
-- sleeping to frozen the owner
abbrev pub is_lawful : Owned → ℕ → To → Bool
is_lawful owned.Idle p to.Frozen = true
is_lawful (owned.Frozen owner) p to.Idle = owner == p
is_lawful (owned.Frozen owner) p to.Running = owner == p
is_lawful (owned.Frozen owner) p to.Sleeping = owner == p
is_lawful (owned.Running owner) p to.Frozen = owner == p
is_lawful (owned.Sleeping owner) p to.Frozen = owner == p
is_lawful _ _ _ = false
