-- What is told of an instruction's store before it is run.
use Rattle.std.specs.Prelude.{ℕ, ◌%◌, ◌^◌, Bool, true, false, not, ◌&&◌, Option, Some, None, if◌then◌else◌}
use Rattle.vm_law.specs.Memory.{Memory}
use Rattle.vm_law.specs.declared.context.Ctx.{Ctx}
use Rattle.vm_law.specs.declared.insn.Insn.{Insn}
use Rattle.vm_bus.specs.Area.{area_in}
use Rattle.vm_bus.specs.declared.area.Area.{Area}
use Rattle.x86_op.specs.Access.{access_of}
use Rattle.x86_op.specs.Table.{computed, faults}
use Rattle.x86_op.specs.declared.access.Access.{Access}
use Rattle.x86_op.specs.declared.access.Way.{Way}
use Rattle.x86_op.specs.declared.access.Way.TheVariants.{Load, Store, Modify, Compare}
use Rattle.x86_exec.specs.Shared.{is_plain}

abbrev pub is_store : Way → Bool
is_store Load = false
is_store Store = true
is_store Modify = false
is_store Compare = false

-- where an access goes that is a mere store
abbrev pub stored_to : Memory → Option Access → Option Area
stored_to mem None = None
stored_to mem (Some a) = if is_store a.way then Some (area_in mem a.at a.len) else None

-- where a plain MOV stores
unfoldable pub plain_store : Ctx → Insn → ℕ → Memory → Option Area
plain_store c insn len mem = if is_plain insn && not (faults c insn 0) then stored_to mem (access_of c insn len) else None

-- the number that it stores
abbrev pub number_stored : Ctx → Insn → ℕ → ℕ
number_stored c insn len = (computed c insn len 0).stored % 2 ^ 32
