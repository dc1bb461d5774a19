-- What each instruction leaves.
use Rattle.std.proofs.Common.{◌≡◌, ℕ, Bool, true, false, Option, Some, None, refl, sym, subst}
use Rattle.vm_law.specs.Memory.{Memory}
use Rattle.vm_law.specs.declared.context.Ctx.{Ctx}
use Rattle.vm_law.specs.declared.insn.Insn.{Insn}
use Rattle.vm_law.specs.declared.insn.Mem.{Mem}
use Rattle.vm_law.specs.declared.insn.Op.{Op}
use Rattle.vm_law.specs.declared.insn.Op.TheVariants as op
use Rattle.x86_op.specs.declared.access.Access.{Access}
use Rattle.x86_op.specs.Done.{Done}
use Rattle.x86_op.specs.Table.{computed}
use Rattle.x86_op.specs.Access.{access_of}
use Rattle.x86_exec.specs.declared.effect.Effect.{Effect}
use Rattle.x86_exec.specs.declared.effect.Effect.TheVariants as effect
use Rattle.x86_exec.specs.declared.reached.Place.{Place}
use Rattle.x86_exec.specs.declared.reached.Place.TheVariants as place
use Rattle.x86_exec.specs.Shared.{Shared, asks, stored_at, ended, stores, accessed, alone, with_access, iret, lidt, out, attempted, settled}
use Rattle.x86_exec.specs.Kept.{Leaves, SharedLeaves}
use Rattle.x86_exec.proofs.Chains.{accessed_ends, alone_ends, iret_ends, lidt_ends}

abbrev pub Left : Ctx → Memory → Shared → Type 0
Left c mem s = Leaves s.effect c s.ctx mem s.memory

-- the same of what is equal
pub left : (c after : Ctx) (mem new : Memory) (e : Effect) (s : Shared) → Left c mem s → e ≡ s.effect → after ≡ s.ctx → new ≡ s.memory → Leaves e c after mem new
left c after mem new e s h by_effect by_ctx by_memory =
    let first = subst (λ (x : Effect). Leaves x c s.ctx mem s.memory) (sym by_effect) h in
    let second = subst (λ (x : Ctx). Leaves e c x mem s.memory) (sym by_ctx) first in
    subst (λ (x : Memory). Leaves e c after mem x) (sym by_memory) second

unchanged : (c : Ctx) (mem : Memory) (e : Effect) → Left c mem (asks e c mem)
unchanged c mem effect.Done = tt
unchanged c mem effect.Halt = refl
unchanged c mem (effect.Trap vector error) = (refl, refl)
unchanged c mem (effect.Stop why) = (refl, refl)
unchanged c mem (effect.PortIn port width) = (refl, refl)
unchanged c mem (effect.PortOut port width value) = refl
unchanged c mem (effect.Load area) = (refl, refl)
unchanged c mem (effect.Store area value) = refl

ended_left : (c : Ctx) (mem : Memory) (a : Access) (p : Place) (done : Done) (store : Bool) → Left c mem (ended mem a p done store)
unfolding ended stored_at
ended_left c mem a place.Memory done true = tt
ended_left c mem a (place.Window x) done true = refl
ended_left c mem a p done false = tt

accessed_left : (c : Ctx) (insn : Insn) (len : ℕ) (mem : Memory) (a : Access) → Left c mem (settled c mem (accessed c insn len mem a))
accessed_left c insn len mem a =
    accessed_ends c insn len mem a (Left c mem) (unchanged c mem) (λ p read is. ended_left c mem a p (computed c insn len read) (stores c insn read a.way))

alone_left : (c : Ctx) (insn : Insn) (len : ℕ) (mem : Memory) → Left c mem (settled c mem (alone c insn len mem))
alone_left c insn len mem = alone_ends c insn len mem (Left c mem) (unchanged c mem) tt

with_access_left : (c : Ctx) (insn : Insn) (len : ℕ) (mem : Memory) (x : Option Access) → Left c mem (settled c mem (with_access c insn len mem x))
unfolding with_access
with_access_left c insn len mem None = alone_left c insn len mem
with_access_left c insn len mem (Some a) = accessed_left c insn len mem a

iret_left : (c : Ctx) (len : ℕ) (mem : Memory) → Left c mem (settled c mem (iret c len mem))
iret_left c len mem = iret_ends c len mem (Left c mem) (unchanged c mem) (λ frame. tt)

lidt_left : (c : Ctx) (len : ℕ) (mem : Memory) (a : Mem) → Left c mem (settled c mem (lidt c len mem a))
lidt_left c len mem a = lidt_ends c len mem a (Left c mem) (unchanged c mem) (λ operand. tt)

attempted_left : (c : Ctx) (insn : Insn) (len : ℕ) (mem : Memory) (o : Op) → Left c mem (settled c mem (attempted c insn len mem o))
unfolding attempted out
attempted_left c insn len mem (op.In port) = (refl, refl)
attempted_left c insn len mem (op.Out port) = refl
attempted_left c insn len mem (op.Int v) = (refl, refl)
attempted_left c insn len mem op.Ud2 = (refl, refl)
attempted_left c insn len mem op.Hlt = refl
attempted_left c insn len mem op.Iret = iret_left c len mem
attempted_left c insn len mem (op.Lidt a) = lidt_left c len mem a
attempted_left c insn len mem o = with_access_left c insn len mem (access_of c insn len)

pub shared_leaves : SharedLeaves
shared_leaves c insn len mem = attempted_left c insn len mem insn.op
