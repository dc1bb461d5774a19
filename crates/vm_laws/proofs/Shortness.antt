-- No instruction stores more than a page, and what it stores leaves the other bytes of the code.
use Rattle.std.specs.Prelude.{if◌then◌else◌}
use Rattle.std.proofs.Common.{◌≡◌, ℕ, ◌+◌, ◌<◌, ◌≤◌, ◌^◌, Bool, true, false, length, Option, Some, None, Ok, Err, IfOk, sym, ap, subst, arith}
use Rattle.vm_law.specs.Memory.{Memory, code_of, written}
use Rattle.vm_law.specs.declared.context.Ctx.{Ctx}
use Rattle.vm_law.specs.declared.insn.Insn.{Insn}
use Rattle.vm_law.specs.declared.insn.Op.{Op}
use Rattle.vm_law.specs.declared.insn.Op.TheVariants as op
use Rattle.vm_bus.specs.declared.area.Area.{Area}
use Rattle.vm_bus.specs.declared.area.Area.TheVariants as area
use Rattle.vm_bus.specs.Area.{area_in}
use Rattle.x86_op.specs.declared.access.Access.{Access}
use Rattle.x86_op.specs.Access.{access_of}
use Rattle.x86_op.specs.Done.{Done}
use Rattle.x86_op.specs.Table.{computed}
use Rattle.x86_op.proofs.Bounds.{IsBounded, Bounded, access_bounded}
use Rattle.x86_exec.specs.declared.effect.Effect.{Effect}
use Rattle.x86_exec.specs.declared.effect.Stored.{Stored}
use Rattle.x86_exec.specs.Reached.{reached, windowed}
use Rattle.x86_exec.specs.Shared.{Shared, is_plain, stored_at, ended, stores, accessed, with_access, out, attempted, settled, shared}
use Rattle.x86_exec.specs.Kept.{Stores}
use Rattle.x86_exec.proofs.Chains.{accessed_ends, alone_ends, iret_ends, lidt_ends}
use Rattle.x86_exec.proofs.Stores.{shared_stores}
use Rattle.x86_fetch.specs.Kept.{ChangesOnly}
use Rattle.x86_fetch.proofs.Changes.{write_changes}

abbrev IsShort : Option Stored → Type 0
IsShort None = Unit {0}
IsShort (Some r) = r.len ≤ 4096

abbrev Short : Shared → Type 0
Short s = IsShort s.stored

by_store : (mem : Memory) (a : Access) (p : _) (done : Done) (store : Bool) → Short (stored_at mem a done p) → Short (ended mem a p done store)
unfolding ended
by_store mem a p done true h = h
by_store mem a p done false h = tt

if_ok : (mem : Memory) (a : Access) (b : Bool) (x : _) (e : Effect) → ((done : Done) → Short (stored_at mem a done x)) → IfOk (if b then Ok x else Err e) (λ p. (done : Done) → Short (stored_at mem a done p))
if_ok mem a true x e h = h
if_ok mem a false x e h = tt

reached_short : (mem : Memory) (a : Access) (plain : Bool) (x : Area) → a.len ≤ 8 → IfOk (reached plain x) (λ p. (done : Done) → Short (stored_at mem a done p))
unfolding reached windowed stored_at
reached_short mem a plain area.Ram short = λ done. omega arith
reached_short mem a plain area.Code short = λ done. omega arith
reached_short mem a plain (area.Lapic offset) short = if_ok mem a _ _ _ (λ done. tt)
reached_short mem a plain (area.Ioapic offset) short = if_ok mem a _ _ _ (λ done. tt)
reached_short mem a plain (area.Disk k offset) short = if_ok mem a _ _ _ (λ done. tt)
reached_short mem a plain area.Noncanonical short = tt
reached_short mem a plain area.Split short = tt
reached_short mem a plain area.Nothing short = tt

accessed_short : (c : Ctx) (insn : Insn) (len : ℕ) (mem : Memory) (a : Access) → IsBounded a → Short (settled c mem (accessed c insn len mem a))
accessed_short c insn len mem a bounded =
    accessed_ends c insn len mem a Short (λ e. tt) (λ p read is.
    by_store mem a p (computed c insn len read) (stores c insn read a.way)
    (subst (λ r. IfOk r (λ p. (done : Done) → Short (stored_at mem a done p))) is (reached_short mem a (is_plain insn) (area_in mem a.at a.len) bounded.short) (computed c insn len read)))

with_access_short : (c : Ctx) (insn : Insn) (len : ℕ) (mem : Memory) (x : Option Access) → Bounded x → Short (settled c mem (with_access c insn len mem x))
unfolding with_access
with_access_short c insn len mem None bounded = alone_ends c insn len mem Short (λ e. tt) tt
with_access_short c insn len mem (Some a) bounded = accessed_short c insn len mem a bounded

attempted_short : (c : Ctx) (insn : Insn) (len : ℕ) (mem : Memory) (o : Op) → Short (settled c mem (attempted c insn len mem o))
unfolding attempted out
attempted_short c insn len mem (op.In port) = tt
attempted_short c insn len mem (op.Out port) = tt
attempted_short c insn len mem (op.Int v) = tt
attempted_short c insn len mem op.Ud2 = tt
attempted_short c insn len mem op.Hlt = tt
attempted_short c insn len mem op.Iret = iret_ends c len mem Short (λ e. tt) (λ frame. tt)
attempted_short c insn len mem (op.Lidt a) = lidt_ends c len mem a Short (λ e. tt) (λ operand. tt)
attempted_short c insn len mem o = with_access_short c insn len mem (access_of c insn len) (access_bounded c insn len)

shared_short : (c : Ctx) (insn : Insn) (len : ℕ) (mem : Memory) → Short (shared c insn len mem)
shared_short c insn len mem = attempted_short c insn len mem insn.op

-- the code after an instruction: nothing was stored, or it differs in the bytes that were
abbrev pub CodeAfter : Option Stored → Memory → Memory → Type 0
CodeAfter None mem new = code_of new ≡ code_of mem
CodeAfter (Some r) mem new = (r.len ≤ 4096) × ChangesOnly (code_of mem) (code_of new) r.at r.len

code_after : (o : Option Stored) (mem new : Memory) → Stores o mem new → IsShort o → CodeAfter o mem new
code_after None mem new h s = ap (λ (m : Memory). code_of m) h
code_after (Some r) mem new h s =
    let long : length h.piece ≡ r.len = h.long in
    let c : ChangesOnly (code_of mem) (code_of (written mem r.at h.piece)) r.at (length h.piece) = write_changes mem r.at h.piece (subst (λ (n : ℕ). r.at + n ≤ length mem.bytes) (sym long) h.inside) in
    (s, subst (λ (m : Memory). ChangesOnly (code_of mem) (code_of m) r.at r.len) (sym h.there) (subst (λ (n : ℕ). ChangesOnly (code_of mem) (code_of (written mem r.at h.piece)) r.at n) long c))

pub shared_code : (c : Ctx) (insn : Insn) (len : ℕ) (mem : Memory) → length mem.bytes < 2 ^ 64 → CodeAfter (shared c insn len mem).stored mem (shared c insn len mem).memory
shared_code c insn len mem size = code_after _ mem _ (shared_stores c insn len mem size) (shared_short c insn len mem)
