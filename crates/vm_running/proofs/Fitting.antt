-- What an instruction and a delivery leave: RFLAGS has only the bits that are built, and memory keeps its size.
use Rattle.std.specs.Prelude.{Option, Some, None}
use Rattle.std.proofs.Common.{◌≡◌, ℕ, zero, suc, ◌+◌, ◌-◌, ◌*◌, ◌^◌, ◌<◌, ◌≤◌, Bool, true, false, List, length, refl, sym, subst, arith}
use Rattle.std.specs.Int.{bit_at}
use Rattle.vm_law.specs.Memory.{Memory, KeepsSize}
use Rattle.vm_law.specs.declared.context.Ctx.{Ctx}
use Rattle.vm_law.specs.declared.insn.Insn.{Insn}
use Rattle.vm_law.specs.declared.insn.Loc.TheVariants as loc
use Rattle.vm_law.specs.declared.insn.Op.{Op}
use Rattle.vm_law.specs.declared.insn.Op.TheVariants as op
use Rattle.vm_bus.specs.declared.area.Area.{Area}
use Rattle.vm_bus.specs.declared.area.Area.TheVariants as area
use Rattle.vm_bus.specs.Area.{area_in}
use Rattle.vm_bus.proofs.Inside.{IsPlaced, area_placed}
use Rattle.x86_alu.specs.Flags.{with_bit}
use Rattle.x86_op.specs.declared.access.Access.{Access}
use Rattle.x86_op.specs.Operand.{RAX}
use Rattle.x86_op.specs.Done.{Done}
use Rattle.x86_op.specs.Access.{access_of}
use Rattle.x86_op.specs.Table.{computed}
use Rattle.x86_fetch.specs.declared.fetching.Next.{Next}
use Rattle.x86_fetch.specs.declared.fetching.Next.TheVariants.{Local, Shared, Undefined, OutOfCode}
use Rattle.x86_fetch.specs.Fetching.{next_of}
use Rattle.x86_fetch.specs.Slices.{after_next, stepped, stepped_by}
use Rattle.x86_exec.specs.Shared as exec
use Rattle.x86_exec.specs.Shared.{asks, stored_at, ended, stores, accessed, alone, with_access, returned, iret, with_idt, lidt, out, attempted, settled, shared, completed_op, completed}
use Rattle.x86_exec.proofs.Chains.{accessed_ends, alone_ends, iret_ends, lidt_ends}
use Rattle.x86_trap.specs.Frame.{frame_of, frame_words, frame_address, has_room, is_ram}
use Rattle.x86_trap.specs.Gate.{gate_of}
use Rattle.x86_trap.specs.Delivery.{delivered, Delivered, entered, flags_in, through}
use Rattle.x86_trap.proofs.Frames.{size_written}
use Rattle.vm_running.proofs.Flags.{IsBuilt, masked_built, interrupt_built}
use Rattle.vm_running.proofs.Computing.{HasFlags, value_fits, passed_fits, computed_fits}

-- ---- one instruction

abbrev Fits : exec.Shared → Type 0
Fits s = HasFlags s.ctx

ended_fits : (mem : Memory) (a : Access) (p : _) (done : Done) (store : Bool) → HasFlags done.ctx → Fits (ended mem a p done store)
unfolding ended stored_at
ended_fits mem a p done true h = grind arith
ended_fits mem a p done false h = h

with_access_fits : (c : Ctx) (insn : Insn) (len : ℕ) (mem : Memory) (x : Option Access) → HasFlags c → Fits (settled c mem (with_access c insn len mem x))
unfolding with_access
with_access_fits c insn len mem None h = alone_ends c insn len mem Fits (λ e. h) (computed_fits c insn len 0 h)
with_access_fits c insn len mem (Some a) h =
    accessed_ends c insn len mem a Fits (λ e. h) (λ p read is. ended_fits mem a p (computed c insn len read) (stores c insn read a.way) (computed_fits c insn len read h))

returned_fits : (c : Ctx) (len : ℕ) (frame : List ℕ) → HasFlags (returned c len frame)
unfolding returned
returned_fits c len frame = masked_built _

idt_fits : (c : Ctx) (len : ℕ) (operand : List ℕ) → HasFlags c → HasFlags (with_idt c len operand)
unfolding with_idt
idt_fits c len operand h = passed_fits c len h

attempted_fits : (c : Ctx) (insn : Insn) (len : ℕ) (mem : Memory) (o : Op) → HasFlags c → Fits (settled c mem (attempted c insn len mem o))
unfolding attempted out
attempted_fits c insn len mem (op.In port) h = h
attempted_fits c insn len mem (op.Out port) h = passed_fits c len h
attempted_fits c insn len mem (op.Int v) h = h
attempted_fits c insn len mem op.Ud2 h = h
attempted_fits c insn len mem op.Hlt h = passed_fits c len h
attempted_fits c insn len mem op.Iret h = iret_ends c len mem Fits (λ e. h) (λ frame. returned_fits c len frame)
attempted_fits c insn len mem (op.Lidt a) h = lidt_ends c len mem a Fits (λ e. h) (λ operand. idt_fits c len operand h)
attempted_fits c insn len mem o h = with_access_fits c insn len mem (access_of c insn len) h

pub shared_fits : (c : Ctx) (insn : Insn) (len : ℕ) (mem : Memory) → HasFlags c → HasFlags (shared c insn len mem).ctx
shared_fits c insn len mem h = attempted_fits c insn len mem insn.op h

-- one that a port or a device answers
completed_op_fits : (c : Ctx) (insn : Insn) (len value : ℕ) (o : Op) → HasFlags c → HasFlags (completed_op c insn len value o)
unfolding completed_op
completed_op_fits c insn len value (op.In port) h = value_fits _ insn.width (loc.Reg RAX) _ (passed_fits c len h)
completed_op_fits c insn len value o h = computed_fits c insn len value h

pub completed_fits : (c : Ctx) (insn : Insn) (len value : ℕ) → HasFlags c → HasFlags (completed c insn len value)
completed_fits c insn len value h = completed_op_fits c insn len value insn.op h

-- ---- local instructions

next_fits : (c : Ctx) (x : Next) → HasFlags c → HasFlags (after_next c x)
next_fits c (Local insn len) h = computed_fits c insn len 0 h
next_fits c (Shared insn len) h = h
next_fits c Undefined h = h
next_fits c OutOfCode h = h

stepped_fits : (code : List ℕ) (c : Ctx) → HasFlags c → HasFlags (stepped code c)
unfolding stepped
stepped_fits code c h = next_fits c (next_of code c) h

pub slice_fits : (code : List ℕ) (c : Ctx) (n : ℕ) → HasFlags c → HasFlags (stepped_by code c n)
slice_fits code c zero h = h
slice_fits code c (suc n) h = stepped_fits code (stepped_by code c n) (slice_fits code c n h)

-- ---- a delivery

cleared : (n : ℕ) → n - 512 * bit_at n 9 ≡ with_bit n 9 false
unfolding with_bit
cleared n = omega arith

-- an interrupt gate clears IF, and a trap gate leaves it
gate_fits : (k : _) (n : ℕ) → IsBuilt n → IsBuilt (flags_in k n)
gate_fits k n h =
    let off : IsBuilt (n - 512 * bit_at n 9) = subst (λ (x : ℕ). IsBuilt x) (sym (cleared n)) (interrupt_built n false h) in
    grind arith

entered_fits : (c : Ctx) (gate : _) (at : ℕ) (nmi : Bool) → HasFlags c → HasFlags (entered c gate at nmi)
unfolding entered
entered_fits c gate at nmi h = gate_fits gate.kind c.rflags h

frame_long : (c : Ctx) (error : Option ℕ) → length (frame_of c error) ≡ 8 * length (frame_words c error)
unfolding frame_of
frame_long c (Some e) = refl
frame_long c None = refl

frame_low : (c : Ctx) (error : Option ℕ) → frame_address c error < 2 ^ 64
unfolding frame_address
frame_low c error = omega arith

words_many : (c : Ctx) (error : Option ℕ) → (0 < 8 * length (frame_words c error)) × (8 * length (frame_words c error) ≤ 2 ^ 64)
words_many c (Some e) = (omega arith, omega arith)
words_many c None = (omega arith, omega arith)

ram_placed : (at len ram : ℕ) (x : Area) → is_ram x ≡ true → IsPlaced at len ram x → at + len ≤ ram
ram_placed at len ram area.Ram e h = h
ram_placed at len ram area.Code e h = h
ram_placed at len ram (area.Lapic offset) e h = absurd (cc)
ram_placed at len ram (area.Ioapic offset) e h = absurd (cc)
ram_placed at len ram (area.Disk k offset) e h = absurd (cc)
ram_placed at len ram area.Noncanonical e h = absurd (cc)
ram_placed at len ram area.Split e h = absurd (cc)
ram_placed at len ram area.Nothing e h = absurd (cc)

frame_inside : (c : Ctx) (mem : Memory) (error : Option ℕ) → length mem.bytes < 2 ^ 64 → has_room c mem error ≡ true → frame_address c error + length (frame_of c error) ≤ length mem.bytes
unfolding has_room
frame_inside c mem error size room =
    let many = words_many c error in
    let n : ℕ = 8 * length (frame_words c error) in
    let inside = ram_placed (frame_address c error) n (length mem.bytes) (area_in mem (frame_address c error) n) room
    (area_placed (frame_address c error) n mem.code (length mem.bytes) (frame_low c error) many.1 size many.0) in
    let long = frame_long c error in
    omega arith

-- what it leaves
pub record DeliveryFits (c : Ctx) (mem : Memory) (d : Delivered) : Type 0 where
  pub flags : HasFlags d.ctx
  pub size : KeepsSize mem d.memory

through_if : (c : Ctx) (mem : Memory) (v : ℕ) (error : Option ℕ) (nmi : Bool) (gate : _) (b : Bool) → has_room c mem error ≡ b → length mem.bytes < 2 ^ 64 → HasFlags c
    → DeliveryFits c mem (through c mem v error nmi (Some gate))
unfolding through
through_if c mem v error nmi gate true e size h =
    rw e (record {
      flags = entered_fits c gate (frame_address c error) nmi h;
      size = record { code = refl; size = size_written mem (frame_address c error) (frame_of c error) (frame_inside c mem error size e) };
    })
through_if c mem v error nmi gate false e size h = rw e (record { flags = h; size = record { code = refl; size = refl } })

through_fits : (c : Ctx) (mem : Memory) (v : ℕ) (error : Option ℕ) (nmi : Bool) (gate : Option _) → length mem.bytes < 2 ^ 64 → HasFlags c
    → DeliveryFits c mem (through c mem v error nmi gate)
unfolding through
through_fits c mem v error nmi None size h = record { flags = h; size = record { code = refl; size = refl } }
through_fits c mem v error nmi (Some gate) size h = through_if c mem v error nmi gate (has_room c mem error) refl size h

pub delivery_fits : (c : Ctx) (mem : Memory) (v : ℕ) (error : Option ℕ) (nmi : Bool) → length mem.bytes < 2 ^ 64 → HasFlags c → DeliveryFits c mem (delivered c mem v error nmi)
unfolding delivered
delivery_fits c mem v error nmi size h = through_fits c mem v error nmi (gate_of c mem v) size h
