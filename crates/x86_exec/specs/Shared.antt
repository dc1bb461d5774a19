-- What one instruction does to its vCPU and to memory, and what it asks of the machine around it. c is the context before
-- the instruction, len its number of bytes.
-- Source: Intel SDM volume 2, the pages of the instructions, and volume 3, section 6.15.
use Rattle.std.specs.Prelude.{ℕ, ◌%◌, ◌^◌, Bool, true, false, List, drop, Option, Some, None, Result, Ok, Err, if◌then◌else◌}
use Rattle.byteorder.specs.Endian.{little_number, little_bytes}
use Rattle.vm_law.specs.Memory.{Memory, read_of, written}
use Rattle.vm_law.specs.declared.context.Ctx.{Ctx}
use Rattle.vm_law.specs.declared.insn.Width.{Width}
use Rattle.vm_law.specs.declared.insn.Width.TheVariants as width
use Rattle.vm_law.specs.declared.insn.Loc.TheVariants as loc
use Rattle.vm_law.specs.declared.insn.Mem.{Mem}
use Rattle.vm_law.specs.declared.insn.Op.{Op}
use Rattle.vm_law.specs.declared.insn.Op.TheVariants as op
use Rattle.vm_law.specs.declared.insn.Insn.{Insn}
use Rattle.vm_bus.specs.Area.{area_in}
use Rattle.x86_alu.specs.Operand.{span}
use Rattle.x86_op.specs.declared.access.Way.{Way}
use Rattle.x86_op.specs.declared.access.Way.TheVariants as way
use Rattle.x86_op.specs.declared.access.Access.{Access}
use Rattle.x86_op.specs.Operand.{RAX, RDX, RSP, register, with_register, value_at, with_value, passed}
use Rattle.x86_op.specs.Address.{address_of}
use Rattle.x86_op.specs.Done.{Done}
use Rattle.x86_op.specs.Flow.{masked_flags}
use Rattle.x86_op.specs.Table.{computed, faults, matches_accumulator}
use Rattle.x86_op.specs.Access.{access_of}
use Rattle.x86_exec.specs.declared.effect.Effect.{Effect}
use Rattle.x86_exec.specs.declared.effect.Effect.TheVariants as effect
use Rattle.x86_exec.specs.declared.effect.Stored.{Stored}
use Rattle.x86_exec.specs.declared.reached.Place.{Place}
use Rattle.x86_exec.specs.declared.reached.Place.TheVariants as place
use Rattle.x86_exec.specs.Steps.{◌>>=◌, ◌>>◌}
use Rattle.x86_exec.specs.Reached.{reached, bytes_at}

-- what is asked of the machine around the vCPU, context and memory after, and which bytes of memory were stored
pub record Shared : Type 0 where
  pub effect : Effect
  pub ctx : Ctx
  pub memory : Memory
  pub stored : Option Stored

-- memory stays
abbrev pub asks : Effect → Ctx → Memory → Shared
asks e c mem = record { effect = e; ctx = c; memory = mem; stored = None }

-- Below, Err is what is asked by an instruction that has changed nothing.

-- a MOV of 32 bits
unfoldable pub is_plain_op : Op → Width → Bool
is_plain_op (op.Mov l s) width.D = true
is_plain_op o w = false

abbrev pub is_plain : Insn → Bool
is_plain insn = is_plain_op insn.op insn.width

-- the number in memory, or the one that a device is to give
unfoldable pub number_at : Memory → Access → Place → Result ℕ Effect
number_at mem a place.Memory = Ok (little_number a.len (read_of mem a.at a.len))
number_at mem a (place.Window x) = Err (effect.Load x)

-- what is loaded; nothing for a mere store
unfoldable pub loaded : Memory → Access → Place → Way → Result ℕ Effect
loaded mem a p way.Load = number_at mem a p
loaded mem a p way.Store = Ok 0
loaded mem a p way.Modify = number_at mem a p
loaded mem a p way.Compare = number_at mem a p

-- a division that can't be done is #DE
unfoldable pub divides : Ctx → Insn → ℕ → Result (Unit {0}) Effect
divides c insn read = if faults c insn read then Err (effect.Trap 0 None) else Ok tt

-- whether there is a store; CMPXCHG stores where it finds what the accumulator holds
unfoldable pub stores : Ctx → Insn → ℕ → Way → Bool
stores c insn read way.Load = false
stores c insn read way.Store = true
stores c insn read way.Modify = true
stores c insn read way.Compare = matches_accumulator c insn read

-- what was computed is stored, in memory or at a device
unfoldable pub stored_at : Memory → Access → Done → Place → Shared
stored_at mem a done place.Memory = record {
  effect = effect.Done;
  ctx = done.ctx;
  memory = written mem a.at (little_bytes a.len done.stored);
  stored = Some (record { at = a.at; len = a.len });
}
stored_at mem a done (place.Window x) = asks (effect.Store x (done.stored % 2 ^ 32)) done.ctx mem

unfoldable pub ended : Memory → Access → Place → Done → Bool → Shared
ended mem a p done true = stored_at mem a done p
ended mem a p done false = asks effect.Done done.ctx mem

-- an instruction with an access
unfoldable pub accessed : Ctx → Insn → ℕ → Memory → Access → Result Shared Effect
accessed c insn len mem a = do
  p ← reached (is_plain insn) (area_in mem a.at a.len)
  read ← loaded mem a p a.way
  divides c insn read
  Ok (ended mem a p (computed c insn len read) (stores c insn read a.way))

-- one on registers and flags
unfoldable pub alone : Ctx → Insn → ℕ → Memory → Result Shared Effect
alone c insn len mem = do
  divides c insn 0
  Ok (asks effect.Done (computed c insn len 0).ctx mem)

unfoldable pub with_access : Ctx → Insn → ℕ → Memory → Option Access → Result Shared Effect
with_access c insn len mem None = alone c insn len mem
with_access c insn len mem (Some a) = accessed c insn len mem a

-- IRETQ: RIP, CS, RFLAGS, RSP and SS, of 8 bytes each, are popped; the selectors are ignored, and NMIs are let in again
unfoldable pub returned : Ctx → ℕ → List ℕ → Ctx
returned c len frame = record (with_register (passed c len) RSP (little_number 8 (drop 24 frame))) {
  rip = little_number 8 frame;
  rflags = masked_flags (little_number 8 (drop 16 frame));
  nmi_block = false;
}

unfoldable pub iret : Ctx → ℕ → Memory → Result Shared Effect
iret c len mem = do
  frame ← bytes_at mem (register c RSP) 40
  Ok (asks effect.Done (returned c len frame) mem)

-- LIDT: a limit of 2 bytes, and a base of 8; the operand's address counts from the next instruction
unfoldable pub with_idt : Ctx → ℕ → List ℕ → Ctx
with_idt c len operand = record (passed c len) { idt_limit = little_number 2 operand; idt_base = little_number 8 (drop 2 operand) }

unfoldable pub lidt : Ctx → ℕ → Memory → Mem → Result Shared Effect
lidt c len mem a = do
  operand ← bytes_at mem (address_of (passed c len) a) 10
  Ok (asks effect.Done (with_idt c len operand) mem)

-- the port that is named, or else DX
unfoldable pub port_of : Ctx → Option ℕ → ℕ
port_of c None = register c RDX % 2 ^ 16
port_of c (Some port) = port

-- AL, AX or EAX goes to a port
unfoldable pub out : Ctx → ℕ → Memory → Width → Option ℕ → Shared
out c len mem w port = asks (effect.PortOut (port_of c port) w (value_at c w 0 (loc.Reg RAX) % 2 ^ 32)) (passed c len) mem

-- the instruction
unfoldable pub attempted : Ctx → Insn → ℕ → Memory → Op → Result Shared Effect
attempted c insn len mem (op.In port) = Err (effect.PortIn (port_of c port) insn.width)
attempted c insn len mem (op.Out port) = Ok (out c len mem insn.width port)
attempted c insn len mem (op.Int v) = Err (effect.Trap v None)
attempted c insn len mem op.Ud2 = Err (effect.Trap 6 None)
attempted c insn len mem op.Hlt = Ok (asks effect.Halt (passed c len) mem)
attempted c insn len mem op.Iret = iret c len mem
attempted c insn len mem (op.Lidt a) = lidt c len mem a
attempted c insn len mem o = with_access c insn len mem (access_of c insn len)

abbrev pub settled : Ctx → Memory → Result Shared Effect → Shared
settled c mem (Ok s) = s
settled c mem (Err e) = asks e c mem

abbrev pub shared : Ctx → Insn → ℕ → Memory → Shared
shared c insn len mem = settled c mem (attempted c insn len mem insn.op)

-- what a port or a device answered goes to AL, AX or EAX, or to the register of a MOV
unfoldable pub completed_op : Ctx → Insn → ℕ → ℕ → Op → Ctx
completed_op c insn len value (op.In port) = with_value (passed c len) insn.width (loc.Reg RAX) (value % span insn.width)
completed_op c insn len value o = (computed c insn len value).ctx

abbrev pub completed : Ctx → Insn → ℕ → ℕ → Ctx
completed c insn len value = completed_op c insn len value insn.op
