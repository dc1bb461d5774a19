-- The delivery of an interrupt or exception. c is the vCPU's context and mem is memory before it, v the vector.
-- Source: Intel SDM volume 3, sections 6.12.1 (gates and IF), 6.14 (64-bit mode) and 6.7.1 (NMIs).
use Rattle.std.specs.Prelude.{ℕ, ◌-◌, ◌*◌, ◌^◌, slice_set, Bool, false, ◌||◌, Option, Some, None, Result, Ok, Err, if◌then◌else◌}
use Rattle.std.specs.Int.{bit_at}
use Rattle.vm_law.specs.declared.context.Ctx.{Ctx}
use Rattle.vm_law.specs.declared.context.Stop.{Stop}
use Rattle.vm_law.specs.declared.context.Stop.TheVariants as stop
use Rattle.vm_law.specs.Memory.{Memory, written}
use Rattle.x86_trap.specs.declared.gate.Gate.{Gate}
use Rattle.x86_trap.specs.declared.gate.GateKind.{GateKind}
use Rattle.x86_trap.specs.declared.gate.GateKind.TheVariants.{Interrupt, Trap}
use Rattle.x86_trap.specs.Gate.{gate_of}
use Rattle.x86_trap.specs.Frame.{RSP, frame_of, frame_address, has_room}

-- the answer, and context and memory after it
pub record Delivered : Type 0 where
  pub answer : Result (Unit {0}) Stop
  pub ctx : Ctx
  pub memory : Memory

-- at a Stop nothing changes
abbrev pub stopped : Ctx → Memory → Stop → Delivered
stopped c mem why = record { answer = Err why; ctx = c; memory = mem }

-- the interrupt flag's place in RFLAGS
abbrev pub IF : ℕ
IF = 9

-- an interrupt gate clears IF, and a trap gate leaves it
abbrev pub flags_in : GateKind → ℕ → ℕ
flags_in Interrupt flags = flags - 2 ^ IF * bit_at flags IF
flags_in Trap flags = flags

-- the handler's first context, with RSP at the frame. An NMI blocks further ones
unfoldable pub entered : Ctx → Gate → ℕ → Bool → Ctx
entered c gate at nmi = record c {
  regs = slice_set c.regs RSP at;
  rip = gate.target;
  rflags = flags_in gate.kind c.rflags;
  shadow = false;
  nmi_block = nmi || c.nmi_block;
}

unfoldable pub through : Ctx → Memory → ℕ → Option ℕ → Bool → Option Gate → Delivered
through c mem v error nmi None = stopped c mem (stop.Gate v)
through c mem v error nmi (Some gate) =
    if has_room c mem error then record {
      answer = Ok tt;
      ctx = entered c gate (frame_address c error) nmi;
      memory = written mem (frame_address c error) (frame_of c error);
    }
    else stopped c mem (stop.Frame v)

unfoldable pub delivered : Ctx → Memory → ℕ → Option ℕ → Bool → Delivered
delivered c mem v error nmi = through c mem v error nmi (gate_of c mem v)
