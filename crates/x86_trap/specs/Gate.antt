-- The gate of a vector in the interrupt descriptor table. c is the vCPU's context and mem is memory.
-- Source: Intel SDM volume 3, sections 6.10, 6.11 and 6.14.1 (gates of 64-bit mode).
use Rattle.std.specs.Prelude.{ℕ, ◌+◌, ◌*◌, ◌%◌, ◌^◌, List, length, drop, slice_index, Bool, true, false, ◌&&◌, ◌==◌, nat_le, Option, Some, None, if◌then◌else◌}
use Rattle.std.specs.Option.{option_map}
use Rattle.std.specs.Int.{bit_at}
use Rattle.byteorder.specs.Endian.{little_number}
use Rattle.vm_law.specs.declared.context.Ctx.{Ctx}
use Rattle.vm_law.specs.Memory.{Memory, read_of}
use Rattle.vm_bus.specs.declared.area.Area.{Area}
use Rattle.vm_bus.specs.declared.area.Area.TheVariants as area
use Rattle.vm_bus.specs.Area.{area_in}
use Rattle.x86_trap.specs.declared.gate.Gate.{Gate}
use Rattle.x86_trap.specs.declared.gate.GateKind.{GateKind}
use Rattle.x86_trap.specs.declared.gate.GateKind.TheVariants.{Interrupt, Trap}

-- each gate has 16 bytes
abbrev pub gate_address : Ctx → ℕ → ℕ
gate_address c v = (c.idt_base + 16 * v) % 2 ^ 64

-- RAM, with or without code
abbrev pub is_memory : Area → Bool
is_memory area.Ram = true
is_memory area.Code = true
is_memory x = false

-- the gate ends by the table's limit, which is the offset of its last byte, and is in memory
abbrev pub has_gate : Ctx → Memory → ℕ → Bool
has_gate c mem v = nat_le (16 * v + 15) c.idt_limit && is_memory (area_in mem (gate_address c v) 16)

-- byte 5: bit 7 (present) is set, and bits 4 to 0 are the type; bits 6 and 5 (the privilege level) may be any
abbrev pub kind_of : ℕ → Option GateKind
kind_of byte =
    if bit_at byte 7 == 0 then None
    else if byte % 32 == 0x0E then Some Interrupt
    else if byte % 32 == 0x0F then Some Trap
    else None

-- bits 0 to 15 of the target are in bytes 0 and 1, 16 to 31 in 6 and 7, 32 to 63 in 8 to 11
abbrev pub target_of : List ℕ → ℕ
target_of bytes = little_number 2 bytes + 2 ^ 16 * little_number 2 (drop 6 bytes) + 2 ^ 32 * little_number 4 (drop 8 bytes)

-- the gate in 16 bytes, if it is one of an interrupt or a trap without a stack of its own (bits 0 to 2 of byte 4)
unfoldable pub gate_in : List ℕ → Option Gate
gate_in bytes =
    if slice_index bytes 4 % 8 == 0 then option_map (λ kind. record { target = target_of bytes; kind = kind }) (kind_of (slice_index bytes 5))
    else None

unfoldable pub gate_of : Ctx → Memory → ℕ → Option Gate
gate_of c mem v = if has_gate c mem v then gate_in (read_of mem (gate_address c v) 16) else None
