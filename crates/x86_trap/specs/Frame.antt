-- What a delivery pushes.
-- Source: Intel SDM volume 3, sections 6.14.2 (the stack frame of 64-bit mode) and 6.13 (error codes).
use Rattle.std.specs.Prelude.{ℕ, ◌+◌, ◌-◌, ◌*◌, ◌%◌, ◌^◌, List, [], ◌∷◌, ◌++◌, length, slice_index, option_to_list, Bool, true, false, Option}
use Rattle.std.specs.List.{flat_map}
use Rattle.byteorder.specs.Endian.{little_bytes}
use Rattle.vm_law.specs.declared.context.Ctx.{Ctx}
use Rattle.vm_law.specs.Memory.{Memory}
use Rattle.vm_bus.specs.declared.area.Area.{Area}
use Rattle.vm_bus.specs.declared.area.Area.TheVariants as area
use Rattle.vm_bus.specs.Area.{area_in}

-- the selectors, which are the same in every context, since segments are not modelled
abbrev pub cs : ℕ
cs = 0x08

abbrev pub ss : ℕ
ss = 0x10

-- RSP by its number among the registers
abbrev pub RSP : ℕ
RSP = 4

abbrev pub rsp_of : Ctx → ℕ
rsp_of c = slice_index c.regs RSP

-- from its lowest address up
abbrev pub frame_words : Ctx → Option ℕ → List ℕ
frame_words c error = option_to_list error ++ c.rip ∷ cs ∷ c.rflags ∷ rsp_of c ∷ ss ∷ []

-- each of 8 bytes
unfoldable pub frame_of : Ctx → Option ℕ → List ℕ
frame_of c error = flat_map (little_bytes 8) (frame_words c error)

-- the stack is aligned to 16 bytes first, and the frame ends there; addresses are counted modulo 2 ^ 64
unfoldable pub frame_address : Ctx → Option ℕ → ℕ
frame_address c error = (rsp_of c - rsp_of c % 16 + (2 ^ 64 - 8 * length (frame_words c error))) % 2 ^ 64

abbrev pub is_ram : Area → Bool
is_ram area.Ram = true
is_ram x = false

-- whether the frame is in RAM above the code
unfoldable pub has_room : Ctx → Memory → Option ℕ → Bool
has_room c mem error = is_ram (area_in mem (frame_address c error) (8 * length (frame_words c error)))
