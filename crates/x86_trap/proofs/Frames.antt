-- The bytes of a frame, and what a write leaves.
use Rattle.std.proofs.Common.{◌≡◌, ℕ, ◌+◌, ◌≤◌, List, [], ◌∷◌, length, drop, Option, Some, None, refl, arith}
use Rattle.std.specs.Prelude.{is_some, unwrap_or, if◌then◌else◌}
use Rattle.std.specs.List.{flat_map}
use Rattle.std.proofs.lemmas.Grind.{common_steps}
use Rattle.byteorder.specs.Endian.{little_bytes}
use Rattle.vm_law.specs.declared.context.Ctx.{Ctx}
use Rattle.vm_law.specs.Memory.{Memory, code_of, written}
use Rattle.x86_trap.specs.Frame.{frame_of, rsp_of}

-- without an error code the frame is what stands behind the first word
pub frame_behind : (c : Ctx) (error : Option ℕ) → drop (if is_some error then 0 else 8) (flat_map (little_bytes 8) (unwrap_or error 0 ∷ c.rip ∷ 0x08 ∷ c.rflags ∷ rsp_of c ∷ 0x10 ∷ [])) ≡ frame_of c error
unfolding frame_of
frame_behind c (Some e) = refl
frame_behind c None = refl

pub size_written : (mem : Memory) (at : ℕ) (piece : List ℕ) → at + length piece ≤ length mem.bytes → length (written mem at piece).bytes ≡ length mem.bytes
size_written mem at piece inside = grind (arith, common_steps)

pub code_written : (mem : Memory) (at : ℕ) (piece : List ℕ) → mem.code ≤ at → at + length piece ≤ length mem.bytes → code_of (written mem at piece) ≡ code_of mem
code_written mem at piece above inside = grind (arith, common_steps)

pub ruleset writes = (size_written, code_written)
