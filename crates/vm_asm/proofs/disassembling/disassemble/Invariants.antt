use Rattle.std.proofs.Common.{◌≤◌, ◌-◌, List, length}
use Rattle.std.specs.Prelude.{string_bytes}
use Rattle.vm_asm.specs.Disassembly.{Piece}
use Rattle.vm_asm.proofs.Pieces.{Begun}
use Rattle.vm_asm.proofs.disassembling.disassemble.Given as goal

abbrev pub invariant-loop-at : goal.invariant-loop-at
invariant-loop-at l = record {
  begun : (ps : List Piece) × Begun ps l.at l.code (string_bytes l.text) l.bytes.items;
  within : l.at ≤ length l.code;
}

abbrev pub decreases-loop-at : goal.decreases-loop-at
decreases-loop-at l = length l.code - l.at
