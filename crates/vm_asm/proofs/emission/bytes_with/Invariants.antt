use Rattle.std.proofs.Common.{◌≡◌, [], drop, length}
use Rattle.vm_asm.specs.Assembly.{put_all}
use Rattle.vm_asm.specs.Layout.{end_behind}
use Rattle.asm_insn.specs.Spelling.{Speller, IsSpeller}
use Rattle.vm_asm.proofs.emission.bytes_with.Given as goal

abbrev pub invariant-loop-placed : goal.invariant-loop-placed
invariant-loop-placed l = record {
  told : (spell : Speller) → IsSpeller spell
      → put_all spell l.places l.out.items (drop l.placed-index l.statements) ≡ put_all spell l.places [] l.statements;
  end : end_behind (length l.out.items) (drop l.placed-index l.statements) ≡ end_behind 0 l.statements;
}
