use Rattle.std.proofs.Common.{rules, refl}
use Rattle.asm_insn.proofs.Spelled.{adds_some, spelled_none}
use Rattle.vm_asm.proofs.spelling.put_spelling.Goals as goal

pub returns-then-not-labelled : goal.returns-then-not-labelled
returns-then-not-labelled c = λ spell is. (spelled_none spell is c.args.labels c.args.insn.now (λ k. let no : ⊥ = cc (c.labelled.ensures.1 k) in no), refl)

pub returns : goal.returns
returns c = λ spell is. adds_some spell is c.args.labels c.args.insn.now c.args.out.now.items _ c.encode_labelled-count.result c.encode_labelled-count.new.into c.encode_labelled-count.ensures.canonical (search rules)
