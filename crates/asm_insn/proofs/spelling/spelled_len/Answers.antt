use Rattle.std.proofs.Common.{arith}
use Rattle.asm_insn.proofs.Spelled.{len_some, len_none}
use Rattle.asm_insn.proofs.spelling.spelled_len.Goals as goal

pub returns-then-not-labelled : goal.returns-then-not-labelled
returns-then-not-labelled c = λ spell is. len_none spell is c.args.labels c.args.insn.now (λ k. let no : ⊥ = cc (c.labelled.ensures.1 k) in no)

pub returns : goal.returns
returns c = λ spell is. len_some spell is c.args.labels c.args.insn.now c.encode_labelled.result c.encode_labelled.new.into (omega arith) c.encode_labelled.ensures.canonical
