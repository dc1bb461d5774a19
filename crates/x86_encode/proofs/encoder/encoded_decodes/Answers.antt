use Rattle.std.proofs.Common.{ℕ, List, ◌++◌, length, sym, subst, arith}
use Rattle.std.proofs.Math.Seq.{take-append_seam}
use Rattle.std.proofs.lemmas.List.{length-append}
use Rattle.x86_grammar.specs.Grammar.{Spelled}
use Rattle.x86_decode.specs.Reading.{decoded}
use Rattle.x86_decode.proofs.Exact.{only}
use Rattle.x86_encode.proofs.encoder.encoded_decodes.Goals as goal

pub returns : goal.returns
unfolding decoded
returns c = λ insn b more k.
    let n = length-append b more in
    only (b ++ more) insn (length b) (omega arith) (subst (λ (l : List ℕ). Spelled l insn) (sym (take-append_seam b more)) k.spelled)
