use Rattle.std.proofs.Common.{arith}
use Rattle.x86_decode.proofs.Exact.{read_length}
use Rattle.x86_decode.proofs.decoder.decode_at.Goals as goal

pub overflow_sub-result : goal.overflow_sub-result
overflow_sub-result c =
    let l = read_length c.args.bytes.now (c.in_ok-insn.insn, c.in_ok-insn.rest.now) (λ i. omega (arith, c.type_inv.bytes i)) c.in_ok-insn.ensures in
    omega arith

pub overflow_cast-result : goal.overflow_cast-result
overflow_cast-result c =
    let l = read_length c.args.bytes.now (c.in_ok-insn.insn, c.in_ok-insn.rest.now) (λ i. omega (arith, c.type_inv.bytes i)) c.in_ok-insn.ensures in
    omega arith
