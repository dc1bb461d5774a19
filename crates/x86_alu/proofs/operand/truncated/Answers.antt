use Rattle.std.proofs.Common.{arith, ◌≡◌, ◌+◌}
use Rattle.x86_alu.specs.Operand.{size_of, span}
use Rattle.x86_alu.proofs.Masks.{low_bits}
use Rattle.x86_alu.proofs.operand.truncated.Goals as goal

pub returns : goal.returns
returns c =
    let mask : c.from.result + 1 ≡ span c.args.width = omega arith in
    low_bits c.args.number (size_of c.args.width) c.from.result mask
