use Rattle.std.proofs.Common.{◌≡◌, ◌≤◌, ◌<◌, length, arith}
use Rattle.text_reader.proofs.Numerals.{next_digit}
use Rattle.text_reader.proofs.digits.number.Goals as goal

pub loop-b-preserved : goal.loop-b-preserved
loop-b-preserved c =
    let inside : c.loop-b.b-index < length c.args.digits.now = omega arith in
    let some : 1 ≤ c.args.base = omega arith in
    record {
      told = next_digit c.args.base c.loop-b.n c.args.digits.now c.loop-b.b-index c.in_ok-digit.digit c.capped-n.result some inside c.in_ok-digit.ensures.value (rw (c.from.ensures, c.from-in-loop-b.ensures) at c.capped-n.ensures) _ c.loop-b.invariant.told;
      small = omega arith;
    }
