use Rattle.std.proofs.Common.{◌≡◌, ◌≤◌, ◌^◌, drop}
use Rattle.text_reader.proofs.Numerals.{cap, number_after}
use Rattle.text_reader.proofs.digits.number.Given as goal

abbrev pub invariant-loop-b : goal.invariant-loop-b
invariant-loop-b l = record {
  told : cap (number_after l.base l.n (drop l.b-index l.digits)) ≡ cap (number_after l.base 0 l.digits);
  small : l.n ≤ 2 ^ 64;
}
