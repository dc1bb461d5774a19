use Rattle.std.proofs.Common.{◌≡◌, ◌-◌, ◌/◌, ◌^◌, ℕ, sym, ap, ◌∙◌, arith, div-le_self, lt_of_le_of_lt}
use Rattle.x86_alu.specs.Operand.{span}
use Rattle.x86_alu.proofs.Moves.{sar_high, sar_low}
use Rattle.x86_alu.proofs.shifts.sar.Goals as goal

pub returns-then-is_negative : goal.returns-then-is_negative
returns-then-is_negative c =
    let mask : c.mask_of-mask.result ≡ span c.args.width - 1 = omega arith in
    record {
      result = ap (λ (x : ℕ). x - (x - c.args.a) / 2 ^ c.args.n) mask
          ∙ sym (sar_high (span c.args.width) c.args.a (2 ^ c.args.n) (sym c.is_negative.ensures ∙ c.if-is_negative.true) c.requires.fits);
      fits = omega arith;
    }

pub returns-else-is_negative : goal.returns-else-is_negative
returns-else-is_negative c = record {
  result = sym (sar_low (span c.args.width) c.args.a (2 ^ c.args.n) (sym c.is_negative.ensures ∙ c.if-is_negative.false) c.requires.fits);
  fits = lt_of_le_of_lt (div-le_self c.args.a (2 ^ c.args.n)) c.requires.fits;
}
