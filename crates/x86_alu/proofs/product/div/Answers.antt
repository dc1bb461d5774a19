use Rattle.std.proofs.Common.{◌≡◌, ◌+◌, ◌*◌, ◌/◌, ◌%◌, ◌^◌, Bool, not, ◌||◌, ap, ap₂, sym, ◌∙◌, arith, eq-eqb}
use mathlib.Core.Bool.{beq}
use Rattle.x86_alu.specs.Operand.{span, residue}
use Rattle.x86_alu.specs.Product.{integer, fits, quotient_of, remainder_of, div_faults, div_flags}
use Rattle.x86_alu.proofs.Integers.{quotient_from, remainder_from, dividend_is, faults_from, size_pos_of}
use Rattle.x86_alu.proofs.product.div.Goals as goal
use Rattle.x86_alu.proofs.product.div.Goals.{After-with_flags}

pub returns-then-by-eq0-clause-faults : goal.returns-then-by-eq0-clause-faults
unfolding div_faults
returns-then-by-eq0-clause-faults c =
    sym (ap (λ (b : Bool). b || not (fits c.args.signed (span c.args.width) (quotient_of c.args.signed (span c.args.width) c.args.high c.args.low c.args.by)))
    (eq-eqb c.args.by 0 c.if-by-eq0.true))

pub returns-then-not-fits-clause-faults : goal.returns-then-not-fits-clause-faults
returns-then-not-fits-clause-faults c = ap not (sym c.if-not-fits.true ∙ c.fits.ensures.fits) ∙ faults_from c.args.signed (span c.args.width) c.args.high c.args.low c.args.by c.wide_mask_of.result
    (c.from.result * 2 ^ c.size_of.result % 2 ^ 128 + c.from-2.result) c.from-mask.result c.from-3.result
    c.magnitude-negative.result.0 c.magnitude-by_negative.result.0 c.magnitude-negative.result.1 c.magnitude-by_negative.result.1
    c.wide_mask_of.ensures
    (dividend_is c.args.width c.args.high c.args.low c.from.result c.from-2.result c.size_of.result c.requires.high_fits c.from.ensures c.from-2.ensures c.size_of.ensures)
    (omega arith) c.from-3.ensures
    (size_pos_of c.magnitude-by_negative.result.1 c.args.by c.from-3.result c.magnitude-by_negative.ensures.some c.from-3.ensures c.if-by-eq0.false)
    c.magnitude-negative.ensures.value c.magnitude-by_negative.ensures.value c.if-by-eq0.false

pub returns-clause-faults : goal.returns-clause-faults
returns-clause-faults c = ap not (sym c.if-not-fits.false ∙ c.fits.ensures.fits) ∙ faults_from c.args.signed (span c.args.width) c.args.high c.args.low c.args.by c.wide_mask_of.result
    (c.from.result * 2 ^ c.size_of.result % 2 ^ 128 + c.from-2.result) c.from-mask.result c.from-3.result
    c.magnitude-negative.result.0 c.magnitude-by_negative.result.0 c.magnitude-negative.result.1 c.magnitude-by_negative.result.1
    c.wide_mask_of.ensures
    (dividend_is c.args.width c.args.high c.args.low c.from.result c.from-2.result c.size_of.result c.requires.high_fits c.from.ensures c.from-2.ensures c.size_of.ensures)
    (omega arith) c.from-3.ensures
    (size_pos_of c.magnitude-by_negative.result.1 c.args.by c.from-3.result c.magnitude-by_negative.ensures.some c.from-3.ensures c.if-by-eq0.false)
    c.magnitude-negative.ensures.value c.magnitude-by_negative.ensures.value c.if-by-eq0.false

quotient_is : (c : After-with_flags) → quotient_of c.args.signed (span c.args.width) c.args.high c.args.low c.args.by
    ≡ integer (not (beq c.magnitude-negative.result.0 c.magnitude-by_negative.result.0)) (c.magnitude-negative.result.1 / c.magnitude-by_negative.result.1)
quotient_is c = quotient_from c.args.signed (span c.args.width) c.args.high c.args.low c.args.by c.wide_mask_of.result
    (c.from.result * 2 ^ c.size_of.result % 2 ^ 128 + c.from-2.result) c.from-mask.result c.from-3.result
    c.magnitude-negative.result.0 c.magnitude-by_negative.result.0 c.magnitude-negative.result.1 c.magnitude-by_negative.result.1
    c.wide_mask_of.ensures
    (dividend_is c.args.width c.args.high c.args.low c.from.result c.from-2.result c.size_of.result c.requires.high_fits c.from.ensures c.from-2.ensures c.size_of.ensures)
    (omega arith) c.from-3.ensures
    (size_pos_of c.magnitude-by_negative.result.1 c.args.by c.from-3.result c.magnitude-by_negative.ensures.some c.from-3.ensures c.if-by-eq0.false)
    c.magnitude-negative.ensures.value c.magnitude-by_negative.ensures.value

remainder_is : (c : After-with_flags) → remainder_of c.args.signed (span c.args.width) c.args.high c.args.low c.args.by
    ≡ integer c.magnitude-negative.result.0 (c.magnitude-negative.result.1 % c.magnitude-by_negative.result.1)
remainder_is c = remainder_from c.args.signed (span c.args.width) c.args.high c.args.low c.args.by c.wide_mask_of.result
    (c.from.result * 2 ^ c.size_of.result % 2 ^ 128 + c.from-2.result) c.from-mask.result c.from-3.result
    c.magnitude-negative.result.0 c.magnitude-by_negative.result.0 c.magnitude-negative.result.1 c.magnitude-by_negative.result.1
    c.wide_mask_of.ensures
    (dividend_is c.args.width c.args.high c.args.low c.from.result c.from-2.result c.size_of.result c.requires.high_fits c.from.ensures c.from-2.ensures c.size_of.ensures)
    (omega arith) c.from-3.ensures
    c.magnitude-negative.ensures.value c.magnitude-by_negative.ensures.value

pub returns-clause-quotient : goal.returns-clause-quotient
returns-clause-quotient c =
    let mask : c.from-mask.result + 1 ≡ span c.args.width = omega arith in
    c.operand_of.ensures.operand ∙ ap₂ residue mask (sym (quotient_is c))

pub returns-clause-remainder : goal.returns-clause-remainder
returns-clause-remainder c =
    let mask : c.from-mask.result + 1 ≡ span c.args.width = omega arith in
    c.operand_of-2.ensures.operand ∙ ap₂ residue mask (sym (remainder_is c))

pub returns-clause-flags : goal.returns-clause-flags
unfolding div_flags
returns-clause-flags c = c.with_flags.ensures
