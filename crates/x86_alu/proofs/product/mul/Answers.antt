use Rattle.std.proofs.Common.{◌≡◌, ◌+◌, ◌*◌, ◌/◌, ◌%◌, ◌^◌, ◌<◌, ℕ, Bool, not, false, ap, ap₂, sym, ◌∙◌, arith, pow_pos}
use mathlib.Core.Bool.{beq}
use Rattle.x86_alu.specs.Operand.{span, size_of, residue}
use Rattle.x86_alu.specs.Flags.{with_flags}
use Rattle.x86_alu.specs.Product.{integer, fits, product_of, product_bits, mul_flags}
use Rattle.x86_alu.proofs.Integers.{product_from, upper_half}
use Rattle.x86_alu.proofs.product.mul.Goals as goal
use Rattle.x86_alu.proofs.product.mul.Goals.{After-with_flags}

-- the product by the signs and sizes that the code has
product_is : (c : After-with_flags) → product_of c.args.signed (span c.args.width) c.args.a c.args.b
    ≡ integer (not (beq c.magnitude-a_negative.result.0 c.magnitude-b_negative.result.0)) (c.magnitude-a_negative.result.1 * c.magnitude-b_negative.result.1)
product_is c = product_from c.args.signed (span c.args.width) c.args.a c.args.b c.from-mask.result c.from.result c.from-2.result
    c.magnitude-a_negative.result.0 c.magnitude-b_negative.result.0 c.magnitude-a_negative.result.1 c.magnitude-b_negative.result.1
    (omega arith) c.from.ensures c.from-2.ensures c.magnitude-a_negative.ensures.value c.magnitude-b_negative.ensures.value

bits_are : (c : After-with_flags) → c.operand_of-product.result ≡ product_bits c.args.signed (span c.args.width) c.args.a c.args.b
unfolding product_bits
bits_are c = c.operand_of-product.ensures.operand ∙ ap₂ residue c.wide_mask_of.ensures (sym (product_is c))

fits_is : (c : After-with_flags) → c.fits-over.result
    ≡ fits c.args.signed (span c.args.width) (product_of c.args.signed (span c.args.width) c.args.a c.args.b)
fits_is c =
    let mask : c.from-mask.result + 1 ≡ span c.args.width = omega arith in
    c.fits-over.ensures.fits ∙ ap₂ (fits c.args.signed) mask (sym (product_is c))

pub returns-clause-lower : goal.returns-clause-lower
returns-clause-lower c = c.truncated.ensures ∙ ap (λ (x : ℕ). x % span c.args.width) (bits_are c)

pub returns-clause-upper : goal.returns-clause-upper
returns-clause-upper c =
    let below : c.operand_of-product.result < span c.args.width * span c.args.width = omega (arith, c.operand_of-product.ensures.fits, c.wide_mask_of.ensures) in
    c.truncated-2.ensures
    ∙ ap (λ (x : ℕ). c.operand_of-product.result / 2 ^ x % span c.args.width) c.size_of.ensures
    ∙ upper_half c.operand_of-product.result (span c.args.width) (pow_pos (size_of c.args.width)) below
    ∙ ap (λ (x : ℕ). x / span c.args.width) (bits_are c)

pub returns-clause-flags : goal.returns-clause-flags
unfolding mul_flags
returns-clause-flags c = c.with_flags.ensures
    ∙ ap (λ (over : Bool). with_flags c.args.flags (record { cf = over; pf = false; af = false; zf = false; sf = false; of = over })) (ap not (fits_is c))
