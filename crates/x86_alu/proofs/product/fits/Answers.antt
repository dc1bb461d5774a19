use Rattle.std.proofs.Common.{◌+◌, Bool, ap₂, sym, ◌∙◌}
use Rattle.x86_alu.specs.Product.{fits, integer}
use Rattle.x86_alu.proofs.Integers.{fits_negative, fits_positive, fits_below_zero, fits_unsigned}
use Rattle.x86_alu.proofs.product.fits.Goals as goal

pub returns-in-true-true-clause-fits : goal.returns-in-true-true-clause-fits
returns-in-true-true-clause-fits c = fits_negative c.args.mask c.args.size c.requires.odd
    ∙ ap₂ (λ (s n : Bool). fits s (c.args.mask + 1) (integer n c.args.size)) (sym c.in-true-true.is-0) (sym c.in-true-true.is-1)

pub returns-in-true-false-clause-fits : goal.returns-in-true-false-clause-fits
returns-in-true-false-clause-fits c = fits_positive c.args.mask c.args.size c.requires.odd
    ∙ ap₂ (λ (s n : Bool). fits s (c.args.mask + 1) (integer n c.args.size)) (sym c.in-true-false.is-0) (sym c.in-true-false.is-1)

pub returns-in-false-true-clause-fits : goal.returns-in-false-true-clause-fits
returns-in-false-true-clause-fits c = fits_below_zero c.args.mask c.args.size
    ∙ ap₂ (λ (s n : Bool). fits s (c.args.mask + 1) (integer n c.args.size)) (sym c.in-false-true.is-0) (sym c.in-false-true.is-1)

pub returns-in-false-false-clause-fits : goal.returns-in-false-false-clause-fits
returns-in-false-false-clause-fits c = fits_unsigned c.args.mask c.args.size
    ∙ ap₂ (λ (s n : Bool). fits s (c.args.mask + 1) (integer n c.args.size)) (sym c.in-false-false.is-0) (sym c.in-false-false.is-1)
