use Rattle.std.proofs.Common.{◌+◌, Bool, ap, ◌∙◌}
use Rattle.x86_alu.specs.Product.{value}
use Rattle.x86_alu.proofs.Integers.{value_high, value_low, value_plain}
use Rattle.x86_alu.proofs.product.magnitude.Goals.{else-signed-via-then-signed+else-a-mask, else-signed-via-else-signed}
use Rattle.x86_alu.proofs.product.magnitude.Goals as goal

pub returns-then-a-mask-clause-value : goal.returns-then-a-mask-clause-value
returns-then-a-mask-clause-value c =
    ap (λ (s : Bool). value s (c.args.mask + 1) c.args.a) c.if-signed.true
    ∙ value_high c.args.mask c.args.a c.requires.odd c.requires.a_fits c.if-a-mask.true

pub returns-else-signed-clause-value : goal.returns-else-signed-clause-value
returns-else-signed-clause-value c = elim c.else-signed.branch [
  | else-signed-via-then-signed+else-a-mask w ↦
      ap (λ (s : Bool). value s (c.args.mask + 1) c.args.a) w.if-signed.true
      ∙ value_low c.args.mask c.args.a c.requires.odd w.if-a-mask.false
  | else-signed-via-else-signed w ↦
      ap (λ (s : Bool). value s (c.args.mask + 1) c.args.a) w.if-signed.false ∙ value_plain (c.args.mask + 1) c.args.a
]
