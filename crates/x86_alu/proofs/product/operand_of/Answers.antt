use Rattle.std.proofs.Common.{◌≡◌, ◌+◌, ℕ, Bool, true, ap, sym, ◌∙◌, arith}
use Rattle.x86_alu.specs.Operand.{residue}
use Rattle.x86_alu.specs.Product.{integer}
use Rattle.x86_alu.proofs.Integers.{residue_below_zero, residue_pos, residue_zero}
use Rattle.x86_alu.proofs.product.operand_of.Goals.{else-negative-via-then-negative+else-size-gt0, else-negative-via-else-negative}
use Rattle.x86_alu.proofs.product.operand_of.Goals as goal

pub returns-then-size-gt0-clause-operand : goal.returns-then-size-gt0-clause-operand
returns-then-size-gt0-clause-operand c =
    sym (ap (λ (s : Bool). residue (c.args.mask + 1) (integer s c.args.size)) c.if-negative.true
    ∙ residue_below_zero c.args.mask c.args.size c.if-size-gt0.true c.requires)

pub returns-else-negative-clause-operand : goal.returns-else-negative-clause-operand
returns-else-negative-clause-operand c = elim c.else-negative.branch [
  | else-negative-via-then-negative+else-size-gt0 w ↦
      (let none : c.args.size ≡ 0 = omega arith in
      sym (ap (λ (s : Bool). residue (c.args.mask + 1) (integer s c.args.size)) w.if-negative.true
      ∙ ap (λ (n : ℕ). residue (c.args.mask + 1) (integer true n)) none ∙ residue_zero c.args.mask ∙ sym none))
  | else-negative-via-else-negative w ↦
      sym (ap (λ (s : Bool). residue (c.args.mask + 1) (integer s c.args.size)) w.if-negative.false
      ∙ residue_pos c.args.mask c.args.size c.requires)
]
