-- A value with its sign, from one width to another.
use Rattle.std.proofs.Common.{◌≡◌, ℕ, ◌+◌, ◌-◌, ◌%◌, ◌^◌, ◌<◌, ◌≤◌, true, false, ℤ, sym, ap, ◌∙◌, arith}
use Rattle.vm_law.specs.declared.insn.Width.{Width}
use Rattle.vm_law.specs.declared.insn.Width.TheVariants.{B, W, D, Q}
use Rattle.x86_alu.specs.Operand.{span, is_negative, residue}
use Rattle.x86_alu.proofs.Moves.{signed_high, signed_low}
use Rattle.x86_op.specs.Moves.{sign_extended}

span_le : (w : Width) → span w ≤ 2 ^ 64
span_le B = omega arith
span_le W = omega arith
span_le D = omega arith
span_le Q = omega arith

-- all bits turned over, cut to a width
turned : (w : Width) (x : ℕ) → x < 2 ^ 64 → (2 ^ 64 - 1 - x) % span w ≡ span w - 1 - x % span w
turned B x h = omega arith
turned W x h = omega arith
turned D x h = omega arith
turned Q x h = omega arith

pub extended_negative : (from to : Width) (a mask : ℕ) → mask + 1 ≡ span from → a < span from → is_negative (span from) a ≡ true
    → (2 ^ 64 - 1 - (mask - a)) % span to ≡ sign_extended from to a
unfolding sign_extended residue
extended_negative from to a mask e h sign =
    let same : mask - a ≡ span from - 1 - a = omega arith in
    let small : span from - 1 - a < 2 ^ 64 = omega (arith, span_le from) in
    ap (λ (x : ℕ). (2 ^ 64 - 1 - x) % span to) same
    ∙ turned to (span from - 1 - a) small
    ∙ ap (λ (z : ℤ). residue (span to) z) (sym (signed_high (span from) a sign h))

pub extended_positive : (from to : Width) (a : ℕ) → is_negative (span from) a ≡ false → a % span to ≡ sign_extended from to a
unfolding sign_extended residue
extended_positive from to a sign = ap (λ (z : ℤ). residue (span to) z) (sym (signed_low (span from) a sign))
