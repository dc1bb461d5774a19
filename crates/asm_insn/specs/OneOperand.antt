-- Which operation a mnemonic names with one operand, or with none.
-- Source: Intel SDM volume 2, chapters 3 and 4, the first lines of the instructions' pages.
use Rattle.std.specs.Prelude.{ℤ, Option, Some, None, option_map}
use Rattle.vm_law.specs.declared.insn.Width.{Width}
use Rattle.vm_law.specs.declared.insn.Width.TheVariants as width
use Rattle.vm_law.specs.declared.insn.Loc.{Loc}
use Rattle.vm_law.specs.declared.insn.Loc.TheVariants as loc
use Rattle.vm_law.specs.declared.insn.UnaryOp.TheVariants as unary
use Rattle.vm_law.specs.declared.insn.Op.{Op}
use Rattle.vm_law.specs.declared.insn.Op.TheVariants as op
use Rattle.x86_grammar.specs.Operands.{◌>>=◌}
use Rattle.asm_insn.specs.declared.argument.Argument.{Argument}
use Rattle.asm_insn.specs.declared.argument.Argument.TheVariants.{Address, Number}
use Rattle.asm_words.specs.declared.mnemonic.Form.{Form}
use Rattle.asm_words.specs.declared.mnemonic.Form.TheVariants as form
use Rattle.asm_words.specs.declared.mnemonic.Mnemonic.{Mnemonic}
use Rattle.asm_words.specs.declared.mnemonic.Mnemonic.TheVariants as mnemonic
use Rattle.asm_words.specs.Number.{bits_in}
use Rattle.asm_insn.specs.OperandKind.{place_in, register_in, target_in, source_in, Named}

-- without operands
unfoldable pub none_of : Mnemonic → Named
none_of (mnemonic.Alone w o) = Some (w, o)
none_of (mnemonic.Form form.Ret) = Some (width.Q, op.Ret 0)
none_of (mnemonic.Form form.Nop) = Some (width.Q, op.Nop None)
none_of _ = None

abbrev pub at_place : Form → Loc → Option Op
at_place form.Imul l = Some (op.Unary unary.Imul l)
at_place form.Inc l = Some (op.Inc l)
at_place form.Dec l = Some (op.Dec l)
at_place form.Nop l = Some (op.Nop (Some l))
at_place _ l = None

abbrev pub of_register : Form → Argument → Named
of_register form.Push a = option_map (λ s. (width.Q, op.Push s)) (source_in width.Q a)
of_register form.Pop a = option_map (λ p. (p.0, op.Pop p.1)) (register_in a)
of_register form.Bswap a = option_map (λ p. (p.0, op.Bswap p.1)) (register_in a)
of_register _ a = None

abbrev pub jump_by : Form → ℤ → Named
jump_by form.Jmp d = Some (width.Q, op.Jmp d)
jump_by form.Call d = Some (width.Q, op.Call d)
jump_by _ d = None

abbrev pub jump_to : Form → Width × Loc → Named
jump_to form.Jmp (w, l) = Some (w, op.JmpTo l)
jump_to form.Call (w, loc.Reg r) = Some (w, op.CallReg r)
jump_to _ p = None

abbrev pub jump_or : Form → Option ℤ → Option (Width × Loc) → Named
jump_or f (Some d) place = jump_by f d
jump_or f None place = place >>= jump_to f

-- JMP and CALL
abbrev pub jump_of : Form → Argument → Named
jump_of f a = jump_or f (target_in a) (place_in a)

abbrev pub of_system : Form → Argument → Named
of_system form.Ret (Number n) = Some (width.Q, op.Ret (bits_in width.W n))
of_system form.Int (Number n) = Some (width.Q, op.Int (bits_in width.B n))
of_system form.Lidt (Address m) = Some (width.Q, op.Lidt m)
of_system _ a = None

abbrev pub of_place : Form → Argument → Named
of_place f a = place_in a >>= λ p. option_map (λ o. (p.0, o)) (at_place f p.1)

abbrev pub one_form : Form → Argument → Named
one_form form.Push a = of_register form.Push a
one_form form.Pop a = of_register form.Pop a
one_form form.Bswap a = of_register form.Bswap a
one_form form.Jmp a = jump_of form.Jmp a
one_form form.Call a = jump_of form.Call a
one_form form.Ret a = of_system form.Ret a
one_form form.Int a = of_system form.Int a
one_form form.Lidt a = of_system form.Lidt a
one_form f a = of_place f a

-- with one operand
unfoldable pub one_of : Mnemonic → Argument → Named
one_of (mnemonic.Unary k) a = option_map (λ p. (p.0, op.Unary k p.1)) (place_in a)
one_of (mnemonic.SetCc c) a = option_map (λ p. (p.0, op.SetCc c p.1)) (place_in a)
one_of (mnemonic.Jcc c) a = option_map (λ d. (width.Q, op.Jcc c d)) (target_in a)
one_of (mnemonic.Form f) a = one_form f a
one_of _ a = None
