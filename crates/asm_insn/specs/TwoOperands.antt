-- Which operation a mnemonic names with two operands, or with three.
-- Source: Intel SDM volume 2, chapters 3 and 4, the first lines of the instructions' pages.
use Rattle.std.specs.Prelude.{ℕ, Some, None, option_map}
use Rattle.vm_law.specs.declared.insn.Width.{Width}
use Rattle.vm_law.specs.declared.insn.Width.TheVariants as width
use Rattle.vm_law.specs.declared.insn.Loc.{Loc}
use Rattle.vm_law.specs.declared.insn.Src.{Src}
use Rattle.vm_law.specs.declared.insn.Op.TheVariants as op
use Rattle.x86_grammar.specs.Operands.{◌>>=◌}
use Rattle.asm_insn.specs.declared.argument.Argument.{Argument}
use Rattle.asm_insn.specs.declared.argument.Argument.TheVariants.{Address}
use Rattle.asm_words.specs.declared.mnemonic.Form.{Form}
use Rattle.asm_words.specs.declared.mnemonic.Form.TheVariants as form
use Rattle.asm_words.specs.declared.mnemonic.Mnemonic.{Mnemonic}
use Rattle.asm_words.specs.declared.mnemonic.Mnemonic.TheVariants as mnemonic
use Rattle.asm_words.specs.Number.{signed32_in}
use Rattle.asm_insn.specs.OperandKind.{place_in, register_in, pair_of, into_register, immediate_in, operands_in, count_in, port_in, accumulator_in, Named}

abbrev pub extend : Form → Width × ℕ → Width × Loc → Named
extend form.MovZx p (from, l) = Some (p.0, op.MovZx p.1 from l)
extend form.MovSx p (width.B, l) = Some (p.0, op.MovSx p.1 width.B l)
extend form.MovSx p (width.W, l) = Some (p.0, op.MovSx p.1 width.W l)
extend form.MovSxd p (width.D, l) = Some (p.0, op.MovSx p.1 width.D l)
extend _ p q = None

-- MOVZX, and MOVSX from 8 and 16 bits, MOVSXD from 32
abbrev pub extended_of : Form → Argument → Argument → Named
extended_of f a b = register_in a >>= λ p. place_in b >>= λ q. extend f p q

abbrev pub address_at : Width × ℕ → Argument → Named
address_at p (Address m) = Some (p.0, op.Lea p.1 m)
address_at p _ = None

-- LEA
abbrev pub address_of : Argument → Argument → Named
address_of a b = register_in a >>= λ p. address_at p b

abbrev pub exchange : Form → Width × Loc × Loc → Named
exchange form.Xchg p = Some (p.0, op.Xchg p.1 p.2)
exchange form.CmpXchg p = Some (p.0, op.CmpXchg p.1 p.2)
exchange form.Xadd p = Some (p.0, op.Xadd p.1 p.2)
exchange _ p = None

abbrev pub exchange_of : Form → Argument → Argument → Named
exchange_of f a b = pair_of a b >>= exchange f

abbrev pub into : Form → Width × ℕ × Loc → Named
into form.Imul p = Some (p.0, op.Imul2 p.1 p.2)
into form.Bsf p = Some (p.0, op.Bsf p.1 p.2)
into form.Bsr p = Some (p.0, op.Bsr p.1 p.2)
into _ p = None

abbrev pub into_of : Form → Argument → Argument → Named
into_of f a b = into_register a b >>= into f

abbrev pub in_of : Argument → Argument → Named
in_of a b = accumulator_in a >>= λ w. option_map (λ p. (w, op.In p)) (port_in b)

abbrev pub out_of : Argument → Argument → Named
out_of a b = port_in a >>= λ p. option_map (λ w. (w, op.Out p)) (accumulator_in b)

abbrev pub moved : Form → Width × Loc × Src → Named
moved form.Mov p = Some (p.0, op.Mov p.1 p.2)
moved form.Test p = Some (p.0, op.Test p.1 p.2)
moved _ p = None

abbrev pub moved_of : Form → Argument → Argument → Named
moved_of f a b = operands_in a b >>= moved f

abbrev pub two_form : Form → Argument → Argument → Named
two_form form.Mov a b = moved_of form.Mov a b
two_form form.Test a b = moved_of form.Test a b
two_form form.MovZx a b = extended_of form.MovZx a b
two_form form.MovSx a b = extended_of form.MovSx a b
two_form form.MovSxd a b = extended_of form.MovSxd a b
two_form form.Lea a b = address_of a b
two_form form.Xchg a b = exchange_of form.Xchg a b
two_form form.CmpXchg a b = exchange_of form.CmpXchg a b
two_form form.Xadd a b = exchange_of form.Xadd a b
two_form form.Imul a b = into_of form.Imul a b
two_form form.Bsf a b = into_of form.Bsf a b
two_form form.Bsr a b = into_of form.Bsr a b
two_form form.In a b = in_of a b
two_form form.Out a b = out_of a b
two_form _ a b = None

-- with two operands
unfoldable pub two_of : Mnemonic → Argument → Argument → Named
two_of (mnemonic.Arithmetic k) a b = option_map (λ p. (p.0, op.Alu k p.1 p.2)) (operands_in a b)
two_of (mnemonic.BitTest k) a b = option_map (λ p. (p.0, op.Bit k p.1 p.2)) (operands_in a b)
two_of (mnemonic.Shift k) a b = place_in a >>= λ p. option_map (λ n. (p.0, op.Shift k p.1 n)) (count_in b)
two_of (mnemonic.CMov c) a b = option_map (λ p. (p.0, op.CMov c p.1 p.2)) (into_register a b)
two_of (mnemonic.Form f) a b = two_form f a b
two_of _ a b = None

-- with three: IMUL by a number
unfoldable pub three_of : Mnemonic → Argument → Argument → Argument → Named
three_of (mnemonic.Form form.Imul) a b c = into_register a b >>= λ p. option_map (λ n. (p.0, op.Imul3 p.1 p.2 (signed32_in p.0 n))) (immediate_in c)
three_of _ a b c = None
