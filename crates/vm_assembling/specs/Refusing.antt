-- The refusals that what is wrong with an assembler text leads to.
use Rattle.std.specs.Prelude.{ℕ, List}
use Rattle.vm_asm.specs.declared.fault.AsmError.{AsmError}
use Rattle.vm_asm.specs.declared.fault.AsmError.TheVariants as asm_error
use Rattle.vm_asm.specs.declared.fault.AsmKind.{AsmKind}
use Rattle.vm_asm.specs.declared.fault.AsmKind.TheVariants as asm
use Rattle.vm_status.specs.declared.kind.Kind.{Kind}
use Rattle.vm_status.specs.declared.kind.Kind.TheVariants as kinds
use Rattle.vm_status.specs.declared.refusal.Refusal.{Refusal}
use Rattle.vm_status.specs.declared.refusal.Refusal.TheVariants.{Bad, Memory}
use Rattle.vm_status.specs.declared.role.Role.TheVariants.{Assembly}

-- kinds of faults, under the names that every format has for them
abbrev pub asm_kind : AsmKind → Kind
asm_kind asm.Text = kinds.Text
asm_kind asm.Word = kinds.Word
asm_kind asm.Operand = kinds.Operand
asm_kind asm.Label = kinds.Label
asm_kind asm.Range = kinds.Range
asm_kind asm.Twice = kinds.Twice
asm_kind asm.Large = kinds.Large

abbrev pub after_asm : List ℕ → AsmError → Refusal
after_asm name (asm_error.Fault line k) = Bad Assembly name line (asm_kind k)
after_asm name asm_error.Memory = Memory
