-- What an assembler text that spells no image says.
use Rattle.std.proofs.Common.{◌≡◌, ℕ, ◌<◌, ◌≤◌, Bool, inl, inr, List, length, Option, Some, Result, Ok, Err, refl, sym, ◌∙◌, arith}
use Rattle.asm_insn.specs.Law.{SpellerLaw}
use Rattle.asm_insn.specs.Spelling.{Speller, IsSpeller}
use Rattle.text_reader.specs.Line.{Fault as LineFault}
use Rattle.vm_asm.specs.declared.fault.AsmError.{AsmError}
use Rattle.vm_asm.specs.declared.fault.AsmError.TheVariants as asm_error
use Rattle.vm_asm.specs.declared.fault.AsmKind.{AsmKind}
use Rattle.vm_asm.specs.Assembly.{assembled}
use Rattle.vm_asm.specs.Layout.{Stops}
use Rattle.vm_host.specs.Told.{WhereTold}
use Rattle.vm_law.specs.declared.image.FlatImage.{FlatImage}
use Rattle.vm_outcome.specs.Files as files
use Rattle.vm_outcome.specs.Files.{Unread}
use Rattle.vm_assembling.specs.Assembling.{IsAssembly, IsAssemblyFault}
use Rattle.vm_assembling.specs.Refusing.{after_asm, asm_kind}
use Rattle.vm_status.specs.declared.kind.Kind.TheVariants.{Long}
use Rattle.vm_status.specs.declared.role.Role.TheVariants as roles

pub long_is_no_assembly : (bytes : List ℕ) (f : FlatImage) → 1048576 < length bytes → IsAssembly bytes f → ⊥
long_is_no_assembly bytes f lt a = omega (arith, a.short)

pub long_is_assembly_fault : (bytes : List ℕ) → 1048576 < length bytes → IsAssemblyFault bytes 1048576 Long
long_is_assembly_fault bytes lt = inl (lt, refl, refl)

both_read : (read : Result FlatImage (LineFault AsmKind)) (f : FlatImage) (fault : LineFault AsmKind) → read ≡ Ok f → read ≡ Err fault → ⊥
both_read read f fault p q = let bad : ◌≡◌ {A = Result FlatImage (LineFault AsmKind)} (Ok f) (Err fault) = sym p ∙ q in cc

module _ (told : Bool) (file : Option (List ℕ)) (name : List ℕ) (bytes : List ℕ) (is_file : WhereTold told (file ≡ Some bytes)) (within : length bytes ≤ 1048576)
    (law : SpellerLaw) where
  -- a text that isn't assembled
  pub no_assembly_read : (e : AsmError) → ((spell : Speller) → IsSpeller spell → Stops e (assembled spell bytes))
      → Unread told file roles.Assembly name IsAssembly IsAssemblyFault (after_asm name e)
  no_assembly_read (asm_error.Fault line k) stops = files.bad line (asm_kind k) refl (record {
    bytes = bytes;
    is_file = is_file;
    none = λ f a. both_read (assembled a.spell bytes) f (record { line = line; kind = k }) a.spelled (stops a.spell a.canonical);
    first = inr (within, (k, record { spell = law.0; canonical = law.1; faulty = stops law.0 law.1 }, refl));
  })
  no_assembly_read asm_error.Memory stops = files.spent refl
