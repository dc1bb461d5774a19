-- The image that a file of assembler text spells, and where it stands then.
use Rattle.std.specs.Prelude.{◌≡◌, ◌⊎◌, ◌≤◌, ◌<◌, ℕ, List, length, Some, Ok, Err}
use Rattle.asm_insn.specs.Spelling.{Speller, IsSpeller}
use Rattle.vm_asm.specs.declared.fault.AsmKind.{AsmKind}
use Rattle.vm_asm.specs.Assembly.{assembled}
use Rattle.vm_host.specs.Crash.{Only}
use Rattle.vm_host.specs.Told.{WhereTold}
use Rattle.vm_host.specs.Views.{HostView}
use Rattle.vm_law.specs.declared.image.FlatImage.{FlatImage}
use Rattle.vm_law.specs.Image.{image_bytes}
use Rattle.vm_assembling.specs.Refusing.{asm_kind}
use Rattle.vm_status.specs.declared.kind.Kind.{Kind}
use Rattle.vm_status.specs.declared.kind.Kind.TheVariants.{Long}

-- a text has at most 1 MiB
abbrev pub assembly_limit : ℕ
assembly_limit = 1048576

-- the bytes are a text that spells this image, each instruction in its canonical spelling
pub record IsAssembly (bytes : List ℕ) (f : FlatImage) : Type 0 where
  pub short : length bytes ≤ assembly_limit
  pub spell : Speller
  pub canonical : IsSpeller spell
  pub spelled : assembled spell bytes ≡ Ok f

-- the bytes are a text of which this line is the first faulty one, by this kind
pub record IsFaulty (bytes : List ℕ) (line : ℕ) (kind : AsmKind) : Type 0 where
  pub spell : Speller
  pub canonical : IsSpeller spell
  pub faulty : assembled spell bytes ≡ Err (record { line = line; kind = kind })

-- the first fault of bytes that spell none: they are too many, or the first faulty line, counted from 1
abbrev pub IsAssemblyFault : List ℕ → ℕ → Kind → Type 0
IsAssemblyFault bytes at kind =
    ((assembly_limit < length bytes) × (at ≡ assembly_limit) × (kind ≡ Long))
    ⊎ ((length bytes ≤ assembly_limit) × ((k : AsmKind) × IsFaulty bytes at k × (kind ≡ asm_kind k)))

-- the file of a name reads as the image's, and each crash leaves it
pub record HoldsImage (name : List ℕ) (f : FlatImage) (old new : HostView) : Type 0 where
  pub reads : WhereTold old.tells (new.file name ≡ Some (image_bytes f))
  pub lasts : WhereTold old.tells (Only (image_bytes f) (new.left name new.moment))
