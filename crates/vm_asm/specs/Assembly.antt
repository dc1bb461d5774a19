-- The image that a text spells.
use Rattle.std.specs.Prelude.{◌≡◌, ◌==◌, ℕ, ◌-◌, List, [], ◌∷◌, ◌++◌, length, replicate, Option, Some, None, Result, Ok, Err, ⊤, option_map, unwrap_or, if◌then◌else◌}
use Rattle.byteorder.specs.Endian.{little_bytes}
use Rattle.vm_law.specs.declared.image.FlatImage.{FlatImage}
use Rattle.text_reader.specs.Line.{Fault, and_on}
use Rattle.vm_asm.specs.declared.fault.AsmKind.{AsmKind}
use Rattle.vm_asm.specs.declared.fault.AsmKind.TheVariants as kind
use Rattle.vm_asm.specs.declared.fault.AsmError.{AsmError}
use Rattle.vm_asm.specs.declared.fault.AsmError.TheVariants as error
use Rattle.vm_asm.specs.declared.fault.Refusal.{Refusal}
use Rattle.vm_asm.specs.declared.fault.Refusal.TheVariants.{Kind, Memory}
use Rattle.vm_asm.specs.declared.layout.Placed.{Placed}
use Rattle.vm_asm.specs.declared.statement.Statement.{Statement}
use Rattle.vm_asm.specs.declared.statement.Statement.TheVariants as statement
use Rattle.vm_asm.specs.Layout.{Laid, bytes_of, entry_at, known_fault, names_of, layout_of}
use Rattle.asm_words.specs.Number.{bits_in}
use Rattle.asm_insn.specs.Spelling.{Speller}
use Rattle.asm_insn.specs.Resolving.{Places, resolved}
use Rattle.vm_asm.specs.Statement.{Reading}
use Rattle.asm_insn.specs.Instruction.{spelled_with}

-- ---- bytes

-- the bytes of a statement from a place up to its end, where labels have these places: zeros (0), a number with its low byte
-- first, or the canonical spelling of an instruction
unfoldable pub statement_bytes : Speller → Places → ℕ → ℕ → Statement → Option (List ℕ)
statement_bytes spell places at end (statement.Org n) = Some (replicate (end - at) 0)
statement_bytes spell places at end (statement.Number w v) = Some (little_bytes (bytes_of w) (bits_in w (resolved v places 0)))
statement_bytes spell places at end (statement.Instruction i) = spelled_with spell i places end
statement_bytes spell places at end _ = Some []

abbrev pub up_to : ℕ → Option (List ℕ) → Reading (List ℕ)
up_to end None = Err kind.Range
up_to end (Some bytes) = if length bytes == end then Ok bytes else Err kind.Range

-- the bytes so far with those of a statement. Where these don't end where the layout says, a label's number is none that its
-- field can hold
unfoldable pub put : Speller → Places → List ℕ → Placed → Reading (List ℕ)
put spell places out p = up_to p.end (option_map (λ bytes. out ++ bytes) (statement_bytes spell places (length out) p.end p.statement))

abbrev pub in_line : {X : Type 0} → ℕ → Reading X → Result X (Fault AsmKind)
in_line n (Ok x) = Ok x
in_line n (Err fault) = Err (record { line = n; kind = fault })

-- the bytes so far with those of statements one after the other
abbrev pub put_all : Speller → Places → List ℕ → List Placed → Result (List ℕ) (Fault AsmKind)
put_all spell places out [] = Ok out
put_all spell places out (p ∷ ps) = and_on (in_line p.line (put spell places out p)) (λ more. put_all spell places more ps)

-- ---- the image

abbrev pub image_with : Laid → List ℕ → FlatImage
image_with laid payload = record { entry = entry_at laid; code = unwrap_or laid.code_end 0; payload = payload }

-- the image of a layout: a fault of the whole comes first
abbrev pub image_of : Speller → Option (Fault AsmKind) → Laid → Result FlatImage (Fault AsmKind)
image_of spell (Some fault) laid = Err fault
image_of spell None laid = and_on (put_all spell laid.places [] laid.statements) (λ payload. Ok (image_with laid payload))

-- the image that a text spells, or its first faulty line with the first kind of fault
unfoldable pub assembled : Speller → List ℕ → Result FlatImage (Fault AsmKind)
assembled spell text = and_on (layout_of spell (names_of text) text) (λ laid. image_of spell (known_fault laid) laid)

-- ---- what the adding of bytes answers

-- Kind is a range, where there are no such bytes; Memory says nothing
abbrev pub Lacks : {X : Type 0} → Refusal → Option X → Type 0
Lacks (Kind fault) bytes = (bytes ≡ None) × (fault ≡ kind.Range)
Lacks Memory bytes = ⊤

abbrev pub Adds : List ℕ → List ℕ → Result (Unit {0}) Refusal → Option (List ℕ) → Type 0
Adds old new (Ok x) bytes = option_map (λ more. old ++ more) bytes ≡ Some new
Adds old new (Err e) bytes = Lacks e bytes

-- the error of a refused line n
abbrev pub error_in : ℕ → Refusal → AsmError
error_in n (Kind fault) = error.Fault n fault
error_in n Memory = error.Memory

abbrev pub Declines : {X : Type 0} → Refusal → Reading X → Type 0
Declines (Kind fault) read = read ≡ Err fault
Declines Memory read = ⊤

abbrev pub Puts : List ℕ → Result (Unit {0}) Refusal → Reading (List ℕ) → Type 0
Puts new (Ok x) read = read ≡ Ok new
Puts new (Err e) read = Declines e read
