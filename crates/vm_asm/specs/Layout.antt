-- The layout: where each line's bytes and labels stand, and which line is faulty.
use Rattle.std.specs.Prelude.{◌≡◌, ◌≤◌, IfSome, ⊤, ◌==◌, ◌||◌, nat_lt, ℕ, ◌+◌, ◌-◌, ◌/◌, ℤ, pos, int_lt, unsigned_abs, Bool, false, not, List, [], ◌∷◌, ◌++◌, length, replicate, Option, Some, None, Result, Ok, Err, is_some, option_and_then, unwrap_or, slice_get, slice_set, if◌then◌else◌}
use Rattle.vm_law.specs.declared.insn.Width.{Width}
use Rattle.text_reader.specs.Line.{Fault, lines, and_on, read_lines}
use Rattle.vm_asm.specs.declared.fault.AsmKind.{AsmKind}
use Rattle.vm_asm.specs.declared.fault.AsmKind.TheVariants as kind
use Rattle.asm_words.specs.declared.label.Value.{Value}
use Rattle.asm_words.specs.declared.label.Value.TheVariants as value
use Rattle.vm_asm.specs.declared.fault.AsmError.{AsmError}
use Rattle.vm_asm.specs.declared.fault.AsmError.TheVariants as error
use Rattle.vm_asm.specs.declared.layout.Layout.{Layout}
use Rattle.vm_asm.specs.declared.layout.Placed.{Placed}
use Rattle.vm_asm.specs.declared.fault.Refusal.{Refusal}
use Rattle.vm_asm.specs.declared.fault.Refusal.TheVariants.{Kind, Memory}
use Rattle.vm_asm.specs.declared.line.Line.{Line}
use Rattle.vm_asm.specs.declared.statement.Statement.{Statement}
use Rattle.vm_asm.specs.declared.statement.Statement.TheVariants as statement
use Rattle.asm_words.specs.Label.{place_in}
use Rattle.vm_asm.specs.Line.{name_in, line_of}
use Rattle.asm_words.specs.Number.{bits}
use Rattle.asm_insn.specs.Spelling.{Speller}
use Rattle.asm_insn.specs.Resolving.{Places}
use Rattle.vm_asm.specs.Statement.{Reading, is_defined, fits}
use Rattle.asm_insn.specs.Fitting.{is_defined_value}
use Rattle.asm_insn.specs.Instruction.{instruction_size}

-- ---- the names of the labels

abbrev pub add_name : List (List ℕ) → Option (List ℕ) → List (List ℕ)
add_name names None = names
add_name names (Some name) = if is_some (place_in names name) then names else names ++ name ∷ []

abbrev pub names_after : List (List ℕ) → List (List ℕ) → List (List ℕ)
names_after names [] = names
names_after names (line ∷ more) = names_after (add_name names (name_in line)) more

-- the names that the lines of a text define, each once, in the order of their first lines
unfoldable pub names_of : List ℕ → List (List ℕ)
names_of text = names_after [] (lines text)

-- ---- what the lines so far say

pub record Laid : Type 0 where
  -- where the next byte stands
  pub place : ℕ
  -- where each label stands that was defined so far, in the order of all names
  pub places : Places
  -- the label of the entry, and the line that names it
  pub entry : Option (ℕ × ℕ)
  -- where the code part ends, once that is said
  pub code_end : Option ℕ
  -- each statement, its line, and where the next byte stands behind it
  pub statements : List Placed

-- what a layout keeps
abbrev pub laid_of : Layout → Laid
laid_of l = record { place = l.place; places = l.places.items; entry = l.entry; code_end = l.code_end; statements = l.statements.items }

-- before the first line of a text with these names
abbrev pub nothing_laid : List (List ℕ) → Laid
nothing_laid names = record { place = 0; places = replicate (length names) None; entry = None; code_end = None; statements = [] }

-- ---- sizes

-- how many bytes a number of the width has
abbrev pub bytes_of : Width → ℕ
bytes_of w = bits w / 8

-- how far a place is behind another, and 0 where it is before it
abbrev pub gap : ℕ → ℤ → ℕ
gap place n = if int_lt n (pos place) then 0 else unsigned_abs n - place

-- how many bytes a statement takes at a place
unfoldable pub size_at : Speller → ℕ → Statement → ℕ
size_at spell place (statement.Org n) = gap place n
size_at spell place (statement.Number w v) = bytes_of w
size_at spell place (statement.Instruction i) = instruction_size spell i
size_at spell place _ = 0

-- ---- faults of a line behind the lines so far

-- an `.org` to a place that is passed
abbrev pub is_passed : ℕ → Statement → Bool
is_passed place (statement.Org n) = int_lt n (pos place)
is_passed place _ = false

abbrev pub place_of : Places → ℕ → Option ℕ
place_of places k = option_and_then (λ p. p) (slice_get places k)

-- the line's label stood before
abbrev pub stood : Places → Option Value → Bool
stood places (Some (value.Label k)) = is_some (place_of places k)
stood places _ = false

-- an `.entry` or a `.data` that stood before
abbrev pub is_second : Laid → Statement → Bool
is_second laid (statement.Entry v) = is_some laid.entry
is_second laid statement.Data = is_some laid.code_end
is_second laid _ = false

abbrev pub is_marked : Option Value → Bool
is_marked label = is_defined_value (unwrap_or label (value.Number (pos 0)))

-- the first kind of fault that the line has there, but for Large
unfoldable pub kind_at : Speller → Laid → Line → Option AsmKind
kind_at spell laid l =
    if not (is_marked l.label) || not (is_defined l.statement) then Some kind.Label
    else if not (fits spell l.statement) || is_passed laid.place l.statement then Some kind.Range
    else if stood laid.places l.label || is_second laid l.statement then Some kind.Twice
    else None

-- where the next byte stands behind a statement, unless that is above 16 MiB
abbrev pub next_place : Speller → Laid → Statement → Option ℕ
next_place spell laid s = if nat_lt 16777216 (laid.place + size_at spell laid.place s) then None else Some (laid.place + size_at spell laid.place s)

-- ---- one line more

-- a label stands where the line's first byte does
abbrev pub with_label : Laid → Option Value → Laid
with_label laid (Some (value.Label k)) = record laid { places = slice_set laid.places k (Some laid.place) }
with_label laid _ = laid

-- `.entry` in line n, and `.data`
abbrev pub with_mark : ℕ → Laid → Statement → Laid
with_mark n laid (statement.Entry (value.Label k)) = record laid { entry = Some (k, n) }
with_mark n laid statement.Data = record laid { code_end = Some laid.place }
with_mark n laid _ = laid

-- the statement of line n, behind which the next byte stands at `next`
abbrev pub with_statement : ℕ → Laid → Statement → ℕ → Laid
with_statement n laid s next = record laid { statements = laid.statements ++ (record { line = n; statement = s; end = next }) ∷ [] }

-- the layout with line n, which has no fault, and behind which the next byte stands at `next`
unfoldable pub added : ℕ → Laid → Line → ℕ → Laid
added n laid l next = record (with_mark n (with_label (with_statement n laid l.statement next) l.label) l.statement) { place = next }

abbrev pub placed : ℕ → Laid → Line → Option ℕ → Reading Laid
placed n laid l None = Err kind.Large
placed n laid l (Some next) = Ok (added n laid l next)

abbrev pub unless_faulty : Option AsmKind → Reading Laid → Reading Laid
unless_faulty None more = more
unless_faulty (Some fault) more = Err fault

abbrev pub laid_by : Speller → ℕ → Laid → Reading Line → Reading Laid
laid_by spell n laid (Ok l) = unless_faulty (kind_at spell laid l) (placed n laid l (next_place spell laid l.statement))
laid_by spell n laid (Err fault) = Err fault

-- line n behind the lines so far, of a text with these names
unfoldable pub lay : Speller → List (List ℕ) → ℕ → Laid → List ℕ → Reading Laid
lay spell names n laid line = laid_by spell n laid (line_of spell names line)

-- ---- faults of the whole

abbrev pub in_code : ℕ → ℕ → Option ℕ → Option (Fault AsmKind)
in_code code n None = None
in_code code n (Some place) = if nat_lt place code then None else Some (record { line = n; kind = kind.Range })

abbrev pub entry_fault : Places → ℕ → Option (ℕ × ℕ) → Option (Fault AsmKind)
entry_fault places code None = None
entry_fault places code (Some (label, n)) = in_code code n (place_of places label)

abbrev pub code_fault : Laid → Option ℕ → Option (Fault AsmKind)
code_fault laid None = None
code_fault laid (Some code) = if code == 0 then Some (record { line = 1; kind = kind.Range }) else entry_fault laid.places code laid.entry

-- once the code part's end is said, it may be empty, which is told of line 1; once the entry's label stands too, it may not be
-- in the code part, which is told of the line that names it
unfoldable pub known_fault : Laid → Option (Fault AsmKind)
known_fault laid = code_fault laid laid.code_end

-- the fault of line n, where none of the whole is known by then, which stands at a line before it
abbrev pub fault_at : ℕ → Laid → AsmKind → Fault AsmKind
fault_at n laid fault = unwrap_or (known_fault laid) (record { line = n; kind = fault })

abbrev pub at_line : ℕ → Laid → Reading Laid → Result Laid (Fault AsmKind)
at_line n laid (Ok more) = Ok more
at_line n laid (Err fault) = Err (fault_at n laid fault)

-- line n behind the lines so far; an empty one says nothing
unfoldable pub line_step : Speller → List (List ℕ) → ℕ → Laid → List ℕ → Result Laid (Fault AsmKind)
line_step spell names n laid [] = Ok laid
line_step spell names n laid (b ∷ bs) = at_line n laid (lay spell names n laid (b ∷ bs))

-- the code part ends with the text where nothing else is said
abbrev pub ended : Laid → Laid
ended laid = record laid { code_end = Some (unwrap_or laid.code_end laid.place) }

-- the layout of a text with these names, or its first faulty line with the first kind of fault
unfoldable pub layout_of : Speller → List (List ℕ) → List ℕ → Result Laid (Fault AsmKind)
layout_of spell names text = and_on (read_lines (line_step spell names) 1 (nothing_laid names) (lines text)) (λ laid. Ok (ended laid))

-- ---- the entry

abbrev pub entry_place : Places → Option (ℕ × ℕ) → ℕ
entry_place places None = 0
entry_place places (Some (label, n)) = unwrap_or (place_of places label) 0

-- where the entry stands: at 0 where no label is named
abbrev pub entry_at : Laid → ℕ
entry_at laid = entry_place laid.places laid.entry

-- ---- what a layout keeps true

abbrev pub end_behind : ℕ → List Placed → ℕ
end_behind at [] = at
end_behind at (p ∷ ps) = end_behind p.end ps

-- it counts where its statements end, at most 16 MiB, and the code part ends no later
pub record IsSound (laid : Laid) : Type 0 where
  pub ends : end_behind 0 laid.statements ≡ laid.place
  pub small : laid.place ≤ 16777216
  pub code : IfSome laid.code_end (λ code. code ≤ laid.place)

-- ---- what is answered

-- Ok leaves the layout that was read, and a kind of fault the one that stood; Memory says nothing
abbrev pub Refuses : Laid → Laid → Refusal → Reading Laid → Type 0
Refuses old new (Kind fault) read = (read ≡ Err fault) × (new ≡ old)
Refuses old new Memory read = ⊤

abbrev pub Lays : Laid → Laid → Result (Unit {0}) Refusal → Reading Laid → Type 0
Lays old new (Ok x) read = read ≡ Ok new
Lays old new (Err e) read = Refuses old new e read

abbrev pub error_of : Fault AsmKind → AsmError
error_of fault = error.Fault fault.line fault.kind

-- the error of a refused line n
abbrev pub refused_at : ℕ → Laid → Refusal → AsmError
refused_at n laid (Kind fault) = error_of (fault_at n laid fault)
refused_at n laid Memory = error.Memory

-- an error is the first faulty line with its kind; Memory says nothing
abbrev pub Stops : {X : Type 0} → AsmError → Result X (Fault AsmKind) → Type 0
Stops (error.Fault line kind) read = read ≡ Err (record { line = line; kind = kind })
Stops error.Memory read = ⊤

abbrev pub Steps : Laid → Result (Unit {0}) AsmError → Result Laid (Fault AsmKind) → Type 0
Steps new (Ok x) read = read ≡ Ok new
Steps new (Err e) read = Stops e read

abbrev pub Assembles : {X Y : Type 0} → (X → Y) → Result X AsmError → Result Y (Fault AsmKind) → Type 0
Assembles view (Ok x) read = read ≡ Ok (view x)
Assembles view (Err e) read = Stops e read
