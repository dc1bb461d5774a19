-- The lines of a configuration, and the variables that they give, with their values as written.
use Rattle.std.specs.Prelude.{◌≡◌, ℕ, List, [], ◌∷◌, map, Result, Ok, Err, if◌then◌else◌, ⊤}
use Rattle.std.specs.Str.{bytes_eq}
use Rattle.std.specs.Borrow.{Bor}
use Rattle.text_reader.specs.Line.{Fault, lines, read_lines}
use Rattle.cfg_text.specs.declared.error.CfgKind.{CfgKind}
use Rattle.cfg_text.specs.declared.error.CfgError.{CfgError}
use Rattle.cfg_text.specs.declared.error.CfgError.TheVariants as error
use Rattle.cfg_text.specs.declared.expand.Written.{Written}
use Rattle.cfg_text.specs.Line.{Reading, skipped, variable, faulty, read_line}

-- a name, the value that was written last, and the line that gave it
pub record Variable : Type 0 where
  pub name : List ℕ
  pub value : List ℕ
  pub line : ℕ

-- a later line of the same name replaces the value and keeps the place
abbrev pub put : List Variable → Variable → List Variable
put [] new = new ∷ []
put (v ∷ vs) new = if bytes_eq new.name v.name then record { name = v.name; value = new.value; line = new.line } ∷ vs else v ∷ put vs new

-- the variables after line n
abbrev pub read_one : Reading → ℕ → List Variable → Result (List Variable) (Fault CfgKind)
read_one skipped n vs = Ok vs
read_one (variable name value) n vs = Ok (put vs (record { name = name; value = value; line = n }))
read_one (faulty kind) n vs = Err (record { line = n; kind = kind })

abbrev pub line_step : ℕ → List Variable → List ℕ → Result (List Variable) (Fault CfgKind)
line_step n vs line = read_one (read_line line) n vs

-- the variables of a text, in the order of their first lines
abbrev pub read_written : List ℕ → Result (List Variable) (Fault CfgKind)
read_written bytes = read_lines line_step 1 [] (lines bytes)

-- the refusal is the first fault; Memory says nothing
abbrev pub Refuses : {X : Type 0} → CfgError → Result X (Fault CfgKind) → Type 0
Refuses (error.Fault line kind) read = read ≡ Err (record { line = line; kind = kind })
Refuses error.Memory read = ⊤

-- Ok with what was read, as view sees it, or the first fault
abbrev pub Answers : {X Y : Type 0} → (X → Y) → Result X CfgError → Result Y (Fault CfgKind) → Type 0
Answers view (Ok x) read = read ≡ Ok (view x)
Answers view (Err e) read = Refuses e read

abbrev pub variable_of : Bor (List ℕ) × Written → Variable
variable_of e = record { name = e.0.now; value = e.1.value.now; line = e.1.line }

abbrev pub variables_of : List (Bor (List ℕ) × Written) → List Variable
variables_of es = map variable_of es

-- one line's step: Ok leaves the variables that were read
abbrev pub Adds : List Variable → Result (Unit {0}) CfgError → Result (List Variable) (Fault CfgKind) → Type 0
Adds new (Ok x) read = read ≡ Ok new
Adds new (Err e) read = Refuses e read
