-- The table of commands: what the words of a command line say.
use Rattle.std.specs.Prelude.{◌||◌, nat_lt, ℕ, false, List, [], ◌∷◌, Option, Some, None, option_and_then, option_map, codes, if◌then◌else◌}
use Rattle.std.specs.Str.{bytes_eq}
use Rattle.text_reader.specs.Word.{cut_at}
use Rattle.text_reader.specs.Digits.{numeral}
use Rattle.vm_cmd.specs.Word.{Word}
use Rattle.vm_cmd.specs.Form.{Form, Use, reads, given, value_of}
use Rattle.vm_cmd.specs.declared.command.Command.{Command}
use Rattle.vm_cmd.specs.declared.command.Command.TheVariants.{Run, Solo, Replay, Show, Asm, Make, Convert, Arrive, Inspect}
use Rattle.vm_cmd.specs.declared.command.RunWords.{RunWords}

infixl 10 ◌>>=◌
abbrev pub ◌>>=◌ : {A B : Type 0} → Option A → (A → Option B) → Option B
o >>= f = option_and_then f o

-- ---- numbers

abbrev pub within : ℕ → ℕ → ℕ → Option ℕ
within low high n = if nat_lt n low || nat_lt high n then None else Some n

-- 1 to `most` decimal digits, of a number from low to high
abbrev pub number_in : ℕ → ℕ → ℕ → Word → Option ℕ
number_in most low high text = option_and_then (within low high) (numeral 10 most text)

-- 1 to 9 decimal digits
abbrev pub counter_of : Word → Option ℕ
counter_of text = numeral 10 9 text

-- two of them with a colon (58) between them
abbrev pub pair_of : Word → Option (ℕ × ℕ)
pair_of text = do
  p ← cut_at 58 text
  first ← counter_of p.0
  second ← counter_of p.1
  Some (first, second)

-- what an option with two numbers says, which may be left out
abbrev pub pair_option : Option Word → Option (Option (ℕ × ℕ))
pair_option None = Some None
pair_option (Some text) = option_map (λ p. Some p) (pair_of text)

-- the limit of instructions: 1 to 20,000,000, and 10,000,000 where none is given
abbrev pub limit_of : Option Word → Option ℕ
limit_of None = Some 10000000
limit_of (Some text) = number_in 8 1 20000000 text

-- ---- the rows

-- run CONFIG, solo FILE: --limit N, --journal FILE, --restore FILE, --state
abbrev pub run_form : Form
run_form = record { places = codes "file" ∷ []; options = codes "limit" ∷ codes "journal" ∷ codes "restore" ∷ []; flags = codes "state" ∷ [] }

abbrev pub run_of_uses : List Use → Option RunWords
run_of_uses us = do
  file ← value_of us (codes "file")
  limit ← limit_of (value_of us (codes "limit"))
  Some (record { file = file; limit = limit; journal = value_of us (codes "journal"); restore = value_of us (codes "restore"); state = given us (codes "state") })

-- replay FILE JOURNAL: --limit N, --restore FILE, --state
abbrev pub replay_form : Form
replay_form = record { places = codes "file" ∷ codes "journal" ∷ []; options = codes "limit" ∷ codes "restore" ∷ []; flags = codes "state" ∷ [] }

abbrev pub replay_of_uses : List Use → Option Command
replay_of_uses us = do
  file ← value_of us (codes "file")
  limit ← limit_of (value_of us (codes "limit"))
  journal ← value_of us (codes "journal")
  Some (Replay (record { file = file; limit = limit; journal = None; restore = value_of us (codes "restore"); state = given us (codes "state") }) journal)

-- show CONFIG
abbrev pub show_form : Form
show_form = record { places = codes "config" ∷ []; options = []; flags = [] }

abbrev pub show_of_uses : List Use → Option Command
show_of_uses us = option_map Show (value_of us (codes "config"))

-- asm FILE OUT, convert FILE OUT, arrive STREAM OUT
abbrev pub files_form : Form
files_form = record { places = codes "file" ∷ codes "out" ∷ []; options = []; flags = [] }

abbrev pub files_of_uses : List Use → Option (Word × Word)
files_of_uses us = do
  file ← value_of us (codes "file")
  out ← value_of us (codes "out")
  Some (file, out)

-- make CPUS NUMBER: 1 to 16, and any number of 32 bits
abbrev pub make_form : Form
make_form = record { places = codes "cpus" ∷ codes "number" ∷ []; options = []; flags = [] }

abbrev pub make_of_uses : List Use → Option Command
make_of_uses us = do
  cpus ← option_and_then (number_in 10 1 16) (value_of us (codes "cpus"))
  number ← option_and_then (number_in 10 0 4294967295) (value_of us (codes "number"))
  Some (Make cpus number)

-- inspect FILE JOURNAL AT: --limit N, --restore FILE, --vector I:V, --sector D:S
abbrev pub inspect_form : Form
inspect_form = record { places = codes "file" ∷ codes "journal" ∷ codes "at" ∷ []; options = codes "limit" ∷ codes "restore" ∷ codes "vector" ∷ codes "sector" ∷ []; flags = [] }

abbrev pub inspect_of_uses : List Use → Option Command
inspect_of_uses us = do
  file ← value_of us (codes "file")
  limit ← limit_of (value_of us (codes "limit"))
  journal ← value_of us (codes "journal")
  at ← option_and_then counter_of (value_of us (codes "at"))
  vector ← pair_option (value_of us (codes "vector"))
  sector ← pair_option (value_of us (codes "sector"))
  Some (Inspect (record { file = file; limit = limit; journal = None; restore = value_of us (codes "restore"); state = false }) (record { journal = journal; at = at; vector = vector; sector = sector }))

-- what the words after the command's say, by its row
abbrev pub row : {A : Type 0} → Form → (List Use → Option A) → List Word → Option A
row f of_uses words = option_and_then of_uses (reads f [] None 0 words)

-- what the words say; None where they are outside the table
abbrev pub command_of : List Word → Option Command
command_of [] = None
command_of (name ∷ words) =
    if bytes_eq name (codes "run") then option_map Run (row run_form run_of_uses words)
    else if bytes_eq name (codes "solo") then option_map Solo (row run_form run_of_uses words)
    else if bytes_eq name (codes "replay") then row replay_form replay_of_uses words
    else if bytes_eq name (codes "show") then row show_form show_of_uses words
    else if bytes_eq name (codes "asm") then option_map (λ f. Asm f.0 f.1) (row files_form files_of_uses words)
    else if bytes_eq name (codes "make") then row make_form make_of_uses words
    else if bytes_eq name (codes "convert") then option_map (λ f. Convert f.0 f.1) (row files_form files_of_uses words)
    else if bytes_eq name (codes "arrive") then option_map (λ f. Arrive f.0 f.1) (row files_form files_of_uses words)
    else if bytes_eq name (codes "inspect") then row inspect_form inspect_of_uses words
    else None
