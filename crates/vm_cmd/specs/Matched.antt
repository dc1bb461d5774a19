-- What clap's matches hold, for a command that is made of a row's rules.
use Rattle.std.specs.Prelude.{◌≡◌, Bool, true, false, List, [], option_and_then, Result, Ok, Err, ⊤, Option, Some, None}
use Rattle.clap.specs.Words.{first_value, found_of}
use Rattle.clap.specs.Matches.{matched_of}
use Rattle.clap.specs.declared.parser.matches.ArgMatches.{ArgMatches}
use Rattle.clap.specs.declared.parser.matches.ValueSource.{ValueSource}
use Rattle.clap.specs.declared.parser.matches.ValueSource.TheVariants.{CommandLine, DefaultValue}
use Rattle.vm_cmd.specs.Word.{Word}
use Rattle.vm_cmd.specs.Form.{Form, Use, reads, given, value_of, has}
use Rattle.vm_cmd.specs.declared.command.CmdError.{CmdError}
use Rattle.vm_cmd.specs.declared.command.CmdError.TheVariants.{Usage, Memory}

-- the words gave it, and no default did
abbrev pub is_line : Option ValueSource → Bool
is_line None = false
is_line (Some DefaultValue) = false
is_line (Some CommandLine) = true

-- the matches hold these uses
pub record Holds (f : Form) (us : List Use) (m : ArgMatches) : Type 0 where
  pub values : (id : Word) → has f.flags id ≡ false → first_value (found_of m) id ≡ value_of us id
  pub flags : (id : Word) → is_line (option_and_then (λ a. a.source) (matched_of (found_of m) id)) ≡ given us id

-- the answer of clap at these words is that of the row
abbrev pub Matches : Form → List Word → Result ArgMatches CmdError → Type 0
Matches f words (Ok m) = (us : List Use) × (reads f [] None 0 words ≡ Some us) × Holds f us m
Matches f words (Err Usage) = reads f [] None 0 words ≡ None
Matches f words (Err Memory) = ⊤
