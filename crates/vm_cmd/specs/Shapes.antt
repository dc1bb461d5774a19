-- The command that clap reads by: it is made of a row's rules.
use Rattle.std.specs.Prelude.{◌≡◌, ◌&&◌, ◌+◌, codes, Some, true, false, not, Bool, List, [], ◌∷◌, ◌++◌, map, length, nat_lt, ℕ}
use Rattle.std.specs.List.{list_all}
use Rattle.clap.specs.Words.{App, Rule, built, is_simple, is_simple_and_free, new_app, new_rule, with_rule}
use Rattle.clap.specs.Simple.{Shape, filled, with_index}
use Rattle.clap.specs.declared.builder.action.ArgAction.TheVariants.{Set, SetTrue}
use Rattle.vm_cmd.specs.Word.{Word}
use Rattle.vm_cmd.specs.Form.{Form, has}

-- ---- as the builder makes them

abbrev pub place_of : Word → Rule
place_of n = record (new_rule n) { required = true }

abbrev pub valued_of : Word → Rule
valued_of n = record (new_rule n) { long = Some n; action = Some Set }

abbrev pub flag_of : Word → Rule
flag_of n = record (new_rule n) { long = Some n; action = Some SetTrue }

-- no program name among the words, and no `--help`
abbrev pub bare_app : Word → App
bare_app name = record (new_app name) { top = record (new_app name).top { no_binary_name = true; disable_help_flag = true } }

abbrev pub run_app : App
run_app = with_rule (with_rule (with_rule (with_rule (with_rule (bare_app (codes "run")) (place_of (codes "file"))) (valued_of (codes "limit"))) (valued_of (codes "journal"))) (valued_of (codes "restore"))) (flag_of (codes "state"))

abbrev pub replay_app : App
replay_app = with_rule (with_rule (with_rule (with_rule (with_rule (bare_app (codes "replay")) (place_of (codes "file"))) (place_of (codes "journal"))) (valued_of (codes "limit"))) (valued_of (codes "restore"))) (flag_of (codes "state"))

abbrev pub show_app : App
show_app = with_rule (bare_app (codes "show")) (place_of (codes "config"))

abbrev pub files_app : App
files_app = with_rule (with_rule (bare_app (codes "files")) (place_of (codes "file"))) (place_of (codes "out"))

abbrev pub make_app : App
make_app = with_rule (with_rule (bare_app (codes "make")) (place_of (codes "cpus"))) (place_of (codes "number"))

abbrev pub inspect_app : App
inspect_app = with_rule (with_rule (with_rule (with_rule (with_rule (with_rule (with_rule (bare_app (codes "inspect")) (place_of (codes "file"))) (place_of (codes "journal"))) (place_of (codes "at"))) (valued_of (codes "limit"))) (valued_of (codes "restore"))) (valued_of (codes "vector"))) (valued_of (codes "sector"))

-- ---- as clap completes them

abbrev pub option_rule : Word → Rule
option_rule n = filled (valued_of n)

abbrev pub flag_rule : Word → Rule
flag_rule n = filled (flag_of n)

abbrev pub place_rule : Word → ℕ → Rule
place_rule n k = with_index k (filled (place_of n))

abbrev pub places_from : ℕ → List Word → List Rule
places_from k [] = []
places_from k (n ∷ ns) = place_rule n k ∷ places_from (k + 1) ns

abbrev pub form_rules : Form → List Rule
form_rules f = places_from 1 f.places ++ (map option_rule f.options ++ map flag_rule f.flags)

abbrev pub are_apart : List Word → Bool
are_apart [] = true
are_apart (n ∷ ns) = not (has ns n) && are_apart ns

-- the settings that a plain command has
abbrev pub made_shape : Shape → Form → Shape
made_shape s f = record s { rules = form_rules f; args_override_self = false; arg_required_else_help = false; subcommand_required = false; subcommand_negates_reqs = false }

abbrev pub is_well_formed : Form → Bool
is_well_formed f = are_apart f.places && (list_all (λ n. not (has f.places n)) f.options && nat_lt (length f.places) 100)

-- the command is made of the row's rules
pub record MadeOf (a : App) (f : Form) : Type 0 where
  pub free : is_simple_and_free a ≡ true
  pub simple : is_simple a ≡ true
  pub leaf : (built a).subs ≡ []
  pub shape : (built a).top ≡ made_shape (built a).top f
  pub well : is_well_formed f ≡ true
  pub bare : a.top.no_binary_name ≡ true
