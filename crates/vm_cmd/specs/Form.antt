-- What the words after a command spell: places, options with a value, flags.
use Rattle.std.specs.Prelude.{◌+◌, ℕ, Bool, List, [], ◌∷◌, ◌++◌, Option, Some, None, option_and_then, option_map, slice_get, codes, find, if◌then◌else◌}
use Rattle.std.specs.List.{list_all, list_any}
use Rattle.std.specs.Str.{bytes_eq}
use Rattle.vm_cmd.specs.Word.{Word, is_plain, long_of}

-- a row of the table of commands: the places, which plain words fill in order, the options with a
-- value, and the flags
pub record Form : Type 0 where
  pub places : List Word
  pub options : List Word
  pub flags : List Word

-- a place or an option with its value, or a flag, whose value is `true`
pub record Use : Type 0 where
  pub name : Word
  pub value : Word

abbrev pub has : List Word → Word → Bool
has names name = list_any (λ x. bytes_eq x name) names

abbrev pub given : List Use → Word → Bool
given us name = list_any (λ u. bytes_eq u.name name) us

-- the value that was given for a name, if there is one
abbrev pub value_of : List Use → Word → Option Word
value_of us name = option_map (λ u. u.value) (find (λ u. bytes_eq u.name name) us)

-- one use more, of a name that wasn't used yet
abbrev pub put : List Use → Use → Option (List Use)
put us u = if given us u.name then None else Some (us ++ u ∷ [])

abbrev pub valued : Word → Word → Use
valued name value = record { name = name; value = value }

abbrev pub flagged : Word → Use
flagged name = record { name = name; value = codes "true" }

-- what `--name` or `--name=value` adds, where the words after it are read by `next`
abbrev pub reads_option : Form → List Use → Word → Option Word → (List Use → Option Word → Option (List Use)) → Option (List Use)
reads_option f us name None next = if has f.options name then next us (Some name)
    else if has f.flags name then option_and_then (λ more. next more None) (put us (flagged name))
    else None
reads_option f us name (Some []) next = None
reads_option f us name (Some (b ∷ bs)) next =
    if has f.options name then option_and_then (λ more. next more None) (put us (valued name (b ∷ bs))) else None

-- the uses that the words spell, after those of the words before; `waiting` is the option whose value
-- comes next, and k places are filled. None where the words break the row: a name used twice, a place
-- too many or too few, a value that is missing, empty or begins with `-`, or another word with `-`
unfoldable pub reads : Form → List Use → Option Word → ℕ → List Word → Option (List Use)
reads f us None k [] = if list_all (given us) f.places then Some us else None
reads f us (Some name) k [] = None
reads f us (Some name) k (word ∷ words) =
    if is_plain word then option_and_then (λ more. reads f more None k words) (put us (valued name word)) else None
reads f us None k (word ∷ words) =
    if is_plain word then option_and_then (λ name. option_and_then (λ more. reads f more None (k + 1) words) (put us (valued name word))) (slice_get f.places k)
    else option_and_then (λ p. reads_option f us p.0 p.1 (λ more waiting. reads f more waiting k words)) (long_of word)
