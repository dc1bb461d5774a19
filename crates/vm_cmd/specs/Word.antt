-- A word of a command line by itself.
use Rattle.std.specs.Prelude.{◌==◌, ◌||◌, ℕ, Bool, true, false, not, List, [], ◌∷◌, Option, Some, None, option_and_then, map, if◌then◌else◌}
use Rattle.std.specs.List.{list_any, before_first, after_first}
use Rattle.std.specs.Borrow.{Bor}

-- a word's bytes
abbrev pub Word : Type 0
Word = List ℕ

abbrev pub texts : List (Bor Word) → List Word
texts words = map (λ w. w.now) words

-- the word isn't empty and doesn't begin with `-` (45)
abbrev pub is_plain : Word → Bool
is_plain [] = false
is_plain (b ∷ bs) = not (b == 45)

-- what stands before the first `=` (61), and what stands after it where there is one
abbrev pub name_and_value : Word → Word × Option Word
name_and_value text = (before_first (λ b. b == 61) text, if list_any (λ b. b == 61) text then Some (after_first (λ b. b == 61) text) else None)

-- what follows a hyphen
abbrev pub without_hyphen : Word → Option Word
without_hyphen [] = None
without_hyphen (b ∷ bs) = if b == 45 then Some bs else None

abbrev pub named : Word → Option (Word × Option Word)
named [] = None
named (b ∷ bs) = Some (name_and_value (b ∷ bs))

-- `--name` or `--name=value`, as the name and the value; `--` alone is none
abbrev pub long_of : Word → Option (Word × Option Word)
long_of word = option_and_then named (option_and_then without_hyphen (without_hyphen word))

abbrev pub value_stands : Option Word → Bool
value_stands None = true
value_stands (Some []) = false
value_stands (Some (b ∷ bs)) = true

-- a plain word, or an option whose value isn't empty
abbrev pub is_allowed : Word → Bool
is_allowed word = is_plain word || (elim (long_of word) [ None ↦ false | Some p ↦ value_stands p.1 ])
