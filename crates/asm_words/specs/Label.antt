-- Labels, and the values that a number or a label is.
use Rattle.std.specs.Prelude.{◌==◌, ◌&&◌, ◌||◌, nat_le, ℕ, Bool, true, false, not, List, [], ◌∷◌, length, Option, Some, None, option_map, is_none, codes, if◌then◌else◌}
use Rattle.std.specs.List.{list_all, list_any}
use Rattle.std.specs.Str.{bytes_eq}
use Rattle.asm_words.specs.declared.label.Value.{Value}
use Rattle.asm_words.specs.declared.label.Value.TheVariants.{Number, Label, Undefined}
use Rattle.asm_words.specs.Number.{number_of}
use Rattle.asm_words.specs.Register.{place_from, register_of}

-- a letter of ASCII, a digit or `_` (95)
abbrev pub is_name_byte : ℕ → Bool
is_name_byte b = (nat_le 48 b && nat_le b 57) || ((nat_le 65 b && nat_le b 90) || ((nat_le 97 b && nat_le b 122) || (b == 95)))

-- words that mean something else where a label may stand
abbrev pub reserved : List (List ℕ)
reserved = codes "rip" ∷ codes "rel" ∷ codes "lock" ∷ codes "byte" ∷ codes "word" ∷ codes "dword" ∷ codes "qword" ∷ []

abbrev pub is_reserved : List ℕ → Bool
is_reserved text = list_any (bytes_eq text) reserved

abbrev pub is_name : List ℕ → Bool
is_name text = not (length text == 0) && list_all is_name_byte text

-- a label's form
unfoldable pub is_label : List ℕ → Bool
is_label text = is_name text && (is_none (number_of text) && (is_none (register_of text) && not (is_reserved text)))

-- the place of a name in a list, counted from 0
abbrev pub place_in : List (List ℕ) → List ℕ → Option ℕ
place_in names name = place_from 0 names name

abbrev pub defined_or_not : Option ℕ → Value
defined_or_not None = Undefined
defined_or_not (Some place) = Label place

-- a word of a label's form, where the labels of the text have these names
abbrev pub label_of : List (List ℕ) → List ℕ → Option Value
label_of names text = if is_label text then Some (defined_or_not (place_in names text)) else None

abbrev pub number_or : Option Value → Option Value → Option Value
number_or None other = other
number_or (Some n) other = Some n

-- a number, or a word of a label's form
abbrev pub value_of : List (List ℕ) → List ℕ → Option Value
value_of names text = number_or (option_map (λ n. Number n) (number_of text)) (label_of names text)

-- a label, defined or not
abbrev pub names_label : Value → Bool
names_label (Number n) = false
names_label (Label place) = true
names_label Undefined = true
