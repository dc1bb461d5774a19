-- Values that are numbers, sizes or booleans, as bhyve_config(5) of FreeBSD has them.
use Rattle.std.specs.Prelude.{◌==◌, ◌||◌, ◌*◌, ◌-◌, ◌%◌, nat_lt, length, take, slice_index, ℕ, Bool, true, false, List, [], ◌∷◌, map, Option, Some, None, option_and_then, Result, Ok, Err, codes, if◌then◌else◌}
use Rattle.std.specs.Str.{bytes_eq}
use Rattle.text_reader.specs.Digits.{number}
use Rattle.std.specs.Char.{to_ascii_lowercase}
use Rattle.cfg_vm.specs.declared.error.PlanKind.{PlanKind}
use Rattle.cfg_vm.specs.declared.error.PlanKind.TheVariants.{Number, Range, Boolean}

abbrev pub number_then : {X : Type 0} → (ℕ → Result X PlanKind) → Option ℕ → Result X PlanKind
number_then next None = Err Number
number_then next (Some n) = next n

abbrev pub counted : ℕ → ℕ → Result ℕ PlanKind
counted high n = if nat_lt high n then Err Range else if nat_lt n 1 then Err Range else Ok n

-- from 1 to high
abbrev pub count_or : ℕ → ℕ → Option (List ℕ) → Result ℕ PlanKind
count_or default high None = Ok default
count_or default high (Some text) = number_then (counted high) (number 10 text)

abbrev pub at_most : ℕ → ℕ → Option ℕ
at_most most n = if nat_lt most n then None else Some n

abbrev pub has_leading_zero : List ℕ → Bool
has_leading_zero [] = false
has_leading_zero (b ∷ []) = false
has_leading_zero (b ∷ c ∷ cs) = b == 48

-- from 0 to most, without leading zeros
abbrev pub slot_number : ℕ → List ℕ → Option ℕ
slot_number most text = if has_leading_zero text then None else option_and_then (at_most most) (number 10 text)

-- from 1 MiB to 1 GiB, a multiple of 4,096
abbrev pub sized : ℕ → Result ℕ PlanKind
sized bytes =
    if nat_lt 1073741824 bytes then Err Range
    else if nat_lt bytes 1048576 then Err Range
    else if bytes % 4096 == 0 then Ok bytes
    else Err Range

-- 1 to 18 digits
abbrev pub digits_then : (ℕ → Result ℕ PlanKind) → List ℕ → Result ℕ PlanKind
digits_then next digits = if nat_lt 18 (length digits) then Err Number else number_then next (number 10 digits)

abbrev pub with_unit : ℕ → List ℕ → Result ℕ PlanKind
with_unit unit digits = digits_then (λ n. sized (n * unit)) digits

-- below 1,048,576 in MiB, else in bytes
abbrev pub bytes_of_bare : ℕ → ℕ
bytes_of_bare n = if nat_lt n 1048576 then n * 1048576 else n

abbrev pub bare : List ℕ → Result ℕ PlanKind
bare digits = digits_then (λ n. sized (bytes_of_bare n)) digits

-- the text ends with this letter, in upper or lower case
abbrev pub ends_with : ℕ → ℕ → List ℕ → Bool
ends_with upper lower text = slice_index text (length text - 1) == upper || slice_index text (length text - 1) == lower

abbrev pub memory_of : List ℕ → Result ℕ PlanKind
memory_of text =
    if ends_with 75 107 text then with_unit 1024 (take (length text - 1) text)
    else if ends_with 77 109 text then with_unit 1048576 (take (length text - 1) text)
    else if ends_with 71 103 text then with_unit 1073741824 (take (length text - 1) text)
    else bare text

abbrev pub memory_or : Option (List ℕ) → Result ℕ PlanKind
memory_or None = Ok 268435456
memory_or (Some text) = memory_of text

-- a word in any ASCII case
abbrev pub is_word : List ℕ → List ℕ → Bool
is_word text word = bytes_eq (map to_ascii_lowercase text) (map to_ascii_lowercase word)

abbrev pub boolean_or : Option (List ℕ) → Result Bool PlanKind
boolean_or None = Ok false
boolean_or (Some text) =
    if is_word text (codes "true") || is_word text (codes "on") || is_word text (codes "yes") || is_word text (codes "1") then Ok true
    else if is_word text (codes "false") || is_word text (codes "off") || is_word text (codes "no") || is_word text (codes "0") then Ok false
    else Err Boolean
