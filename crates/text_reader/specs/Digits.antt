-- Numbers in digits of a base.
use Rattle.std.specs.Prelude.{◌&&◌, nat_lt, nat_le, ℕ, Bool, List, [], ◌∷◌, length, Option, Some, None, option_and_then, if◌then◌else◌}
use Rattle.std.specs.List.{list_all}
use Rattle.std.specs.Char.{digit_value}
use Rattle.std.specs.Str.Parse.{digits_value}
use Rattle.text_reader.specs.Word.{after_byte}

-- a digit of the base, where letters of either case are digits from 10 on
abbrev pub is_digit : ℕ → ℕ → Bool
is_digit base b = nat_lt (digit_value b) base

-- the number that one digit or more write
abbrev pub number : ℕ → List ℕ → Option ℕ
number base text = if nat_lt 0 (length text) && list_all (is_digit base) text then Some (digits_value base text) else None

-- the number of 1 to `most` digits
abbrev pub numeral : ℕ → ℕ → List ℕ → Option ℕ
numeral base most text = if nat_le (length text) most then number base text else None

-- what follows `0x` (48, 120)
abbrev pub after_prefix : List ℕ → Option (List ℕ)
after_prefix text = option_and_then (after_byte 120) (after_byte 48 text)

-- `0x` and 1 to `most` hexadecimal digits
abbrev pub hex_number : ℕ → List ℕ → Option ℕ
hex_number most text = option_and_then (numeral 16 most) (after_prefix text)
