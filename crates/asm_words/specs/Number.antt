-- Numbers, and the fields that hold them.
use Rattle.std.specs.Prelude.{ℕ, ◌+◌, ◌%◌, ◌^◌, ℤ, pos, neg_ℤ, int_lt, Bool, not, ◌&&◌, min, List, Option, Some, None, option_map}
use Rattle.std.specs.Int.{w8, w16, w32, w64, w128, cast_signed, cast_unsigned}
use Rattle.vm_law.specs.declared.insn.Width.{Width}
use Rattle.vm_law.specs.declared.insn.Width.TheVariants as width
use Rattle.text_reader.specs.Digits.{number, after_prefix}
use Rattle.text_reader.specs.Word.{after_byte}
use Rattle.asm_words.specs.declared.number.Field.{Field}
use Rattle.asm_words.specs.declared.number.Field.TheVariants.{Whole, Extended}

-- ---- their text

abbrev pub hex_or_decimal : Option (List ℕ) → List ℕ → Option ℕ
hex_or_decimal None text = number 10 text
hex_or_decimal (Some digits) text = number 16 digits

-- decimal digits, or hexadecimal ones behind `0x`; 2^64, which no field holds, stands for each number that isn't below it
abbrev pub magnitude : List ℕ → Option ℕ
magnitude text = option_map (min (2 ^ 64)) (hex_or_decimal (after_prefix text) text)

abbrev pub with_sign : Option (List ℕ) → List ℕ → Option ℤ
with_sign None text = option_map pos (magnitude text)
with_sign (Some digits) text = option_map (λ n. neg_ℤ (pos n)) (magnitude digits)

-- a magnitude, with a `-` (45) before it or not
abbrev pub number_of : List ℕ → Option ℤ
number_of text = with_sign (after_byte 45 text) text

-- ---- fields

-- how many bits a width has
abbrev pub bits : Width → ℕ
bits width.B = 8
bits width.W = 16
bits width.D = 32
bits width.Q = 64

-- half of how many numbers a field of the width tells apart
abbrev pub half : Width → ℕ
half width.B = 2 ^ 7
half width.W = 2 ^ 15
half width.D = 2 ^ 31
half width.Q = 2 ^ 63

-- from -low up to high, high left aside
abbrev pub is_within : ℕ → ℕ → ℤ → Bool
is_within low high n = not (int_lt n (neg_ℤ (pos low))) && int_lt n (pos high)

-- whether a field holds a number: with the sign or without it, but with the sign where it is extended to a wider operand
abbrev pub holds : Field → ℤ → Bool
holds (Whole w) n = is_within (half w) (half w + half w) n
holds (Extended w) n = is_within (half w) (half w) n

-- the number's bits in a field of the width
abbrev pub bits_in : Width → ℤ → ℕ
bits_in width.B n = cast_unsigned w128 n % 2 ^ 8
bits_in width.W n = cast_unsigned w128 n % 2 ^ 16
bits_in width.D n = cast_unsigned w128 n % 2 ^ 32
bits_in width.Q n = cast_unsigned w128 n % 2 ^ 64

-- these bits with their sign
abbrev pub signed_in : Width → ℤ → ℤ
signed_in width.B n = cast_signed w8 (bits_in width.B n)
signed_in width.W n = cast_signed w16 (bits_in width.W n)
signed_in width.D n = cast_signed w32 (bits_in width.D n)
signed_in width.Q n = cast_signed w64 (bits_in width.Q n)

-- the same, of 32 bits at the width of 64
abbrev pub signed32_in : Width → ℤ → ℤ
signed32_in width.B n = signed_in width.B n
signed32_in width.W n = signed_in width.W n
signed32_in width.D n = signed_in width.D n
signed32_in width.Q n = signed_in width.D n
