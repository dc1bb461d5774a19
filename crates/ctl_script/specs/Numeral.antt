-- Bytes and registers in a script.
use Rattle.std.specs.Prelude.{◌&&◌, ◌+◌, ◌*◌, ℕ, List, [], ◌∷◌, Option, Some, None, option_map, codes, slice_get, unwrap_or, if◌then◌else◌}
use Rattle.std.specs.Str.{bytes_eq}
use Rattle.std.specs.Char.{digit_value}
use Rattle.text_reader.specs.Digits.{is_digit}

-- the byte that two hexadecimal digits write
abbrev pub byte_of : ℕ → ℕ → Option ℕ
byte_of a b = if is_digit 16 a && is_digit 16 b then Some (digit_value a * 16 + digit_value b) else None

abbrev pub joined : Option ℕ → Option (List ℕ) → Option (List ℕ)
joined None bytes = None
joined (Some b) bytes = option_map (λ bs. b ∷ bs) bytes

-- the bytes that are written in pairs of hexadecimal digits
abbrev pub hex_bytes : List ℕ → Option (List ℕ)
hex_bytes [] = Some []
hex_bytes (a ∷ []) = None
hex_bytes (a ∷ b ∷ rest) = joined (byte_of a b) (hex_bytes rest)

-- the registers of a vCPU, in the order of their numbers
abbrev pub registers : List (List ℕ)
registers = codes "rax" ∷ codes "rcx" ∷ codes "rdx" ∷ codes "rbx" ∷ codes "rsp" ∷ codes "rbp" ∷ codes "rsi" ∷ codes "rdi" ∷ codes "r8" ∷ codes "r9" ∷ codes "r10" ∷ codes "r11" ∷ codes "r12" ∷ codes "r13" ∷ codes "r14" ∷ codes "r15" ∷ codes "rip" ∷ codes "rflags" ∷ []

-- the place of a name in the list, counted from n
abbrev pub place_from : ℕ → List (List ℕ) → List ℕ → Option ℕ
place_from n [] name = None
place_from n (x ∷ xs) name = if bytes_eq name x then Some n else place_from (n + 1) xs name

-- the number of the register of that name
abbrev pub register_of : List ℕ → Option ℕ
register_of name = place_from 0 registers name

-- the name of a register
abbrev pub register_name : ℕ → List ℕ
register_name r = unwrap_or (slice_get registers r) []
