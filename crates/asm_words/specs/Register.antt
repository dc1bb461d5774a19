-- Registers by their names. Source: Intel SDM volume 1, section 3.4.1.1 and table 3-2; the numbers are those of volume 2.
use Rattle.std.specs.Prelude.{ℕ, ◌+◌, List, [], ◌∷◌, Option, Some, None, option_map, codes, slice_get, unwrap_or, if◌then◌else◌}
use Rattle.std.specs.Option.{option_or}
use Rattle.std.specs.Str.{bytes_eq}
use Rattle.vm_law.specs.declared.insn.Width.{Width}
use Rattle.vm_law.specs.declared.insn.Width.TheVariants as width
use Rattle.vm_law.specs.declared.insn.Loc.{Loc}
use Rattle.vm_law.specs.declared.insn.Loc.TheVariants as loc

-- the place of a name in a list, counted from n
abbrev pub place_from : ℕ → List (List ℕ) → List ℕ → Option ℕ
place_from n [] name = None
place_from n (x ∷ xs) name = if bytes_eq name x then Some n else place_from (n + 1) xs name

abbrev pub byte_names : List (List ℕ)
byte_names = codes "al" ∷ codes "cl" ∷ codes "dl" ∷ codes "bl" ∷ codes "spl" ∷ codes "bpl" ∷ codes "sil" ∷ codes "dil" ∷ codes "r8b" ∷ codes "r9b" ∷ codes "r10b" ∷ codes "r11b" ∷ codes "r12b" ∷ codes "r13b" ∷ codes "r14b" ∷ codes "r15b" ∷ []

abbrev pub word_names : List (List ℕ)
word_names = codes "ax" ∷ codes "cx" ∷ codes "dx" ∷ codes "bx" ∷ codes "sp" ∷ codes "bp" ∷ codes "si" ∷ codes "di" ∷ codes "r8w" ∷ codes "r9w" ∷ codes "r10w" ∷ codes "r11w" ∷ codes "r12w" ∷ codes "r13w" ∷ codes "r14w" ∷ codes "r15w" ∷ []

abbrev pub dword_names : List (List ℕ)
dword_names = codes "eax" ∷ codes "ecx" ∷ codes "edx" ∷ codes "ebx" ∷ codes "esp" ∷ codes "ebp" ∷ codes "esi" ∷ codes "edi" ∷ codes "r8d" ∷ codes "r9d" ∷ codes "r10d" ∷ codes "r11d" ∷ codes "r12d" ∷ codes "r13d" ∷ codes "r14d" ∷ codes "r15d" ∷ []

abbrev pub qword_names : List (List ℕ)
qword_names = codes "rax" ∷ codes "rcx" ∷ codes "rdx" ∷ codes "rbx" ∷ codes "rsp" ∷ codes "rbp" ∷ codes "rsi" ∷ codes "rdi" ∷ codes "r8" ∷ codes "r9" ∷ codes "r10" ∷ codes "r11" ∷ codes "r12" ∷ codes "r13" ∷ codes "r14" ∷ codes "r15" ∷ []

abbrev pub high_names : List (List ℕ)
high_names = codes "ah" ∷ codes "ch" ∷ codes "dh" ∷ codes "bh" ∷ []

abbrev pub byte_number : List ℕ → Option ℕ
byte_number name = place_from 0 byte_names name

abbrev pub word_number : List ℕ → Option ℕ
word_number name = place_from 0 word_names name

abbrev pub dword_number : List ℕ → Option ℕ
dword_number name = place_from 0 dword_names name

abbrev pub qword_number : List ℕ → Option ℕ
qword_number name = place_from 0 qword_names name

abbrev pub high_number : List ℕ → Option ℕ
high_number name = place_from 0 high_names name

-- the number of a register of the width
abbrev pub width_number : Width → List ℕ → Option ℕ
width_number width.B name = byte_number name
width_number width.W name = word_number name
width_number width.D name = dword_number name
width_number width.Q name = qword_number name

abbrev pub at_width : Width → List ℕ → Option (Width × Loc)
at_width w name = option_map (λ n. (w, loc.Reg n)) (width_number w name)

-- AH, CH, DH and BH
abbrev pub high_register : List ℕ → Option (Width × Loc)
high_register name = option_map (λ n. (width.B, loc.High n)) (high_number name)

-- the register of a name, with its width
abbrev pub register_of : List ℕ → Option (Width × Loc)
register_of name = option_or (high_register name) (option_or (option_or (option_or (at_width width.B name) (at_width width.W name)) (at_width width.D name)) (at_width width.Q name))

abbrev pub byte_name : ℕ → List ℕ
byte_name n = unwrap_or (slice_get byte_names n) (codes "r15b")

abbrev pub word_name : ℕ → List ℕ
word_name n = unwrap_or (slice_get word_names n) (codes "r15w")

abbrev pub dword_name : ℕ → List ℕ
dword_name n = unwrap_or (slice_get dword_names n) (codes "r15d")

abbrev pub qword_name : ℕ → List ℕ
qword_name n = unwrap_or (slice_get qword_names n) (codes "r15")

abbrev pub high_name : ℕ → List ℕ
high_name n = unwrap_or (slice_get high_names n) (codes "bh")

-- the name of a register of the width
abbrev pub width_name : Width → ℕ → List ℕ
width_name width.B n = byte_name n
width_name width.W n = word_name n
width_name width.D n = dword_name n
width_name width.Q n = qword_name n
