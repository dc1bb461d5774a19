-- Places in memory: what stands in brackets. `rip`, or base, index with its factor, and displacement, in this order and each
-- at most once, with `+` between them; a `-` before the displacement, a number, stands in place of `+`.
-- Source of the form: Intel SDM volume 1, section 3.7.5.
use Rattle.std.specs.Prelude.{◌==◌, nat_le, ℕ, pos, neg_ℤ, true, false, List, [], ◌∷◌, length, Option, Some, None, option_map, option_and_then, codes, if◌then◌else◌}
use Rattle.std.specs.List.{slice_split}
use Rattle.std.specs.Str.{bytes_eq}
use Rattle.text_reader.specs.Word.{cut_at}
use Rattle.asm_words.specs.declared.label.Value.{Value}
use Rattle.asm_words.specs.declared.label.Value.TheVariants.{Number}
use Rattle.asm_words.specs.declared.memory.Memory.{Memory}
use Rattle.asm_words.specs.declared.memory.Term.{Term}
use Rattle.asm_words.specs.declared.memory.Term.TheVariants.{Rip, Base, Index, Displacement}
use Rattle.asm_words.specs.declared.memory.Begun.{Begun}
use Rattle.asm_words.specs.Blank.{trimmed}
use Rattle.asm_words.specs.Label.{value_of}
use Rattle.asm_words.specs.Number.{magnitude, number_of}
use Rattle.asm_words.specs.Register.{qword_number}

-- ---- the parts

-- a register of 64 bits and its factor
abbrev pub index_of : List ℕ → List ℕ → Option Term
index_of register scale = option_and_then (λ r. option_map (λ n. Index r n) (number_of (trimmed scale))) (qword_number (trimmed register))

abbrev pub index_in : Option (List ℕ × List ℕ) → Option Term
index_in None = None
index_in (Some (register, scale)) = index_of register scale

abbrev pub base_or : Option ℕ → Option Value → Option Term
base_or (Some register) value = Some (Base register)
base_or None value = option_map (λ v. Displacement v) value

abbrev pub index_or : Option (List ℕ × List ℕ) → Option Term → Option Term
index_or None other = other
index_or (Some (register, scale)) other = index_of register scale

-- `rip`, a register with its factor behind `*` (42), a register, or a displacement
abbrev pub term_of : List (List ℕ) → List ℕ → Option Term
term_of names text =
    if bytes_eq text (codes "rip") then Some Rip
    else index_or (cut_at 42 text) (base_or (qword_number text) (value_of names text))

-- ---- the place

-- before the first part
abbrev pub nowhere : Begun
nowhere = record { memory = record { rip = false; base = None; index = None; scale = pos 1; displacement = Number (pos 0) }; rank = 0 }

abbrev pub rank_of : Term → ℕ
rank_of Rip = 1
rank_of (Base register) = 1
rank_of (Index register scale) = 2
rank_of (Displacement value) = 3

-- the place with that part
abbrev pub put : Memory → Term → Option Memory
put m Rip = Some (record m { rip = true })
put m (Base register) = Some (record m { base = Some register })
put m (Index register scale) = if m.rip then None else Some (record m { index = Some register; scale = scale })
put m (Displacement value) = Some (record m { displacement = value })

-- the place with one part more, where that part may stand there
abbrev pub with_term : Begun → Term → Option Begun
with_term b term = if nat_le (rank_of term) b.rank then None else option_map (λ m. record { memory = m; rank = rank_of term }) (put b.memory term)

abbrev pub then_term : Begun → Option Term → Option Begun
then_term b term = option_and_then (with_term b) term

-- the place of these parts
abbrev pub of_terms : List (List ℕ) → Begun → List (List ℕ) → Option Begun
of_terms names b [] = Some b
of_terms names b (part ∷ parts) = option_and_then (λ more. of_terms names more parts) (then_term b (term_of names (trimmed part)))

-- the place of the parts that `+` (43) separates
abbrev pub sum_of : List (List ℕ) → List ℕ → Option Begun
sum_of names text = of_terms names nowhere (slice_split (λ b. b == 43) text)

-- the parts before a `-`, which may be none
abbrev pub before_minus : List (List ℕ) → List ℕ → Option Begun
before_minus names text = if length (trimmed text) == 0 then Some nowhere else sum_of names text

-- a displacement below zero
abbrev pub with_minus : Option Begun → List ℕ → Option Memory
with_minus begun digits =
    option_and_then (λ n. option_map (λ b. b.memory) (option_and_then (λ b. with_term b (Displacement (Number (neg_ℤ (pos n))))) begun)) (magnitude (trimmed digits))

abbrev pub by_minus : List (List ℕ) → List ℕ → Option (List ℕ × List ℕ) → Option Memory
by_minus names text None = option_map (λ b. b.memory) (sum_of names text)
by_minus names text (Some (front, digits)) = with_minus (before_minus names front) digits

-- the place in memory of a text between brackets, where `-` is 45
unfoldable pub memory_of : List (List ℕ) → List ℕ → Option Memory
memory_of names text = by_minus names text (cut_at 45 text)
