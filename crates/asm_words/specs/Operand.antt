-- Operands of instructions and directives.
use Rattle.std.specs.Prelude.{◌==◌, ℕ, List, [], ◌∷◌, length, Option, Some, None, option_map, option_and_then, codes, if◌then◌else◌}
use Rattle.std.specs.Option.{option_or}
use Rattle.std.specs.List.{slice_split}
use Rattle.std.specs.Str.{bytes_eq}
use Rattle.vm_law.specs.declared.insn.Width.{Width}
use Rattle.vm_law.specs.declared.insn.Width.TheVariants as width
use Rattle.text_reader.specs.Word.{cut_at}
use Rattle.asm_words.specs.declared.operand.Operand.{Operand}
use Rattle.asm_words.specs.declared.operand.Operand.TheVariants as operand
use Rattle.asm_words.specs.declared.operand.Operands.{Operands}
use Rattle.asm_words.specs.declared.operand.Operands.TheVariants as operands
use Rattle.asm_words.specs.Blank.{trimmed, word_in, behind_word}
use Rattle.asm_words.specs.Label.{value_of}
use Rattle.asm_words.specs.Memory.{memory_of}
use Rattle.asm_words.specs.Number.{number_of}
use Rattle.asm_words.specs.Register.{register_of}

-- ---- in memory

-- the width of a word before a bracket, and no width where there is no word
abbrev pub size_of : List ℕ → Option (Option Width)
size_of word =
    if bytes_eq word (codes "") then Some None
    else if bytes_eq word (codes "byte") then Some (Some width.B)
    else if bytes_eq word (codes "word") then Some (Some width.W)
    else if bytes_eq word (codes "dword") then Some (Some width.D)
    else if bytes_eq word (codes "qword") then Some (Some width.Q)
    else None

abbrev pub place_of : List (List ℕ) → List ℕ → List ℕ → Option Operand
place_of names word inside = option_and_then (λ w. option_map (λ m. operand.Memory w m) (memory_of names inside)) (size_of (trimmed word))

-- up to a `]` (93) at the end
abbrev pub closed : List ℕ → Option (List ℕ × List ℕ) → Option (List ℕ × List ℕ)
closed front None = None
closed front (Some (inside, end)) = if length end == 0 then Some (front, inside) else None

abbrev pub opened : Option (List ℕ × List ℕ) → Option (List ℕ × List ℕ)
opened None = None
opened (Some (front, rest)) = closed front (cut_at 93 rest)

-- what stands before the first `[` (91), and what stands between it and a `]` at the end
abbrev pub bracketed : List ℕ → Option (List ℕ × List ℕ)
bracketed text = opened (cut_at 91 text)

-- ---- without brackets

-- `rel` and a number
abbrev pub distance_of : List ℕ → Option Operand
distance_of text = if bytes_eq (word_in text) (codes "rel") then option_map (λ n. operand.Distance n) (number_of (behind_word text)) else None

-- a register, a number or a label, or a distance
abbrev pub word_of : List (List ℕ) → List ℕ → Option Operand
word_of names text =
    option_or (option_map (λ (w, r). operand.Register w r) (register_of text))
    (option_or (option_map (λ v. operand.Value v) (value_of names text)) (distance_of text))

-- ---- all of them

abbrev pub by_brackets : List (List ℕ) → List ℕ → Option (List ℕ × List ℕ) → Option Operand
by_brackets names text None = word_of names text
by_brackets names text (Some (word, inside)) = place_of names word inside

unfoldable pub operand_of : List (List ℕ) → List ℕ → Option Operand
operand_of names text = by_brackets names text (bracketed text)

abbrev pub joined : Option Operand → Option (List Operand) → Option (List Operand)
joined None os = None
joined (Some o) os = option_map (λ more. o ∷ more) os

-- the operands of these texts, each with blanks round it or not
abbrev pub each_of : List (List ℕ) → List (List ℕ) → Option (List Operand)
each_of names [] = Some []
each_of names (part ∷ parts) = joined (operand_of names (trimmed part)) (each_of names parts)

-- at most three
abbrev pub few : List Operand → Option Operands
few [] = Some operands.None
few (a ∷ []) = Some (operands.One a)
few (a ∷ b ∷ []) = Some (operands.Two a b)
few (a ∷ b ∷ c ∷ []) = Some (operands.Three a b c)
few (a ∷ b ∷ c ∷ d ∷ more) = None

-- the operands that commas (44) separate; none where nothing stands
unfoldable pub operands_of : List (List ℕ) → List ℕ → Option Operands
operands_of names text = if length text == 0 then Some operands.None else option_and_then few (each_of names (slice_split (λ b. b == 44) text))
