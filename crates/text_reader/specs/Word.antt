-- The words and parts of a line.
use Rattle.std.specs.Prelude.{◌==◌, ℕ, Bool, not, List, [], ◌∷◌, length, map, nat_lt, Option, Some, None, if◌then◌else◌}
use Rattle.std.specs.List.{slice_split, filter, before_first, after_first, position_or_len}
use Rattle.std.specs.Borrow.{Bor}
use Rattle.text_reader.specs.declared.word.Separators.{Separators}
use Rattle.text_reader.specs.declared.word.Separators.TheVariants.{Spaces, Blanks}
use Rattle.text_reader.specs.Line.{is_blank}

abbrev pub texts : List (Bor (List ℕ)) → List (List ℕ)
texts words = map (λ w. w.now) words

abbrev pub is_space : ℕ → Bool
is_space b = b == 32

-- space, or space and tab
abbrev pub is_separator : Separators → ℕ → Bool
is_separator Spaces = is_space
is_separator Blanks = is_blank

abbrev pub is_nonempty : List ℕ → Bool
is_nonempty text = not (length text == 0)

-- the parts between separators that aren't empty
abbrev pub words_by : (ℕ → Bool) → List ℕ → List (List ℕ)
words_by separates text = filter is_nonempty (slice_split separates text)

-- what stands before the first byte c, and after it
abbrev pub cut_at : ℕ → List ℕ → Option (List ℕ × List ℕ)
cut_at c text =
    if nat_lt (position_or_len (λ b. b == c) text) (length text) then Some (before_first (λ b. b == c) text, after_first (λ b. b == c) text) else None

-- what follows a first byte c
abbrev pub after_byte : ℕ → List ℕ → Option (List ℕ)
after_byte c [] = None
after_byte c (b ∷ bs) = if b == c then Some bs else None
