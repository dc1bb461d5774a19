-- Spaces and tabs, and what stands between them.
use Rattle.std.specs.Prelude.{◌≡◌, ◌==◌, ℕ, true, List, [], ◌∷◌, ◌++◌, length, drop, Option, if◌then◌else◌}
use Rattle.std.specs.Option.{option_or}
use Rattle.std.specs.List.{list_all, before_first}
use Rattle.text_reader.specs.Line.{is_blank, without_indent}
use Rattle.text_reader.specs.Word.{after_byte}

-- behind the space (32) or tab (9) that the text begins with
abbrev pub after_blank : List ℕ → Option (List ℕ)
after_blank text = option_or (after_byte 32 text) (after_byte 9 text)

-- the text is that front and a space or tab
abbrev pub EndsBlank : List ℕ → List ℕ → Type 0
EndsBlank text front = (c : ℕ) × (is_blank c ≡ true) × (text ≡ front ++ c ∷ [])

-- it ends with neither
abbrev pub EndsFull : List ℕ → Type 0
EndsFull text = (front : List ℕ) (c : ℕ) → is_blank c ≡ true → text ≡ front ++ c ∷ [] → ⊥

-- without the spaces and tabs at the end
abbrev pub without_end : List ℕ → List ℕ
without_end [] = []
without_end (b ∷ bs) = if list_all is_blank (b ∷ bs) then [] else b ∷ without_end bs

-- without the spaces and tabs at both ends
abbrev pub trimmed : List ℕ → List ℕ
trimmed text = without_end (without_indent text)

-- what stands before the first byte c, or all of it
abbrev pub before : ℕ → List ℕ → List ℕ
before c text = before_first (λ b. b == c) text

-- the first word of a text that begins with no blank
abbrev pub word_in : List ℕ → List ℕ
word_in text = before_first is_blank text

-- what stands behind that word, without the blanks round it
abbrev pub behind_word : List ℕ → List ℕ
behind_word text = trimmed (drop (length (word_in text)) text)
