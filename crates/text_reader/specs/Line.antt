-- The lines of a text, what a line says, and what the lines give one after the other.
use Rattle.std.specs.Prelude.{◌==◌, ◌||◌, ◌+◌, ℕ, Bool, List, [], ◌∷◌, length, Option, Some, None, Result, Ok, Err, if◌then◌else◌}
use Rattle.std.specs.List.{slice_split}
use Rattle.std.specs.Str.Lines.{strip_carriage_return}
use Rattle.std.specs.Borrow.{Bor}

-- each line that ends at a line feed loses a carriage return before it
abbrev pub ended_lines : List (List ℕ) → List (List ℕ)
ended_lines [] = []
ended_lines (l ∷ []) = l ∷ []
ended_lines (l ∷ m ∷ ls) = strip_carriage_return l ∷ ended_lines (m ∷ ls)

abbrev pub is_feed : ℕ → Bool
is_feed b = b == 10

-- the lines, which end at a line feed or at the text's end
unfoldable pub lines : List ℕ → List (List ℕ)
lines bytes = ended_lines (slice_split is_feed bytes)

-- the lines of what follows a line feed, where one stands
abbrev pub lines_after : Option (Bor (List ℕ)) → List (List ℕ)
lines_after None = []
lines_after (Some rest) = lines rest.now

-- how many bytes are left, and one more where a line is
abbrev pub left : Option (Bor (List ℕ)) → ℕ
left None = 0
left (Some rest) = length rest.now + 1

-- space and tab
abbrev pub is_blank : ℕ → Bool
is_blank b = b == 32 || b == 9

abbrev pub without_indent : List ℕ → List ℕ
without_indent [] = []
without_indent (b ∷ bs) = if is_blank b then without_indent bs else b ∷ bs

-- None where the text is empty or begins with `#` (35)
abbrev pub uncommented : List ℕ → Option (List ℕ)
uncommented [] = None
uncommented (b ∷ bs) = if b == 35 then None else Some (b ∷ bs)

-- what a line says behind its spaces and tabs, if it isn't blank and no comment
abbrev pub content : List ℕ → Option (List ℕ)
content line = uncommented (without_indent line)

-- ---- one line after the other

-- a faulty line, counted from 1, and what is wrong with it
pub record Fault (K : Type 0) : Type 0 where
  pub line : ℕ
  pub kind : K

abbrev pub and_on : {S X F : Type 0} → Result S F → (S → Result X F) → Result X F
and_on (Ok s) next = next s
and_on (Err fault) next = Err fault

-- what the lines give, of which the first is line n: each takes what those before it gave, and the first fault is told
unfoldable pub read_lines : {S F : Type 0} → (ℕ → S → List ℕ → Result S F) → ℕ → S → List (List ℕ) → Result S F
read_lines step n s [] = Ok s
read_lines step n s (l ∷ ls) = and_on (step n s l) (λ more. read_lines step (n + 1) more ls)
