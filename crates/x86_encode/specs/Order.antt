-- The order of spellings: the shorter first, and of equally long ones the less, compared byte by byte.
use Rattle.std.specs.Prelude.{ℕ, Bool, true, false, ◌&&◌, ◌||◌, nat_lt, ◌==◌, List, [], ◌∷◌, length}

-- xs stands no later than ys, compared byte by byte; they are equally long
abbrev pub lex_le : List ℕ → List ℕ → Bool
lex_le [] ys = true
lex_le (x ∷ xs) [] = false
lex_le (x ∷ xs) (y ∷ ys) = nat_lt x y || ((x == y) && lex_le xs ys)

-- shorter, or as long and no later byte by byte
abbrev pub before : List ℕ → List ℕ → Bool
before xs ys = nat_lt (length xs) (length ys) || ((length xs == length ys) && lex_le xs ys)
