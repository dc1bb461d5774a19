-- The pages of a code part, of 4,096 bytes each; the last may be cut by the code's end.
use Rattle.std.specs.Prelude.{ℕ, ◌*◌, List, take, drop}

-- page k of the code
abbrev pub page_of : List ℕ → ℕ → List ℕ
page_of code k = take 4096 (drop (4096 * k) code)
