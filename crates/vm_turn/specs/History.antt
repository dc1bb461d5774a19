-- A history is a list of entries, each with the number of the pass that added it.
use Rattle.std.specs.Prelude.{◌≡◌, ℕ, List, ◌++◌, drop, length, filter, All, ◌==◌}
use Rattle.vm_law.specs.declared.journal.Signed.{Signed}

-- the entries of this number, in their order
abbrev pub signed_by : ℕ → List Signed → List Signed
signed_by n log = filter (λ (s : Signed). s.by == n) log

-- every entry is of this number
abbrev pub AllBy : ℕ → List Signed → Type 0
AllBy n log = All (λ (s : Signed). s.by ≡ n) log

-- the history `log` has `seen` as a prefix
abbrev pub StartsWith : List Signed → List Signed → Type 0
StartsWith log seen = (rest : List Signed) × (log ≡ seen ++ rest)

-- the history `after` is `before`, followed by entries of this number
abbrev pub Adds : ℕ → List Signed → List Signed → Type 0
Adds n before after = (new : List Signed) × (after ≡ before ++ new) × AllBy n new

-- the longer of two histories of which one begins with the other: the first, and what the second has behind that
abbrev pub longer : List Signed → List Signed → List Signed
longer xs ys = xs ++ drop (length xs) ys
