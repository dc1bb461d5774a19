-- The line of the total.
use Rattle.std.specs.Prelude.{◌≡◌, ℕ, ◌<◌, List, [], ◌∷◌, ◌++◌, length, take, codes, decimal}
use Rattle.vm_host.specs.Told.{WhereTold}
use Rattle.vm_host.specs.Views.{SinkView}
use Rattle.vm_making.specs.Counts.{total}
use Rattle.vm_status.specs.Lines.{joined}

-- its pieces, with the line feed (10) that ends it
abbrev pub total_pieces : List ℕ → List ℕ → List ℕ → List (List ℕ)
total_pieces cpus number total = codes "workload " ∷ cpus ∷ codes " " ∷ number ∷ codes " total " ∷ total ∷ (10 ∷ []) ∷ []

abbrev pub total_line : ℕ → ℕ → List ℕ
total_line cpus number = joined (total_pieces (decimal cpus) (decimal number) (decimal (total cpus number)))

-- A call that takes all of some bytes, then a first part of a line but not the whole of it, and nothing else.
pub record TakesUpTo (sent line : List ℕ) (old new : SinkView) : Type 0 where
  pub told : new.tells ≡ old.tells
  pub taken : WhereTold old.tells ((k : ℕ) × (k < length line) × (new.taken ≡ old.taken ++ (sent ++ take k line)))
