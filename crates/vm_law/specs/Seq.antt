-- A list that lends its elements.
use Rattle.std.specs.Prelude.{ℕ, List, slice_set}
use Rattle.std.specs.Borrow.{Lends, MutBor, Fml}
use denote.RattleType.{RattleType}
use Rattle.vm_law.specs.contracts.seq.Seq.{the_row}

-- r lends element i: what is last written through r ends up at place i, and the rest stays
abbrev pub LendsItem : (T : RattleType) → MutBor (List T.Denot) → ℕ → MutBor T.Denot → Fml
LendsItem T s i r = Lends (the_row T) T s r (slice_set s.now i)
