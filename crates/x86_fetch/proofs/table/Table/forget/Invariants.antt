use Rattle.std.proofs.Common.{◌+◌, ◌%◌, ◌<◌, ℕ, get_or, None}
use Rattle.x86_fetch.specs.Kept.{IsEmptied, IsClear}
use Rattle.x86_fetch.proofs.table.Table.forget.Given as goal

abbrev pub invariant-loop-k : goal.invariant-loop-k
invariant-loop-k l = record {
  rest : IsEmptied l.initial.self-inside.places.items l.self-inside.places.items;
  gone : (j : ℕ) → j < l.k → IsClear l.at l.len (get_or l.self-inside.places.items ((l.start + j) % 4096) None);
}
