use Rattle.std.proofs.Common.{◌≡◌, ◌≤◌, ℕ, get_or}
use Rattle.vm_vectors.proofs.words.top.Given as goal

abbrev pub invariant-loop-below : goal.invariant-loop-below
invariant-loop-below l = record {
  most : l.below ≤ 4;
  none : (k : ℕ) → l.below ≤ k → get_or l.words k 0 ≡ 0;
}

abbrev pub decreases-loop-below : goal.decreases-loop-below
decreases-loop-below l = l.below
