use Rattle.std.proofs.Common.{◌≡◌, ◌+◌, ◌-◌, ◌*◌, ◌<◌, ◌^◌, subst, ℕ, get_or, arith, rules}
use Rattle.std.specs.Int.{leading_zeros, w64}
use Rattle.vm_vectors.specs.Words.{IsTop}
use Rattle.vm_vectors.proofs.FourWords.{top_is}
use Rattle.vm_vectors.proofs.words.top.Goals as goal

pub returns-then-word-ne0 : goal.returns-then-word-ne0
returns-then-word-ne0 c =
    let words = c.args.words.now in
    let k = c.loop-below.below - 1 in
    let next : k + 1 ≡ c.loop-below.below = omega arith in
    let fits : get_or words k 0 < 2 ^ 64 = search rules in
    subst (λ (n : ℕ). IsTop words (64 * n - 1 - leading_zeros w64 (get_or words k 0))) next
    (top_is words k c.told-words (omega arith) (omega arith) (omega arith) (λ j lt. c.loop-below.invariant.none j (omega arith)))
