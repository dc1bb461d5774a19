use Rattle.std.proofs.Common.{rules, ◌≡◌, ℕ, ◌+◌, ◌-◌, subst, ◌∙◌, vec_len, arith}
use Rattle.std.specs.Vec.Iter.{into_iter_len}
use Rattle.vm_threads.specs.Chair.{HasJoined}
use Rattle.vm_threads.proofs.Joining.{joined_none, joined_then}
use Rattle.vm_threads.proofs.ending.finish_all.Goals as goal

pub loop-kept-init : goal.loop-kept-init
loop-kept-init g c =
    let all : into_iter_len c.into_iter-kept-iterator.result ≡ vec_len c.args.here = grind (arith, rules) in
    let none : 0 ≡ vec_len c.args.here - into_iter_len c.into_iter-kept-iterator.result = omega (arith, all) in (
      tt,
      tt,
      search rules,
      c.requires.mine,
      omega (arith, all),
      subst (λ (n : ℕ). HasJoined c.args.chair n c.args.chair) none (joined_none c.args.chair),
    )

pub loop-kept-preserved : goal.loop-kept-preserved
loop-kept-preserved g c =
    let was = c.loop-kept.invariant in
    let most = was.4 in
    let less : into_iter_len c.loop-kept.kept-iterator ≡ into_iter_len c.next.new.self + 1 = grind (arith, rules) in
    let count : (vec_len c.args.here - into_iter_len c.loop-kept.kept-iterator) + 1 ≡ vec_len c.args.here - into_iter_len c.next.new.self = omega (arith, less, most) in (
      tt,
      tt,
      (λ k d below. let h = was.2 (k + 1) d in grind rules),
      c.join_ended-chair.ensures.turnstile ∙ was.3,
      omega (arith, less, most),
      subst (λ (n : ℕ). HasJoined c.args.chair n c.join_ended-chair.result) count (joined_then c.args.chair c.loop-kept.chair c.join_ended-chair.result (vec_len c.args.here - into_iter_len c.loop-kept.kept-iterator) 1 was.5 c.join_ended-chair.ensures),
    )
