use Rattle.std.proofs.Common.{◌≡◌, ◌∙◌, ℕ, ◌+◌, ◌%◌, ◌++◌, List, ◌∷◌, [], length, ap, sym, arith}
use Rattle.vm_making.specs.Counts.{next}
use Rattle.vm_making.proofs.Counts.{counts_length, counts_more, drawn_first, drawn_more}
use Rattle.vm_making.proofs.counting.counts_of.Goals as goal

pub loop-cpu-init : goal.loop-cpu-init
loop-cpu-init c = record {
  drawn = ap (λ (n : ℕ). n % 2147483648) c.from-x.ensures ∙ sym (drawn_first c.args.number);
  below = omega arith;
  counts = c.new-counts.ensures;
}

pub loop-cpu-preserved : goal.loop-cpu-preserved
loop-cpu-preserved c =
    let at = c.loop-cpu.invariant in
    let drawn = c.next-x.ensures.value ∙ ap next at.drawn ∙ sym (drawn_more c.args.number c.loop-cpu._cpu) in
    record {
      drawn = drawn;
      below = c.next-x.ensures.below;
      counts = c.push.ensures.items ∙ ap (λ (l : List ℕ). l ++ (1 + c.next-x.result % 10000) ∷ []) at.counts ∙ sym (counts_more c.loop-cpu._cpu c.args.number c.next-x.result drawn);
    }

pub push-requires : goal.push-requires
push-requires c =
    let count : length c.loop-cpu.counts.items ≡ c.loop-cpu._cpu = ap length c.loop-cpu.invariant.counts ∙ counts_length c.loop-cpu._cpu c.args.number in
    (omega arith, omega (arith, count, c.loop-cpu-test.true, c.requires))
