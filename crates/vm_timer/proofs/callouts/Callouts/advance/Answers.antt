use Rattle.std.proofs.Common.{◌≡◌, ◌<◌, ◌^◌, ◌∙◌, ℕ, List, get_or, set, ap, arith}
use Rattle.std.proofs.Math.ListN.{length-set}
use Rattle.std.proofs.lemmas.List.Edits.{fill_by_more}
use Rattle.std.proofs.lemmas.List.Elements.{All-set}
use Rattle.std.proofs.lemmas.List.FromFn.{fill_by_all}
use Rattle.vm_timer.specs.Timers as spec
use Rattle.vm_timer.specs.Timers.{ticked}
use Rattle.vm_timer.proofs.callouts.Callouts.advance.Goals as goal

pub loop-cpu-preserved : goal.loop-cpu-preserved
loop-cpu-preserved c =
    let inv = c.loop-cpu.invariant in
    let rest = λ (k : ℕ). spec.left_after c.args.n (get_or c.args.spans.now k 0) (get_or c.self.inside.left k 0) in
    let this : c.left_after.result ≡ rest c.loop-cpu.cpu = c.left_after.ensures.left in
    record {
      each = λ k l. ap (λ (v : ℕ). get_or (set c.loop-cpu.after c.loop-cpu.cpu v) k 0) this ∙ fill_by_more rest c.loop-cpu.after c.loop-cpu.cpu 0 (omega arith) inv.each k l;
      small = All-set (λ r. r < 2 ^ 40) c.loop-cpu.after c.loop-cpu.cpu c.left_after.result c.left_after.ensures.small inv.small;
      long = length-set _ _ _ ∙ inv.long;
    }

pub returns : goal.returns
unfolding ticked
returns c =
    let inv = c.loop-cpu.invariant in
    fill_by_all (λ (k : ℕ). spec.left_after c.args.n (get_or c.args.spans.now k 0) (spec.left_of c.args.self.now k)) c.loop-cpu.after 16 0 inv.long
    (λ k l. inv.each k (omega arith) ∙ ap (λ (ts : List ℕ). spec.left_after c.args.n (get_or c.args.spans.now k 0) (get_or ts k 0)) c.self.view_is)
