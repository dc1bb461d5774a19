use Rattle.std.proofs.Common.{◌+◌, ◌∙◌, ◌++◌, length, drop, sym, ap, arith, List, ℕ}
use Rattle.vm_event.specs.Events as spec
use Rattle.vm_event.proofs.Sources.{ready_is_short, one_ready, not_ready, next_count, next_front}
use Rattle.vm_event.proofs.events.Events.ready.Goals as goal
use Rattle.vm_event.proofs.events.Events.ready.Goals.{then-is_ready, else-is_ready}

pub loop-id-preserved : goal.loop-id-preserved
loop-id-preserved c =
    let inv = c.loop-id.invariant in
    let front = spec.ready_below c.args.self.now c.args.raised.now c.loop-id.id in
    let short = ready_is_short c.args.self.now c.args.raised.now c.loop-id.id in
    elim c.if-is_ready.branch [
      | then-is_ready w ↦
          let more = one_ready c.args.self.now c.args.raised.now c.loop-id.id (sym c.is_ready.ensures ∙ w.if-is_ready.true) in
          record {
            count = next_count front _ c.loop-id.id c.loop-id.count c.if-is_ready.count more inv.count w.count-is;
            front = next_front front _ c.loop-id.out c.if-is_ready.out c.args.out.now c.loop-id.id c.loop-id.count c.if-is_ready.count more inv.count w.count-is inv.front (omega arith) w.out-is;
          }
      | else-is_ready w ↦
          let same = not_ready c.args.self.now c.args.raised.now c.loop-id.id (sym c.is_ready.ensures ∙ w.if-is_ready.false) in
          record {
            count = w.count-is ∙ inv.count ∙ sym (ap length same);
            front = w.out-is ∙ inv.front ∙ ap (λ (xs : List ℕ). xs ++ drop c.loop-id.count c.args.out.now) (sym same) ∙ ap (λ (k : ℕ). spec.ready_below c.args.self.now c.args.raised.now (c.loop-id.id + 1) ++ drop k c.args.out.now) (sym w.count-is);
          }
    ]
