use Rattle.std.proofs.Common.{List, get_or, take, map, sym, ap, subst, ◌∙◌}
use Rattle.std.proofs.lemmas.List.{take_more}
use Rattle.blk_queue.specs.declared.progress.Unfinished.{Unfinished}
use Rattle.blk_queue.specs.declared.starts.Mark.{Mark}
use Rattle.blk_queue.specs.Steps.{change_one}
use Rattle.blk_queue.specs.Starts.{unblocked, woken}
use Rattle.blk_queue.specs.Sound.{Ascend}
use Rattle.blk_queue.proofs.Ids.{ascend-map}
use Rattle.blk_queue.proofs.Waking.{wake_none, wake_more, same_id}
use Rattle.blk_queue.proofs.list.wake.Goals as goal

pub loop-mark-init : goal.loop-mark-init
loop-mark-init c = record { woken = wake_none c.args.list.now; ids = c.requires }

pub loop-mark-preserved : goal.loop-mark-preserved
loop-mark-preserved c =
    let marks = c.args.marks.now in
    let k = c.loop-mark.mark-index in
    let m : Mark = get_or marks k (record { start = 0; count = 0; id = 0 }) in
    let before = take k marks in
    record {
      woken = c.wake_one.ensures ∙ ap (λ xs. map (change_one m.id unblocked) xs) c.loop-mark.invariant.woken ∙ wake_more before m c.args.list.now
          ∙ ap (λ (ms : List Mark). map (woken ms) c.args.list.now) (sym (take_more marks k (record { start = 0; count = 0; id = 0 }) c.loop-mark-test.true));
      ids = (c.loop-mark.invariant.ids.0, subst (λ (xs : List Unfinished). Ascend 0 xs c.loop-mark.invariant.ids.0) (sym c.wake_one.ensures) (ascend-map (change_one m.id unblocked) (same_id m.id) 0 c.loop-mark.invariant.ids.0 c.loop-mark.list c.loop-mark.invariant.ids.1));
    }
