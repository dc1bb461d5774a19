use Rattle.std.proofs.Common.{◌≡◌, ◌<◌, true, length, sym, ap, subst, arith}
use Rattle.std.specs.List.{All}
use Rattle.blk_queue.specs.declared.progress.Unfinished.{Unfinished}
use Rattle.blk_queue.specs.Queue.{Queue, stands_behind}
use Rattle.blk_queue.specs.Sound.{ProgressFits, Ascend}
use Rattle.blk_queue.proofs.Ids.{ascend_below}
use Rattle.blk_queue.proofs.Sound.{sound_push, restored_fits}
use Rattle.blk_queue.proofs.queue.BlkQueue.restore.Goals as goal

pub invariant_of-self : goal.invariant_of-self
invariant_of-self c =
    let sound = c.self.invariant.1 in
    let list = c.self.inside.list.items in
    let y : Unfinished = record { id = c.args.id; request = c.args.request; progress = c.waiting-progress.result } in
    let long = ap (λ (q : Queue). length q.requests) c.self.view_is in
    let last = ap (λ (q : Queue). q.next) c.self.view_is in
    let above : All (λ (x : Unfinished). x.id < c.args.id) list = subst (λ (q : Queue). All (λ (x : Unfinished). x.id < c.args.id) q.requests) (sym c.self.view_is) c.requires.above in
    let ids : Ascend 0 list c.args.id = ascend_below 0 c.self.inside.next c.args.id list sound.ids above (omega arith) in
    let behind = subst (λ (q : Queue). c.args.blocked ≡ true → stands_behind q.requests c.args.request ≡ true) (sym c.self.view_is) c.requires.behind in
    let fits : ProgressFits list y c.waiting-progress.result = rw c.waiting-progress.ensures (restored_fits list y c.args.blocked behind) in
    (omega (arith, c.add.ensures.capacity), rw c.add.ensures.items (sound_push list c.args.id c.self.inside.next y (omega (arith, long)) ids (omega arith) (omega (arith, last)) sound.next sound.requests (c.requires.request, fits)), c.add.ensures.indexed)
