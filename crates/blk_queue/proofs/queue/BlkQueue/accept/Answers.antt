use Rattle.std.proofs.Common.{◌+◌, length, sym, ap, ◌∙◌, arith}
use Rattle.std.specs.Prelude.{◌&&◌, not, if◌then◌else◌}
use Rattle.std.specs.List.{list_any}
use Rattle.blk_queue.specs.declared.progress.Progress.TheVariants.{Pending, Blocked}
use Rattle.blk_queue.specs.declared.progress.Unfinished.{Unfinished}
use Rattle.blk_queue.specs.Progress.{is_flush}
use Rattle.blk_queue.specs.Queue.{Queue}
use Rattle.blk_queue.specs.Starts.{ends_at}
use Rattle.blk_queue.specs.Sound.{ProgressFits}
use Rattle.blk_queue.proofs.Index.{marks_fit, stands_is}
use Rattle.blk_queue.proofs.Sound.{sound_push, joined_fits, joined_is}
use Rattle.blk_queue.proofs.queue.BlkQueue.accept.Goals as goal

pub joining-progress-requires : goal.joining-progress-requires
joining-progress-requires c = marks_fit c.self.inside.list.items c.self.inside.starts c.self.invariant.1.requests c.self.invariant.2

pub invariant_of-self : goal.invariant_of-self
invariant_of-self c =
    let sound = c.self.invariant.1 in
    let list = c.self.inside.list.items in
    let long = ap (λ (q : Queue). length q.requests) c.self.view_is in
    let named = ap (λ (q : Queue). q.next) c.self.view_is in
    let y : Unfinished = record { id = c.self.inside.next; request = c.args.request; progress = c.joining-progress.result } in
    let fits : ProgressFits list y c.joining-progress.result =
    rw c.joining-progress.ensures
    (joined_fits list y (not (is_flush y.request) && list_any (ends_at y.request.start) c.self.inside.starts) (stands_is list c.self.inside.starts y.request c.self.invariant.2)) in (
      omega (arith, c.add.ensures.capacity),
      rw c.add.ensures.items (sound_push list c.self.inside.next (c.self.inside.next + 1) y (omega (arith, long)) sound.ids (omega arith) (omega arith) (omega (arith, named)) sound.requests (c.requires.request, fits)),
      c.add.ensures.indexed,
    )

pub returns-clause-joined : goal.returns-clause-joined
returns-clause-joined c =
    rw c.add.ensures.items
    (joined_is c.args.self.now c.self.inside.next c.self.inside.list.items c.args.request c.joining-progress.result c.self.view_is
    (c.joining-progress.ensures ∙ ap (λ b. if b then Blocked else Pending) (sym (stands_is c.self.inside.list.items c.self.inside.starts c.args.request c.self.invariant.2))))
