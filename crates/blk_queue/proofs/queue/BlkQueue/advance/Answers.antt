use Rattle.std.proofs.Common.{◌≡◌, ◌<◌, Bool, true, length, arith, sym, ap, ◌∙◌}
use Rattle.blk_queue.specs.declared.progress.Unfinished.{Unfinished}
use Rattle.blk_queue.specs.Progress.{has_more, one_more}
use Rattle.blk_queue.proofs.Fitting.{FitsAlone}
use Rattle.blk_queue.proofs.Index.{indexes_change}
use Rattle.blk_queue.proofs.Sound.{sound_change, changed_is, passes_at, has_from_some, count_at, more_fits, more_moved}
use Rattle.blk_queue.proofs.queue.BlkQueue.advance.Goals as goal

abbrev more : Unfinished → Bool
more x = has_more x.request.count x.progress

pub place-at-requires : goal.place-at-requires
place-at-requires c =
    rw c.as_slice.ensures.value
    (has_from_some c.args.self.now c.self.inside.next c.self.inside.list.items c.args.id more c.self.view_is c.requires)

pub one_more-entry-requires : goal.one_more-entry-requires
one_more-entry-requires c =
    let list = c.self.inside.list.items in
    let i = c.place-at.result in
    let x : Unfinished = c.index_mut-entry.result.now in
    let read = c.index_mut-entry.ensures.value in
    let within : i < length list = rw c.as_slice.ensures.value at c.place-at.ensures.within in
    let named : x.id ≡ c.args.id = ap (λ (y : Unfinished). y.id) read ∙ (rw c.as_slice.ensures.value at c.place-at.ensures.named) x in
    let passes : more x ≡ true = sym (passes_at c.args.self.now c.self.inside.next list c.args.id i x more c.self.view_is c.self.invariant.1 within read named) ∙ c.requires in
    let less = more_moved x.request.count x.progress passes (count_at c.self.inside.next list i x c.self.invariant.1 within read) in
    omega (arith, less)

pub invariant_of-self : goal.invariant_of-self
invariant_of-self c =
    let list = c.self.inside.list.items in
    let i = c.place-at.result in
    let x : Unfinished = c.index_mut-entry.result.now in
    let read = c.index_mut-entry.ensures.value in
    let within : i < length list = rw c.as_slice.ensures.value at c.place-at.ensures.within in
    let named : x.id ≡ c.args.id = ap (λ (y : Unfinished). y.id) read ∙ (rw c.as_slice.ensures.value at c.place-at.ensures.named) x in
    let passes : more x ≡ true = sym (passes_at c.args.self.now c.self.inside.next list c.args.id i x more c.self.view_is c.self.invariant.1 within read named) ∙ c.requires in
    let alone : FitsAlone x c.one_more-entry.result = rw c.one_more-entry.ensures (more_fits x c.args.ok passes) in
    (c.self.invariant.0, sound_change c.self.inside.next list i x c.one_more-entry.result within read alone c.self.invariant.1, indexes_change list c.self.inside.starts i x c.one_more-entry.result within read c.self.invariant.2)

pub returns : goal.returns
returns c =
    let list = c.self.inside.list.items in
    let i = c.place-at.result in
    let x : Unfinished = c.index_mut-entry.result.now in
    let read = c.index_mut-entry.ensures.value in
    let within : i < length list = rw c.as_slice.ensures.value at c.place-at.ensures.within in
    let named : x.id ≡ c.args.id = ap (λ (y : Unfinished). y.id) read ∙ (rw c.as_slice.ensures.value at c.place-at.ensures.named) x in
    changed_is c.args.self.now c.self.inside.next list c.args.id i x (one_more c.args.ok) c.one_more-entry.result c.self.view_is c.self.invariant.1 within read named c.one_more-entry.ensures
