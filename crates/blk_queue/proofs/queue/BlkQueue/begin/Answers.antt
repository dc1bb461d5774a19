use Rattle.std.proofs.Common.{◌≡◌, true, false, get_or, None, refl, sym, ap, ◌∙◌}
use Rattle.std.specs.List.{list_any, find}
use Rattle.std.proofs.lemmas.Bool.{true≢false}
use Rattle.blk_queue.specs.declared.progress.Unfinished.{Unfinished}
use Rattle.blk_queue.specs.declared.progress.Progress.TheVariants.{Busy}
use Rattle.blk_queue.specs.Progress.{is_pending}
use Rattle.blk_queue.specs.Queue.{Queue}
use Rattle.blk_queue.proofs.Index.{indexes_change}
use Rattle.blk_queue.proofs.Sound.{sound_change, begun_is, begun_fits, none_found, some_found}
use Rattle.blk_queue.proofs.queue.BlkQueue.begin.Goals as goal

pub returns-in_err-at-clause-none : goal.returns-in_err-at-clause-none
returns-in_err-at-clause-none c =
    let found : find is_pending c.self.inside.list.items ≡ None = rw c.as_slice.ensures.value at c.in_err-at.ensures in
    let none = none_found is_pending c.self.inside.list.items found in
    (λ _. ap (λ (q : Queue). list_any is_pending q.requests) (sym c.self.view_is) ∙ none, λ _. rw c.from_residual.ensures refl)

pub invariant_of-self : goal.invariant_of-self
invariant_of-self c =
    let list = c.self.inside.list.items in
    let i = c.in_ok-at.at in
    let x : Unfinished = c.index_mut-entry.result.now in
    let first = rw c.as_slice.ensures.value at c.in_ok-at.ensures in
    (c.self.invariant.0, sound_change c.self.inside.next list i x (Busy c.args.worker 0 false false) first.0 c.index_mut-entry.ensures.value (begun_fits x c.args.worker) c.self.invariant.1, indexes_change list c.self.inside.starts i x (Busy c.args.worker 0 false false) first.0 c.index_mut-entry.ensures.value c.self.invariant.2)

pub returns-clause-none : goal.returns-clause-none
returns-clause-none c =
    let list = c.self.inside.list.items in
    let i = c.in_ok-at.at in
    let x : Unfinished = c.index_mut-entry.result.now in
    let first = rw c.as_slice.ensures.value at c.in_ok-at.ensures in
    let some : list_any is_pending c.args.self.now.requests ≡ true =
    ap (λ (q : Queue). list_any is_pending q.requests) (sym c.self.view_is) ∙ some_found is_pending list (get_or list i x) (first.1 x) in
    (λ h. absurd (true≢false h), λ h. sym some ∙ h)

pub returns-clause-begun : goal.returns-clause-begun
returns-clause-begun c =
    let list = c.self.inside.list.items in
    let i = c.in_ok-at.at in
    let x : Unfinished = c.index_mut-entry.result.now in
    let first = rw c.as_slice.ensures.value at c.in_ok-at.ensures in
    begun_is c.args.self.now c.args.worker c.self.inside.next list i x c.self.view_is c.self.invariant.1 first.0 c.index_mut-entry.ensures.value (first.1 x)
