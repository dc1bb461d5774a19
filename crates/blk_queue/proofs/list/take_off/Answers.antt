use Rattle.std.proofs.Common.{◌∷◌, [], List, filter, sym, subst}
use Rattle.std.specs.Prelude.{not, ◌==◌, remove}
use Rattle.blk_queue.specs.declared.progress.Unfinished.{Unfinished}
use Rattle.blk_queue.specs.declared.starts.Mark.{Mark}
use Rattle.blk_queue.specs.Steps.{freed}
use Rattle.blk_queue.specs.Starts.{Indexes}
use Rattle.blk_queue.proofs.Fitting.{freed_request, freed_id}
use Rattle.blk_queue.proofs.Index.{indexes_map}
use Rattle.blk_queue.proofs.Waking.{ascend-remove, indexes_remove}
use Rattle.blk_queue.proofs.list.take_off.Goals as goal

pub free-requires-clause-ids : goal.free-requires-clause-ids
free-requires-clause-ids c =
    (c.requires.ids.0, rw c.remove-entry.ensures.items (ascend-remove c.requires.ids.0 c.args.list.now.items c.args.at c.remove-entry.result c.requires.ids.1 c.requires.place c.remove-entry.ensures.value))

pub free-requires-clause-indexed : goal.free-requires-clause-indexed
free-requires-clause-indexed c =
    let x : Unfinished = c.remove-entry.result in
    let xs = c.args.list.now.items in
    let marks = c.args.starts.now in
    let kept : Indexes (remove xs c.args.at) (filter (λ (m : Mark). not (m.id == x.id)) marks) = indexes_remove c.requires.ids.0 xs marks c.args.at x c.requires.ids.1 c.requires.place c.remove-entry.ensures.value c.requires.indexed in
    let moved : Indexes c.remove-entry.new.self.items (filter (λ (m : Mark). not (m.id == x.id)) marks) = subst (λ (ys : List Unfinished). Indexes ys (filter (λ (m : Mark). not (m.id == x.id)) marks)) (sym c.remove-entry.ensures.items) kept in
    subst (λ (ms : List Mark). Indexes c.remove-entry.new.self.items ms) (sym c.remove.ensures) moved

pub returns-clause-indexed : goal.returns-clause-indexed
returns-clause-indexed c =
    let x : Unfinished = c.remove-entry.result in
    let xs = c.args.list.now.items in
    let marks = c.args.starts.now in
    let kept : Indexes (remove xs c.args.at) (filter (λ (m : Mark). not (m.id == x.id)) marks) = indexes_remove c.requires.ids.0 xs marks c.args.at x c.requires.ids.1 c.requires.place c.remove-entry.ensures.value c.requires.indexed in
    let moved : Indexes c.remove-entry.new.self.items (filter (λ (m : Mark). not (m.id == x.id)) marks) = subst (λ (ys : List Unfinished). Indexes ys (filter (λ (m : Mark). not (m.id == x.id)) marks)) (sym c.remove-entry.ensures.items) kept in
    let here : Indexes c.remove-entry.new.self.items c.remove.new.self = subst (λ (ms : List Mark). Indexes c.remove-entry.new.self.items ms) (sym c.remove.ensures) moved in
    subst (λ (ys : List Unfinished). Indexes ys c.remove.new.self) (sym c.free.ensures.freed) (indexes_map (freed (x ∷ [])) (freed_request (x ∷ [])) (freed_id (x ∷ [])) c.remove-entry.new.self.items c.remove.new.self here)
