use Rattle.std.proofs.Common.{◌≡◌, ◌<◌, ◌∷◌, [], length, map, get_or, arith, refl, sym, ap, subst, ◌∙◌}
use Rattle.std.specs.Prelude.{remove}
use Rattle.blk_queue.specs.declared.progress.Unfinished.{Unfinished}
use Rattle.blk_queue.specs.Queue.{Queue}
use Rattle.blk_queue.specs.Steps.{freed}
use Rattle.blk_queue.specs.Sound.{IsSound}
use Rattle.blk_queue.proofs.Sound.{queue_of, found_at, count_at, left_is, sound_left}
use Rattle.blk_queue.proofs.queue.BlkQueue.leave.Goals as goal

pub invariant_of-self : goal.invariant_of-self
invariant_of-self c =
    let next = c.self.inside.next in
    let list = c.self.inside.list.items in
    let i = c.place-at.result in
    let x : Unfinished = c.take_off.result in
    let read : x ≡ get_or list i x = c.take_off.ensures.value x in
    let within : i < length list = rw c.as_slice.ensures.value at c.place-at.ensures.within in
    let named : x.id ≡ c.args.id = ap (λ (y : Unfinished). y.id) read ∙ (rw c.as_slice.ensures.value at c.place-at.ensures.named) x in
    let is = left_is (queue_of next list) next list c.args.id i x refl c.self.invariant.1 within read named in
    let sound : IsSound (queue_of next (map (freed (x ∷ [])) (remove list i))) = subst (λ (q : Queue). IsSound q) (sym is) (sound_left next list c.args.id c.self.invariant.1) in
    (omega (arith, c.take_off.ensures.capacity), rw c.take_off.ensures.rest sound, c.take_off.ensures.indexed)

pub returns-clause-found : goal.returns-clause-found
returns-clause-found c =
    let list = c.self.inside.list.items in
    let i = c.place-at.result in
    let x : Unfinished = c.take_off.result in
    let read : x ≡ get_or list i x = c.take_off.ensures.value x in
    let within : i < length list = rw c.as_slice.ensures.value at c.place-at.ensures.within in
    let named : x.id ≡ c.args.id = ap (λ (y : Unfinished). y.id) read ∙ (rw c.as_slice.ensures.value at c.place-at.ensures.named) x in
    found_at c.args.self.now c.self.inside.next list c.args.id i x c.self.view_is c.self.invariant.1 within read named

pub returns-clause-fits : goal.returns-clause-fits
returns-clause-fits c =
    let list = c.self.inside.list.items in
    let within : c.place-at.result < length list = rw c.as_slice.ensures.value at c.place-at.ensures.within in
    count_at c.self.inside.next list c.place-at.result c.take_off.result c.self.invariant.1 within (c.take_off.ensures.value c.take_off.result)

pub returns-clause-left : goal.returns-clause-left
returns-clause-left c =
    let next = c.self.inside.next in
    let list = c.self.inside.list.items in
    let i = c.place-at.result in
    let x : Unfinished = c.take_off.result in
    let read : x ≡ get_or list i x = c.take_off.ensures.value x in
    let within : i < length list = rw c.as_slice.ensures.value at c.place-at.ensures.within in
    let named : x.id ≡ c.args.id = ap (λ (y : Unfinished). y.id) read ∙ (rw c.as_slice.ensures.value at c.place-at.ensures.named) x in
    rw c.take_off.ensures.rest (left_is c.args.self.now next list c.args.id i x c.self.view_is c.self.invariant.1 within read named)
