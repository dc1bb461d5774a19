use Rattle.std.proofs.Common.{◌≡◌, ◌+◌, ◌-◌, List, ℕ, take, drop, ap, sym, subst, ◌∙◌, arith}
use Rattle.guest_ram.specs.Pages.{zero_page, written_in}
use Rattle.guest_ram.proofs.Pages.{Place, bytes-take, bytes-drop}
use Rattle.guest_ram.proofs.Loaded.{Loaded, loaded_none, loaded_more, loaded_whole}
use Rattle.guest_ram.proofs.places.loaded.Goals as goal

pub loop-done-init : goal.loop-done-init
loop-done-init c = loaded_none c.args.payload.now c.in_ok-places.places.items c.in_ok-places.ensures.items

pub loop-done-preserved : goal.loop-done-preserved
loop-done-preserved c =
    let payload = c.args.payload.now in
    let done = c.loop-done.done in
    let size = c.min-size.result in
    let chunk = take (done + size - done) (drop done payload) in
    let k : done + size - done ≡ size = omega arith in
    let bytes = bytes-take (done + size - done) (drop done payload) (bytes-drop done payload (λ j. (c.type_inv.payload j).fits)) in
    let taken : chunk ≡ take size (drop done payload) = ap (λ (n : ℕ). take n (drop done payload)) k in
    let wrote : c.write.new.self ≡ written_in zero_page 0 chunk = c.write.ensures ∙ ap (λ (p : List ℕ). written_in p 0 chunk) c.in_ok-page.ensures in
    subst (λ (ps : List Place). Loaded payload (done + size) ps) (sym c.in_ok-push.ensures.items)
    (loaded_more payload done size c.loop-done.places.items c.write.new.self chunk bytes c.loop-done.invariant c.loop-done-test.true c.min-size.ensures taken wrote)

pub returns-clause-pages : goal.returns-clause-pages
returns-clause-pages c = (loaded_whole c.args.payload.now c.loop-done.done c.args.count c.loop-done.places.items c.fill.new.places.items c.loop-done.invariant (omega arith) c.requires.fits c.in_ok-fill.ensures).pages

pub returns-clause-bytes : goal.returns-clause-bytes
returns-clause-bytes c = (loaded_whole c.args.payload.now c.loop-done.done c.args.count c.loop-done.places.items c.fill.new.places.items c.loop-done.invariant (omega arith) c.requires.fits c.in_ok-fill.ensures).bytes

pub returns-clause-standing : goal.returns-clause-standing
returns-clause-standing c = (loaded_whole c.args.payload.now c.loop-done.done c.args.count c.loop-done.places.items c.fill.new.places.items c.loop-done.invariant (omega arith) c.requires.fits c.in_ok-fill.ensures).standing
