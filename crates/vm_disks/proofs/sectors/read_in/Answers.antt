use Rattle.std.proofs.Common.{◌≡◌, ap, ◌∙◌, arith}
use Rattle.std.proofs.lemmas.List.{length-take, length-drop}
use Rattle.vm_state.specs.Requests.{address_in}
use Rattle.vm_disks.proofs.Segments.{reaches, read_is_no_flush, same_piece}
use Rattle.vm_disks.proofs.sectors.read_in.Goals as goal

pub write-requires-clause-inside : goal.write-requires-clause-inside
write-requires-clause-inside c =
    let r = reaches c.args.ram.now.memory c.args.disk.now c.args.request.now c.args.moved c.is_sound.ensures.sound c.requires.asked c.requires.fits c.requires.whole (read_is_no_flush c.args.request.now.kind c.requires.read) c.requires.more in
    let far = r.address in
    let a : c.address_in-address.result ≡ address_in c.args.request.now.segments.items c.args.moved =
    c.address_in-address.ensures ∙ ap (λ xs. address_in xs c.args.moved) c.as_slice.ensures.value in
    simp (length-take, length-drop) (omega (arith, far, a))

pub returns-clause-memory : goal.returns-clause-memory
returns-clause-memory c =
    c.write.ensures.memory
    ∙ same_piece c.args.ram.now.memory c.address_in-address.result c.byte_of-at.result c.args.disk.now c.as_slice-2.result.now c.args.request.now.segments.items c.args.moved _
    (c.address_in-address.ensures ∙ ap (λ xs. address_in xs c.args.moved) c.as_slice.ensures.value) c.byte_of-at.ensures c.as_slice-2.ensures
