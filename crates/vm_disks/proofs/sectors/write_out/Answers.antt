use Rattle.std.proofs.Common.{◌≡◌, ap, ◌∙◌, arith}
use Rattle.vm_state.specs.Requests.{address_in}
use Rattle.vm_disks.proofs.Segments.{reaches}
use Rattle.vm_disks.proofs.sectors.write_out.Goals as goal

pub read-requires : goal.read-requires
read-requires c =
    let r = reaches c.args.ram.now.memory c.args.disk.now c.args.request.now c.args.moved c.is_sound.ensures.sound c.requires.asked c.requires.fits c.requires.whole c.requires.sectors c.requires.more in
    let far = r.address in
    let a : c.address_in-address.result ≡ address_in c.args.request.now.segments.items c.args.moved =
    c.address_in-address.ensures ∙ ap (λ xs. address_in xs c.args.moved) c.as_slice.ensures.value in
    omega (arith, far, a)
