use Rattle.std.proofs.Common.{◌≡◌, true, false, sym, ap, subst, ◌∙◌, arith}
use Rattle.std.proofs.lemmas.Grind.{common_steps}
use Rattle.std.proofs.lemmas.List.{get_or-set_same}
use Rattle.vq_ring.specs.Ring.{lies_in}
use Rattle.vm_vblk.specs.Window.{ring_of}
use Rattle.blk_queue.specs.Progress.{ends}
use Rattle.blk_queue.specs.Queue.{some_request}
use Rattle.vm_state.specs.declared.drive.Drive.{Drive}
use Rattle.vm_state.specs.Machine.{no_drive}
use Rattle.vm_state.specs.Sound.{IsDrive}
use Rattle.vm_disks.proofs.Allowed.{tellable}
use Rattle.vm_disks.proofs.moving.finish_in.Goals as goal

pub tell_driver-requires-clause-ready : goal.tell_driver-requires-clause-ready
tell_driver-requires-clause-ready c =
    let drive : Drive = c.drive_mut.result.now in
    let is : IsDrive c.args.machine.now.state.ram drive = subst (λ (x : Drive). IsDrive c.args.machine.now.state.ram x) (sym c.drive_mut.ensures.value) c.requires.drive in
    let may : some_request drive.queue c.args.id ends ≡ true = subst (λ (x : Drive). some_request x.queue c.args.id ends ≡ true) (sym c.drive_mut.ensures.value) c.requires.may in
    let gone : c.finish-told.result.silent ≡ false = grind (arith, common_steps) in
    let t = tellable c.args.machine.now.state.ram drive c.args.id c.finish-told.result is may c.finish-told.ensures.told gone in
    ap (λ (x : Drive). x.window.queue_ready) (get_or-set_same c.args.machine.now.state.drives c.args.d (record drive { queue = c.finish-told.new.self }) no_drive c.requires.there) ∙ t.ready

pub tell_driver-requires-clause-ring : goal.tell_driver-requires-clause-ring
tell_driver-requires-clause-ring c =
    let drive : Drive = c.drive_mut.result.now in
    let is : IsDrive c.args.machine.now.state.ram drive = subst (λ (x : Drive). IsDrive c.args.machine.now.state.ram x) (sym c.drive_mut.ensures.value) c.requires.drive in
    let may : some_request drive.queue c.args.id ends ≡ true = subst (λ (x : Drive). some_request x.queue c.args.id ends ≡ true) (sym c.drive_mut.ensures.value) c.requires.may in
    let gone : c.finish-told.result.silent ≡ false = grind (arith, common_steps) in
    let t = tellable c.args.machine.now.state.ram drive c.args.id c.finish-told.result is may c.finish-told.ensures.told gone in
    ap (λ (x : Drive). lies_in (ring_of x.window) c.args.machine.now.state.ram) (get_or-set_same c.args.machine.now.state.drives c.args.d (record drive { queue = c.finish-told.new.self }) no_drive c.requires.there) ∙ t.ring

pub tell_driver-requires-clause-above_code : goal.tell_driver-requires-clause-above_code
tell_driver-requires-clause-above_code c =
    let drive : Drive = c.drive_mut.result.now in
    let is : IsDrive c.args.machine.now.state.ram drive = subst (λ (x : Drive). IsDrive c.args.machine.now.state.ram x) (sym c.drive_mut.ensures.value) c.requires.drive in
    let may : some_request drive.queue c.args.id ends ≡ true = subst (λ (x : Drive). some_request x.queue c.args.id ends ≡ true) (sym c.drive_mut.ensures.value) c.requires.may in
    let gone : c.finish-told.result.silent ≡ false = grind (arith, common_steps) in
    let t = tellable c.args.machine.now.state.ram drive c.args.id c.finish-told.result is may c.finish-told.ensures.told gone in
    t.above_code

pub tell_driver-requires-clause-in_ram : goal.tell_driver-requires-clause-in_ram
tell_driver-requires-clause-in_ram c =
    let drive : Drive = c.drive_mut.result.now in
    let is : IsDrive c.args.machine.now.state.ram drive = subst (λ (x : Drive). IsDrive c.args.machine.now.state.ram x) (sym c.drive_mut.ensures.value) c.requires.drive in
    let may : some_request drive.queue c.args.id ends ≡ true = subst (λ (x : Drive). some_request x.queue c.args.id ends ≡ true) (sym c.drive_mut.ensures.value) c.requires.may in
    let gone : c.finish-told.result.silent ≡ false = grind (arith, common_steps) in
    let t = tellable c.args.machine.now.state.ram drive c.args.id c.finish-told.result is may c.finish-told.ensures.told gone in
    t.in_ram
