use Rattle.std.proofs.Common.{◌∙◌}
use Rattle.cfg_vm.proofs.Steps.{put_found, put_last}
use Rattle.cfg_vm.proofs.disks.put_slot.Goals as goal

pub returns-in_ok-insert-in-Some : goal.returns-in_ok-insert-in-Some
returns-in_ok-insert-in-Some c =
    let found = rw (c.place.ensures, c.as_slice.ensures.value) at c.in-Some.ensures in
    c.in_ok-insert-in-Some.ensures.items ∙ (put_found c.args.slot c.args.slots.now.items c.in-Some.at found).1

pub returns-in_ok-push-in-None : goal.returns-in_ok-push-in-None
returns-in_ok-push-in-None c =
    let none = rw (c.place.ensures, c.as_slice.ensures.value) at c.in-None.ensures in
    c.in_ok-push-in-None.ensures.items ∙ put_last c.args.slot c.args.slots.now.items none
