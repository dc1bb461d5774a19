-- The request for which an image is out.
use Rattle.std.proofs.Common.{◌≡◌, ℕ, ◌+◌, ◌*◌, ◌<◌, ◌≤◌, true, false, length, sym, ap, ◌∙◌, Some}
use Rattle.std.specs.Prelude.{slice_get}
use Rattle.blk_queue.specs.declared.progress.Unfinished.{Unfinished}
use Rattle.blk_queue.specs.Progress.{is_flush, moved_of, puts}
use Rattle.blk_queue.specs.Queue.{request_of}
use Rattle.blk_queue.specs.Sound.{passes}
use Rattle.blk_queue.proofs.Names.{names_one}
use Rattle.vm_state.specs.Machine.{drive_at, drive_count}
use Rattle.vm_state.specs.Sound.{IsSoundState}
use Rattle.vm_state.specs.State.{State, image_at}
use Rattle.vm_disks.specs.Images.{is_holder}
use Rattle.vm_disks.proofs.Going.{held_puts, puts_tells, request_here, sector_inside}

-- its next sector lies on its disk
pub held_inside : (s : State) (p d id k : ℕ) (x : Unfinished) → IsSoundState s → d < drive_count s.machine → is_holder p id (image_at s d).holder ≡ true
    → slice_get (drive_at s.machine d).queue.requests k ≡ Some x → request_of (drive_at s.machine d).queue id ≡ Some x → is_flush x.request ≡ false
    → 512 * (x.request.start + moved_of x.progress) + 512 ≤ length (drive_at s.machine d).bytes
held_inside s p d id k x h l m at is f =
    let drive = drive_at s.machine d in
    let fits = h.machine.each_drive d l in
    let q = drive.queue in
    let some = held_puts q.requests p id (image_at s d).holder m (h.images.each d l).held in
    let here : puts x ≡ true = sym (ap (passes puts) is) ∙ sym ((names_one q fits.queue).test id puts) ∙ some in
    sector_inside drive.bytes x (request_here s.machine.ram drive k x fits at).accepted.sound f (puts_tells x here).more
