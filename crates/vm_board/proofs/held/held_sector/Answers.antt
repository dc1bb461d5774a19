use Rattle.std.proofs.Common.{◌≡◌, ◌==◌, ◌∙◌, ℕ, ◌+◌, ◌*◌, ◌≤◌, List, length, Some, sym, ap, subst, eq-eqb}
use Rattle.std.specs.Prelude.{slice_get}
use Rattle.std.proofs.lemmas.Bool.{ne_eqb}
use Rattle.blk_queue.specs.declared.progress.Unfinished.{Unfinished}
use Rattle.blk_queue.specs.Progress.{moved_of}
use Rattle.blk_queue.specs.Queue.{request_of}
use Rattle.vm_state.specs.declared.drive.Drive.{Drive}
use Rattle.vm_state.specs.Machine.{drive_at}
use Rattle.vm_board.specs.Homes.{held_of}
use Rattle.vm_board.proofs.Holding.{held_inside}
use Rattle.vm_disks.proofs.Lookup.{found_here, not_here}
use Rattle.vm_board.proofs.held.held_sector.Goals as goal

pub held_in-requires-clause-inside : goal.held_in-requires-clause-inside
held_in-requires-clause-inside c =
    let s = c.args.run.now.state in
    let x : Unfinished = record { id = c.nth-other.result.0; request = c.nth-other.result.2.now; progress = c.nth-other.result.1 } in
    let drive = c.drive-drive.result.now in
    let same : drive ≡ drive_at s.machine c.args.disk = c.drive-drive.ensures in
    let found = found_here (λ (y : Unfinished). y.id == c.args.id) drive.queue.requests c.loop-k.k x c.loop-k.invariant c.nth-other.ensures (eq-eqb x.id c.args.id c.if-other-id.true) in
    let at : slice_get (drive_at s.machine c.args.disk).queue.requests c.loop-k.k ≡ Some x = subst (λ (d : Drive). slice_get d.queue.requests c.loop-k.k ≡ Some x) same c.nth-other.ensures in
    let is : request_of (drive_at s.machine c.args.disk).queue c.args.id ≡ Some x = subst (λ (d : Drive). request_of d.queue c.args.id ≡ Some x) same (found ∙ c.nth-other.ensures) in
    let bytes : (drive_at s.machine c.args.disk).bytes ≡ c.as_slice.result.now = sym (c.as_slice.ensures ∙ ap (λ (d : Drive). d.bytes) same) in
    λ f. subst (λ (b : List ℕ). 512 * (x.request.start + moved_of x.progress) + 512 ≤ length b) bytes (held_inside s c.args.by c.args.disk c.args.id c.loop-k.k x c.is_sound.ensures c.requires.there c.requires.held at is f)

pub returns-then-other-id : goal.returns-then-other-id
returns-then-other-id c =
    let s = c.args.run.now.state in
    let x : Unfinished = record { id = c.nth-other.result.0; request = c.nth-other.result.2.now; progress = c.nth-other.result.1 } in
    let drive = c.drive-drive.result.now in
    let found = found_here (λ (y : Unfinished). y.id == c.args.id) drive.queue.requests c.loop-k.k x c.loop-k.invariant c.nth-other.ensures (eq-eqb x.id c.args.id c.if-other-id.true) in
    let is : request_of drive.queue c.args.id ≡ Some x = found ∙ c.nth-other.ensures in
    c.held_in.ensures ∙ ap (λ (b : List ℕ). held_of b (Some x)) c.as_slice.ensures ∙ ap (held_of drive.bytes) (sym is) ∙ ap (λ (d : Drive). held_of d.bytes (request_of d.queue c.args.id)) c.drive-drive.ensures

pub loop-k-preserved : goal.loop-k-preserved
loop-k-preserved c =
    let x : Unfinished = record { id = c.nth-other.result.0; request = c.nth-other.result.2.now; progress = c.nth-other.result.1 } in
    not_here (λ (y : Unfinished). y.id == c.args.id) c.drive-drive.result.now.queue.requests c.loop-k.k x c.loop-k.invariant c.nth-other.ensures (ne_eqb x.id c.args.id c.if-other-id.false)
