use Rattle.std.proofs.Common.{ℕ, Option, sym, ap, ◌∙◌}
use Rattle.std.specs.Prelude.{◌||◌, is_some}
use Rattle.std.specs.List.{list_any}
use Rattle.vm_state.specs.declared.drive.Drive.{Drive}
use Rattle.vm_state.specs.declared.image.DiskImage.{DiskImage}
use Rattle.vm_state.specs.Requests.{is_busy_by}
use Rattle.vm_state.specs.State.{image_at}
use Rattle.vm_table.specs.Rounds.{is_its}
use Rattle.vm_blkwork.proofs.Boards.{busy_any}
use Rattle.vm_blkwork.proofs.worker.Worker.owns.Goals as goal

pub returns-then-is_some : goal.returns-then-is_some
returns-then-is_some g c =
    let by = c.args.self.now.by in
    let any = c.is_some.ensures ∙ ap (λ (o : Option ℕ). is_some o) c.busy_of.ensures ∙ busy_any (is_busy_by by) c.drive.result.now.queue.requests ∙ ap (λ (x : Drive). list_any (is_busy_by by) x.queue.requests) c.drive.ensures in
    c.if-is_some.true ∙ sym (ap (λ b. b || is_its by (image_at c.args.run.now.state c.args.self.now.disk).holder) (sym any ∙ c.if-is_some.true))

pub returns-else-is_some : goal.returns-else-is_some
returns-else-is_some g c =
    let by = c.args.self.now.by in
    let any = c.is_some.ensures ∙ ap (λ (o : Option ℕ). is_some o) c.busy_of.ensures ∙ busy_any (is_busy_by by) c.drive.result.now.queue.requests ∙ ap (λ (x : Drive). list_any (is_busy_by by) x.queue.requests) c.drive.ensures in
    c.is_its.ensures ∙ ap (λ (x : DiskImage). is_its by x.holder) c.image.ensures
    ∙ sym (ap (λ b. b || is_its by (image_at c.args.run.now.state c.args.self.now.disk).holder) (sym any ∙ c.if-is_some.false))
