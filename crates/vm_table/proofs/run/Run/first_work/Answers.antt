use Rattle.std.specs.Prelude.{Some, slice_get}
use Rattle.std.proofs.Common.{◌≡◌, List, sym, ap, ◌∙◌}
use Rattle.blk_queue.specs.declared.progress.Unfinished.{Unfinished}
use Rattle.vm_law.specs.declared.journal.Entry.{Entry}
use Rattle.vm_state.specs.declared.drive.Drive.{Drive}
use Rattle.vm_state.specs.Machine.{drive_at}
use Rattle.vm_state.specs.Requests.{is_busy_by}
use Rattle.vm_table.specs.Choosing.{work_on}
use Rattle.vm_table.specs.Table.{lawful}
use Rattle.vm_table.proofs.Firsts.{work_found, work_refused, work_passed}
use Rattle.vm_table.proofs.run.Run.first_work.Goals as goal
use Rattle.vm_table.proofs.run.Run.first_work.Goals.{then-is_its+else-may, else-is_its}

pub returns-then-may : goal.returns-then-may
returns-then-may c =
    let s = c.args.self.now.state in
    let x : Unfinished = record { id = c.nth-id.result.0; request = c.nth-id.result.2.now; progress = c.nth-id.result.1 } in
    let xs : List Unfinished = (drive_at s.machine c.args.disk).queue.requests in
    let here : slice_get xs c.loop-k.k ≡ Some x = ap (λ (d : Drive). slice_get d.queue.requests c.loop-k.k) (sym c.drive.ensures) ∙ c.nth-id.ensures in
    ap (λ (e : Entry). Some e) c.on-entry.ensures
    ∙ work_found (λ e. lawful s c.args.by e) (work_on c.args.work c.args.disk) (is_busy_by c.args.by) xs c.loop-k.k x here (sym c.is_its.ensures ∙ c.if-is_its.true)
    (ap (λ e. lawful s c.args.by e) (sym c.on-entry.ensures) ∙ sym c.may.ensures ∙ c.if-may.true) c.loop-k.invariant

pub loop-k-preserved : goal.loop-k-preserved
loop-k-preserved c =
    let s = c.args.self.now.state in
    let x : Unfinished = record { id = c.nth-id.result.0; request = c.nth-id.result.2.now; progress = c.nth-id.result.1 } in
    let xs : List Unfinished = (drive_at s.machine c.args.disk).queue.requests in
    let here : slice_get xs c.loop-k.k ≡ Some x = ap (λ (d : Drive). slice_get d.queue.requests c.loop-k.k) (sym c.drive.ensures) ∙ c.nth-id.ensures in
    elim c.if-is_its.branch [
      | then-is_its+else-may w ↦
          work_refused (λ e. lawful s c.args.by e) (work_on c.args.work c.args.disk) (is_busy_by c.args.by) xs c.loop-k.k x here (sym c.is_its.ensures ∙ w.if-is_its.true)
          (ap (λ e. lawful s c.args.by e) (sym w.on-entry.ensures) ∙ sym w.may.ensures ∙ w.if-may.false) c.loop-k.invariant
      | else-is_its w ↦
          work_passed (λ e. lawful s c.args.by e) (work_on c.args.work c.args.disk) (is_busy_by c.args.by) xs c.loop-k.k x here (sym c.is_its.ensures ∙ w.if-is_its.false) c.loop-k.invariant
    ]
