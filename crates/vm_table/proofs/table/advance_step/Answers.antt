use Rattle.std.specs.Prelude.{if◌then◌else◌}
use Rattle.std.proofs.Common.{◌≡◌, Bool, true, sym, ap, ◌∙◌}
use Rattle.vm_running.specs.Step.{after_step, may_step}
use Rattle.vm_state.specs.View.{RunView}
use Rattle.vm_table.specs.Table.{counted}
use Rattle.vm_running.proofs.KeepsStep.{keeps_step}
use Rattle.vm_table.proofs.Keeps.{counted_keeps}
use Rattle.vm_table.proofs.table.advance_step.Goals as goal

pub returns-then-step_where_allowed-clause-sound : goal.returns-then-step_where_allowed-clause-sound
returns-then-step_where_allowed-clause-sound c =
    let s = c.args.run.now.state in
    let may : may_step s c.args.by c.args.cpu ≡ true = sym c.step_where_allowed.ensures.may ∙ c.if-step_where_allowed.true in
    let stepped : c.step_where_allowed.new.run.state ≡ after_step s c.args.by c.args.cpu
    = c.step_where_allowed.ensures.state ∙ ap (λ (b : Bool). if b then after_step s c.args.by c.args.cpu else s) c.if-step_where_allowed.true in
    let same = ap (λ (v : RunView). v.state) c.count_entry.ensures ∙ ap counted stepped in
    rw same (counted_keeps (after_step s c.args.by c.args.cpu) (keeps_step s c.args.by c.args.cpu c.requires.sound may))
