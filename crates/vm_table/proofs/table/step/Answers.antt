use Rattle.std.proofs.Common.{ap, ◌∙◌}
use Rattle.vm_state.specs.View.{RunView}
use Rattle.vm_table.specs.Table.{after, counted}
use Rattle.vm_table.proofs.Keeps.{after_keeps}
use Rattle.vm_table.proofs.table.step.Goals as goal

pub returns-clause-sound : goal.returns-clause-sound
unfolding after
returns-clause-sound c =
    let same = ap (λ (v : RunView). v.state) c.count_entry.ensures ∙ ap counted c.perform.ensures.state in
    rw same (after_keeps c.args.run.now.state (record { by = c.args.by; entry = c.args.entry }) c.requires.sound c.requires.lawful)
