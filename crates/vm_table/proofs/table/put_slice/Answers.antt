use Rattle.std.proofs.Common.{ap, ◌∙◌}
use Rattle.vm_law.specs.declared.journal.Entry.TheVariants.{Slice}
use Rattle.vm_state.specs.View.{RunView}
use Rattle.vm_table.specs.Table.{after, counted, effect}
use Rattle.vm_table.proofs.Keeps.{after_keeps}
use Rattle.vm_table.proofs.table.put_slice.Goals as goal

pub returns-clause-sound : goal.returns-clause-sound
unfolding after effect
returns-clause-sound c =
    let same = ap (λ (v : RunView). v.state) c.count_entry.ensures ∙ ap (λ (v : RunView). counted v.state) c.put_slice.ensures in
    rw same (after_keeps c.args.run.now.state (record { by = c.args.by; entry = Slice c.args.cpu c.args.n }) c.requires.sound c.requires.lawful)
