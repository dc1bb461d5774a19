use Rattle.std.proofs.Common.{◌≡◌, Some, sym, ◌∙◌}
use Rattle.vm_table.specs.Table.{lawful}
use Rattle.vm_table.specs.Turns.{list_of}
use Rattle.vm_table.proofs.Firsts.{find_passes}
use Rattle.vm_table.proofs.run.Run.advance_listed.Goals as goal

pub apply-requires-clause-may : goal.apply-requires-clause-may
apply-requires-clause-may c =
    let s = c.args.self.now.state in
    find_passes (λ e. lawful s c.args.by e) (list_of s c.args.by) c.in_ok-entry.entry (sym c.first_lawful.ensures ∙ c.in_ok-entry.was)
