use Rattle.std.proofs.Common.{◌∙◌, ap}
use Rattle.vm_state.specs.State.{State}
use Rattle.vm_report.specs.Report.{has_orders}
use Rattle.vm_outcome.proofs.Orders.{orders_named}
use Rattle.vm_outcome.proofs.telling.report_of.Goals as goal

pub report-requires : goal.report-requires
report-requires c =
    ap (λ (s : State). has_orders s.answers) c.requires.last ∙ orders_named c.args.kept.now.start c.args.kept.now.journal c.requires.sound
