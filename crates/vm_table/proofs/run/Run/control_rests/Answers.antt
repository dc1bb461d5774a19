use Rattle.std.specs.Prelude.{is_none}
use Rattle.std.proofs.Common.{ap, sym}
use Rattle.vm_table.proofs.run.Run.control_rests.Goals as goal

pub returns-then-rests_at_sight : goal.returns-then-rests_at_sight
returns-then-rests_at_sight c = sym (ap is_none (c.rests_at_sight.ensures c.if-rests_at_sight.true))
