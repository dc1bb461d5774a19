use Rattle.std.proofs.Common.{arith}
use Rattle.std.proofs.lemmas.Grind.{common_steps}
use Rattle.vm_lapic.proofs.Reserved.{read_none}
use Rattle.vm_lapic.proofs.lapic.Lapic.from_saved.Goals as goal

pub invariant_of-result : goal.invariant_of-result
invariant_of-result c = (
  read_none c.from_bytes.result c.args.state.now.irr c.from_bytes.ensures.set c.requires.requested,
  read_none c.from_bytes-2.result c.args.state.now.isr c.from_bytes-2.ensures.set c.requires.in_service,
  grind (arith, common_steps, c.requires.delivery_status),
)
