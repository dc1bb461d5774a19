use Rattle.std.proofs.Common.{arith}
use Rattle.std.proofs.lemmas.Grind.{common_steps}
use Rattle.vm_lapic.proofs.Reserved.{saved_none}
use Rattle.vm_lapic.proofs.lapic.Lapic.saved.Goals as goal

pub returns-clause-saved : goal.returns-clause-saved
returns-clause-saved c = record {
  requested = saved_none c.self.inside.irr c.to_bytes.result c.to_bytes.ensures.bytes c.self.invariant.0;
  in_service = saved_none c.self.inside.isr c.to_bytes-2.result c.to_bytes-2.ensures.bytes c.self.invariant.1;
  delivery_status = grind (arith, common_steps, c.self.invariant.2);
}
