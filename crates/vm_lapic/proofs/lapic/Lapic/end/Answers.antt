use Rattle.std.proofs.Common.{subst, sym}
use Rattle.vm_vectors.specs.Vectors.{Vectors}
use Rattle.vm_lapic.specs.Apic.{NoneReserved}
use Rattle.vm_lapic.proofs.Reserved.{none_after_remove}
use Rattle.vm_lapic.proofs.lapic.Lapic.end.Goals as goal

pub invariant_of-self : goal.invariant_of-self
invariant_of-self c = (
  c.self.invariant.0,
  subst (λ (s : Vectors). NoneReserved s) (sym c.remove.ensures) (none_after_remove c.self.inside.isr c.in-Some.vector c.self.invariant.1),
  c.self.invariant.2,
)
