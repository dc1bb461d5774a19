use Rattle.std.proofs.Common.{subst, sym}
use Rattle.vm_vectors.specs.Vectors.{Vectors}
use Rattle.vm_lapic.specs.Apic.{NoneReserved}
use Rattle.vm_lapic.proofs.Reserved.{none_after_insert}
use Rattle.vm_lapic.proofs.lapic.Lapic.post.Goals as goal

pub invariant_of-self : goal.invariant_of-self
invariant_of-self c = (
  subst (λ (s : Vectors). NoneReserved s) (sym c.insert.ensures) (none_after_insert c.self.inside.irr c.args.vector c.if-vector-lt16.false c.self.invariant.0),
  c.self.invariant.1,
  c.self.invariant.2,
)
