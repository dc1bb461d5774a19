use Rattle.vm_vcpu.specs.Copies.{AreCopies}
use Rattle.vm_vcpu.proofs.Copying.{RenewedBelow}
use Rattle.vm_vcpu.proofs.copies.Copies.renew.Given as goal

abbrev pub invariant-loop-number : goal.invariant-loop-number
invariant-loop-number g l = AreCopies l.board.state l.initial.self × RenewedBelow l.board.state l.initial.self l.self l.number
