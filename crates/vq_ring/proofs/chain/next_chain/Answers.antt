use Rattle.std.proofs.Common.{subst, sym}
use Rattle.vq_ring.specs.declared.chain.Chain.{Chain}
use Rattle.vq_ring.specs.Chain.{AllUsable, IfGood, Tells}
use Rattle.vq_ring.proofs.Reached.{tells, usable}
use Rattle.vq_ring.proofs.chain.next_chain.Goals as goal

pub returns-clause-chain : goal.returns-clause-chain
returns-clause-chain g c =
    let m = g.B.Bytes.memory c.args.bytes.now in
    subst (λ (x : Chain). Tells m c.args.ring.now c.args.last x) (sym c.chain_after.ensures) (tells m c.args.ring.now c.args.last)

pub returns-clause-usable : goal.returns-clause-usable
returns-clause-usable g c =
    let m = g.B.Bytes.memory c.args.bytes.now in
    subst (λ (x : Chain). IfGood x (λ good. AllUsable m good.descriptors.items)) (sym c.chain_after.ensures) (usable m c.args.ring.now c.args.last _ (tells m c.args.ring.now c.args.last))
