use Rattle.std.proofs.Common.{◌≡◌, ◌-◌, length}
use Rattle.vq_ring.specs.Chain.{chain_from}
use Rattle.vq_ring.proofs.Links.{with_front}
use Rattle.vq_ring.proofs.chain.follow.Given as goal

abbrev pub invariant-loop-step : goal.invariant-loop-step
invariant-loop-step g l = record {
  counted : length l.found.items ≡ l._step;
  chain : with_front l.found.items (chain_from (g.B.Bytes.memory l.bytes) l.ring (l.ring.size - l._step) l.place) ≡ chain_from (g.B.Bytes.memory l.bytes) l.ring l.ring.size l.fn.head;
}
