use Rattle.std.proofs.Common.{sym, arith}
use Rattle.std.proofs.lemmas.Bool.Decides.{nat_tests}
use Rattle.vq_ring.proofs.Links.{goes_on_by, ends_by, fails, is_done}
use Rattle.vq_ring.proofs.chain.follow.Goals as goal

pub returns-in_default : goal.returns-in_default
returns-in_default g c = fails _ _ c.loop-step.found.items _ _ c.loop-step.place _ c.loop-step-test.true (sym c.in_default.ensures.usable) c.loop-step.invariant.chain

pub returns-then-entry-eq0 : goal.returns-then-entry-eq0
returns-then-entry-eq0 g c = ends_by _ _ c.loop-step.found.items _ _ _ c.loop-step.place _ _ c.loop-step-test.true c.in-Some.ensures.usable c.in-Some.ensures.descriptor (grind (arith, nat_tests)) c.push.ensures.items c.loop-step.invariant.chain

pub loop-step-preserved : goal.loop-step-preserved
loop-step-preserved g c = record {
  counted = omega arith;
  chain = goes_on_by _ _ c.loop-step.found.items _ _ _ c.loop-step.place _ _ _ c.loop-step-test.true c.in-Some.ensures.usable c.in-Some.ensures.descriptor c.in-Some.ensures.next (grind (arith, nat_tests)) c.push.ensures.items c.loop-step.invariant.chain;
}

pub returns : goal.returns
returns g c = is_done _ _ c.loop-step.found.items _ _ c.loop-step.place _ c.loop-step-test.false c.loop-step.invariant.chain
