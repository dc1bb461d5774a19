use Rattle.std.proofs.Common.{◌≡◌}
use Rattle.x86_fetch.specs.Kept.{AreKept}
use Rattle.x86_fetch.specs.Slices as spec
use Rattle.x86_fetch.proofs.slices.run_many.Given as goal

abbrev pub invariant-loop-done : goal.invariant-loop-done
invariant-loop-done g l =
    AreKept (g.C.Code.bytes l.code) l.table × (l.ctx ≡ spec.stepped_by (g.C.Code.bytes l.code) l.fn.ctx l._done)
