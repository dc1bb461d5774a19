use Rattle.std.proofs.Common.{◌≡◌, false, sym, arith}
use Rattle.x86_fetch.specs.Slices.{stands_local, stepped}
use Rattle.x86_fetch.proofs.Steps.{run_ends, run_is_most}
use Rattle.x86_fetch.proofs.slices.run_slice.Goals as goal

pub returns-then-not-step_local-clause-ran : goal.returns-then-not-step_local-clause-ran
returns-then-not-step_local-clause-ran g c =
    let here : stands_local (g.C.Code.bytes c.args.code.now) c.loop-done.ctx ≡ false = cc in
    let step : c.step_local.new.ctx ≡ stepped (g.C.Code.bytes c.args.code.now) c.loop-done.ctx = cc in
    run_ends _ _ c.loop-done.ctx _ _ c.loop-done.invariant.1 here step

pub returns-then-not-step_local-clause-most : goal.returns-then-not-step_local-clause-most
returns-then-not-step_local-clause-most g c =
    let here : stands_local (g.C.Code.bytes c.args.code.now) c.loop-done.ctx ≡ false = cc in
    sym (run_is_most _ _ c.loop-done.ctx _ c.args.most c.loop-done.invariant.1 here (omega arith))
