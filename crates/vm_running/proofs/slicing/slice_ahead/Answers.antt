use Rattle.std.proofs.Common.{◌≡◌, ◌∙◌, false, sym, ap}
use Rattle.vm_law.specs.declared.context.Ctx.{Ctx}
use Rattle.x86_fetch.specs.Slices.{all_local}
use Rattle.vm_state.specs.Machine.{code_of}
use Rattle.vm_running.specs.Slice.{may_slice, has_slice}
use Rattle.vm_running.proofs.Ahead.{most_fails, never}
use Rattle.vm_running.proofs.slicing.slice_ahead.Goals as goal

pub returns-else-ran-count-clause-may : goal.returns-else-ran-count-clause-may
unfolding may_slice
returns-else-ran-count-clause-may c =
    let s = c.args.run.now.state in
    let ctx = c.ctx_of-ctx.result in
    let few : all_local (code_of s.machine) ctx c.args.count ≡ false = most_fails (code_of s.machine) ctx c.args.count (λ e. c.if-ran-count.false (c.run_ahead-ran.ensures.most ∙ e)) in
    never (has_slice s c.args.by c.args.i c.args.count) _ (ap (λ (d : Ctx). all_local (code_of s.machine) d c.args.count) (sym c.ctx_of-ctx.ensures) ∙ few)
