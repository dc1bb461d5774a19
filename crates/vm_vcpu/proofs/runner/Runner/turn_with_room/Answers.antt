use Rattle.std.proofs.Common.{◌≡◌, ◌<◌, ◌+◌, sym, ap, subst, ◌∙◌}
use Rattle.vm_state.specs.Machine.{cpu_count}
use Rattle.vm_vcpu.specs.View.{RunnerView}
use Rattle.vm_vcpu.proofs.Standing.{taken_fits}
use Rattle.vm_vcpu.proofs.runner.Runner.turn_with_room.Goals as goal

pub returns-clause-fits : goal.returns-clause-fits
returns-clause-fits g c =
    let r = c.take.new.self in
    let cpu : r.cpu ≡ c.args.self.now.cpu = c.take.ensures.numbers.0 ∙ ap (λ (v : RunnerView). v.cpu) c.add-added.ensures.same in
    let by : r.by ≡ c.args.self.now.by = c.take.ensures.numbers.1 ∙ ap (λ (v : RunnerView). v.by) c.add-added.ensures.same in
    taken_fits c.add-added.new.board.state r (subst (λ n. n < cpu_count c.add-added.new.board.state.machine) (sym cpu) c.add-added.ensures.there)
    (by ∙ c.requires.fits.pass ∙ ap (λ n. 1 + n) (sym cpu)) c.take.ensures.copies c.take.ensures.out
