use Rattle.std.proofs.Common.{◌≡◌, ◌<◌, sym, ap, subst, ◌∙◌}
use Rattle.vm_state.specs.Machine.{cpu_count}
use Rattle.vm_state.specs.Sound.{IsSoundState}
use Rattle.vm_state.specs.State.{State}
use Rattle.vm_table.specs.History.{after_all}
use Rattle.vm_table.specs.Rounds.{chosen, lease_back}
use Rattle.vm_board.specs.Turn.{some_entry}
use Rattle.vm_vcpu.specs.Turn.{Grows}
use Rattle.vm_vcpu.specs.View.{RunnerView, lease_now}
use Rattle.vm_vcpu.proofs.Staying.{cpus_all}
use Rattle.vm_vcpu.proofs.Turning.{some_of_both, turn_done}
use Rattle.vm_vcpu.proofs.runner.Runner.add.Goals as goal

pub choose-chose-requires-clause-there : goal.choose-chose-requires-clause-there
choose-chose-requires-clause-there g c =
    let r = c.args.self.now in
    let same : c.self.inside.cpu ≡ r.cpu = ap (λ (v : RunnerView). v.cpu) (c.self.view_is ∙ c.bring_back-brought.ensures.same) in
    let e = c.bring_back-brought.ensures.grows.goes.state in
    subst (λ (t : State). c.self.inside.cpu < cpu_count t.machine) (sym e) (subst (λ n. c.self.inside.cpu < n) (sym (cpus_all c.args.board.now.state (lease_back c.args.board.now.state r.cpu (lease_now r)))) (subst (λ n. n < cpu_count c.args.board.now.state.machine) (sym same) c.requires.fits.cpu))

pub returns-clause-grows : goal.returns-clause-grows
returns-clause-grows g c =
    let r = c.args.self.now in
    let by : c.self.inside.by ≡ r.by = ap (λ (v : RunnerView). v.by) (c.self.view_is ∙ c.bring_back-brought.ensures.same) in
    let second = subst (λ n. Grows c.bring_back-brought.new.board c.choose-chose.new.board (chosen c.bring_back-brought.new.board.state n)) by c.choose-chose.ensures.grows in
    let sound : IsSoundState c.args.board.now.state = subst (λ (t : State). IsSoundState t) c.run.ensures c.is_sound.ensures in
    (turn_done g.I.Image.seen c.args.board.now c.bring_back-brought.new.board c.choose-chose.new.board r sound c.is_sound-2.ensures c.is_sound-3.ensures c.requires.fits c.bring_back-brought.ensures.grows second).grows

pub returns-clause-some : goal.returns-clause-some
returns-clause-some g c =
    let r = c.args.self.now in
    let by : c.self.inside.by ≡ r.by = ap (λ (v : RunnerView). v.by) (c.self.view_is ∙ c.bring_back-brought.ensures.same) in
    let s = c.args.board.now.state in
    let back = lease_back s r.cpu (lease_now r) in
    let e = c.bring_back-brought.ensures.grows.goes.state in
    let q : c.choose-chose.result ≡ some_entry (chosen (after_all s back) r.by) =
    c.choose-chose.ensures.some ∙ ap (λ (t : State). some_entry (chosen t c.self.inside.by)) e ∙ ap (λ n. some_entry (chosen (after_all s back) n)) by in
    c.either.ensures ∙ some_of_both back (chosen (after_all s back) r.by) c.bring_back-brought.result c.choose-chose.result c.bring_back-brought.ensures.some q

pub returns-clause-copies : goal.returns-clause-copies
returns-clause-copies g c =
    let r = c.args.self.now in
    let by : c.self.inside.by ≡ r.by = ap (λ (v : RunnerView). v.by) (c.self.view_is ∙ c.bring_back-brought.ensures.same) in
    let second = subst (λ n. Grows c.bring_back-brought.new.board c.choose-chose.new.board (chosen c.bring_back-brought.new.board.state n)) by c.choose-chose.ensures.grows in
    let sound : IsSoundState c.args.board.now.state = subst (λ (t : State). IsSoundState t) c.run.ensures c.is_sound.ensures in
    (turn_done g.I.Image.seen c.args.board.now c.bring_back-brought.new.board c.choose-chose.new.board r sound c.is_sound-2.ensures c.is_sound-3.ensures c.requires.fits c.bring_back-brought.ensures.grows second).copies

pub returns-clause-there : goal.returns-clause-there
returns-clause-there g c =
    let r = c.args.self.now in
    let by : c.self.inside.by ≡ r.by = ap (λ (v : RunnerView). v.by) (c.self.view_is ∙ c.bring_back-brought.ensures.same) in
    let second = subst (λ n. Grows c.bring_back-brought.new.board c.choose-chose.new.board (chosen c.bring_back-brought.new.board.state n)) by c.choose-chose.ensures.grows in
    let sound : IsSoundState c.args.board.now.state = subst (λ (t : State). IsSoundState t) c.run.ensures c.is_sound.ensures in
    (turn_done g.I.Image.seen c.args.board.now c.bring_back-brought.new.board c.choose-chose.new.board r sound c.is_sound-2.ensures c.is_sound-3.ensures c.requires.fits c.bring_back-brought.ensures.grows second).there
