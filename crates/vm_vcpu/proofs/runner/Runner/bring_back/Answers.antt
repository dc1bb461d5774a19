use Rattle.std.specs.Prelude.{slice_index}
use Rattle.std.proofs.Common.{◌≡◌, ◌<◌, ◌≤◌, true, false, sym, ap, subst, ◌∙◌, arith}
use Rattle.std.specs.List.{list_all}
use Rattle.vm_state.specs.Machine.{cpu_at, cpu_count, is_running}
use Rattle.vm_state.specs.State.{State}
use Rattle.vm_table.specs.Rounds.{pages_looked}
use Rattle.vm_vcpu.specs.declared.out.Phase.{Phase}
use Rattle.vm_vcpu.specs.Copies.{is_kept_in}
use Rattle.vm_vcpu.specs.Fits.{OutFits, RunnerFits}
use Rattle.vm_vcpu.specs.View.{RunnerView, out_of}
use Rattle.vm_vcpu.proofs.Back.{comes_back, is_most}
use Rattle.vm_vcpu.proofs.Closed.{open_while_running}
use Rattle.vm_vcpu.proofs.runner.Runner.bring_back.Goals as goal

pub are_kept-requires-clause-few : goal.are_kept-requires-clause-few
are_kept-requires-clause-few g c =
    let s = c.args.board.now.state in
    let r = c.self.inside in
    let fits = subst (λ (v : RunnerView). RunnerFits s v) (sym c.self.view_is) c.requires.fits in
    let out = subst (λ (o : Phase). OutFits s r.cpu r.by r.copies (out_of o r.start r.left r.count r.ctx)) c.in-Ran.is fits.out in
    let f = (is_most r.copies.code r.start r.left).few in
    let e = out.1 in
    omega (arith, e, f)

pub are_kept-requires-clause-earlier : goal.are_kept-requires-clause-earlier
are_kept-requires-clause-earlier g c =
    let s = c.args.board.now.state in
    let r = c.self.inside in
    let fits = subst (λ (v : RunnerView). RunnerFits s v) (sym c.self.view_is) c.requires.fits in
    λ page. subst (λ (t : State). slice_index r.copies.versions page ≤ slice_index t.versions page) (sym c.run.ensures) (fits.copies.earlier page)

pub commit-requires-clause-may : goal.commit-requires-clause-may
commit-requires-clause-may g c =
    let s = c.args.board.now.state in
    let r = c.self.inside in
    let fits = subst (λ (v : RunnerView). RunnerFits s v) (sym c.self.view_is) c.requires.fits in
    let out = subst (λ (o : Phase). OutFits s r.cpu r.by r.copies (out_of o r.start r.left r.count r.ctx)) c.in-Ran.is fits.out in
    let b = c.is_sound.ensures in
    let at = b.last in
    let going = subst (λ (t : State). t.closed ≡ false) (sym at) (open_while_running c.args.board.now.start c.args.board.now.journal r.cpu r.by b.legal (subst (λ (t : State). r.cpu < cpu_count t.machine) at fits.cpu) (subst (λ (t : State). is_running (cpu_at t.machine r.cpu).stage r.by ≡ true) at out.0.runs)) in
    let some : 0 < r.count = omega arith in
    let kept : list_all (is_kept_in s r.copies.versions) (pages_looked r.copies.code r.start r.count r.left) ≡ true =
    ap (λ (t : State). list_all (is_kept_in t r.copies.versions) (pages_looked r.copies.code r.start r.count r.left)) (sym c.run.ensures) ∙ sym c.are_kept.ensures.kept ∙ c.if-not-are_kept.false in
    (comes_back s r.copies r.cpu r.by r.count r.left r.start r.ctx going fits.cpu fits.copies out.0 out.1 out.2 some kept).may

pub commit-requires-clause-ran : goal.commit-requires-clause-ran
commit-requires-clause-ran g c =
    let s = c.args.board.now.state in
    let r = c.self.inside in
    let fits = subst (λ (v : RunnerView). RunnerFits s v) (sym c.self.view_is) c.requires.fits in
    let out = subst (λ (o : Phase). OutFits s r.cpu r.by r.copies (out_of o r.start r.left r.count r.ctx)) c.in-Ran.is fits.out in
    let b = c.is_sound.ensures in
    let at = b.last in
    let going = subst (λ (t : State). t.closed ≡ false) (sym at) (open_while_running c.args.board.now.start c.args.board.now.journal r.cpu r.by b.legal (subst (λ (t : State). r.cpu < cpu_count t.machine) at fits.cpu) (subst (λ (t : State). is_running (cpu_at t.machine r.cpu).stage r.by ≡ true) at out.0.runs)) in
    let some : 0 < r.count = omega arith in
    let kept : list_all (is_kept_in s r.copies.versions) (pages_looked r.copies.code r.start r.count r.left) ≡ true =
    ap (λ (t : State). list_all (is_kept_in t r.copies.versions) (pages_looked r.copies.code r.start r.count r.left)) (sym c.run.ensures) ∙ sym c.are_kept.ensures.kept ∙ c.if-not-are_kept.false in
    (comes_back s r.copies r.cpu r.by r.count r.left r.start r.ctx going fits.cpu fits.copies out.0 out.1 out.2 some kept).ran
