use Rattle.std.specs.Prelude.{slice_index}
use Rattle.std.proofs.Common.{◌≡◌, ◌<◌, ◌≤◌, ◌*◌, length, ap, subst, sym, ◌∙◌, arith}
use Rattle.vm_state.specs.Machine.{code_of}
use Rattle.vm_state.specs.State.{State, page_count}
use Rattle.vm_vcpu.specs.Copies.{CopiesView}
use Rattle.vm_vcpu.proofs.Copying.{all_renewed, all_stand, one_renewed}
use Rattle.vm_vcpu.proofs.copies.Copies.renew.Goals as goal

pub loop-number-preserved : goal.loop-number-preserved
loop-number-preserved g c =
    let s = c.args.board.now.state in
    let v = c.args.self.now in
    let i = c.loop-number.invariant in
    let pages : length v.versions ≡ page_count (length v.code) = subst (λ (w : CopiesView). length w.versions ≡ page_count (length w.code)) c.self.view_is c.self.invariant.1 in
    let size = c.requires.size in
    let count = c.requires.count in
    let now = i.1.count in
    let end : c.pages-number-end.result ≡ length v.versions = c.pages-number-end.ensures ∙ ap (λ (w : CopiesView). length w.versions) c.self.view_is in
    let inside : 4096 * c.loop-number.number < length (code_of s.machine) = omega arith in
    let within : c.loop-number.number < length c.loop-number.self.versions = omega arith in
    (i.0, one_renewed s v c.loop-number.self c.renew_page.new.self c.loop-number.number i.0 inside within i.1 c.renew_page.ensures)

pub returns : goal.returns
returns g c =
    let s = c.args.board.now.state in
    let v = c.args.self.now in
    let i = c.loop-number.invariant in
    let pages : length v.versions ≡ page_count (length v.code) = subst (λ (w : CopiesView). length w.versions ≡ page_count (length w.code)) c.self.view_is c.self.invariant.1 in
    let size = c.requires.size in
    let count = c.requires.count in
    let now = i.1.count in
    let end : c.pages-number-end.result ≡ length v.versions = c.pages-number-end.ensures ∙ ap (λ (w : CopiesView). length w.versions) c.self.view_is in
    let bytes : length (code_of s.machine) ≤ 4096 * c.loop-number.number = omega arith in
    let all : length c.loop-number.self.versions ≤ c.loop-number.number = omega arith in
    all_renewed s v c.loop-number.self c.loop-number.number bytes all i.1

pub returns-then-are_all_kept : goal.returns-then-are_all_kept
returns-then-are_all_kept g c =
    let s = c.args.board.now.state in
    all_stand s c.args.self.now c.requires
    (λ page. sym (ap (λ (t : State). slice_index t.versions page) c.run.ensures) ∙ c.are_all_kept.ensures c.if-are_all_kept.true page)
