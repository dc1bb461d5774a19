use Rattle.std.specs.List.{sum}
use Rattle.std.proofs.Common.{◌≡◌, ◌≤◌, ◌%◌, ◌^◌, ◌∙◌, length, sym, ap, subst, arith}
use Rattle.std.proofs.lemmas.Bool.Decides.{nat_tests}
use Rattle.vm_state.specs.State.{page_count}
use Rattle.vm_vcpu.specs.Copies.{CopiesView}
use Rattle.vm_vcpu.proofs.Sums.{equal_by_totals}
use Rattle.vm_vcpu.proofs.copies.Copies.are_all_kept.Goals as goal

pub returns : goal.returns
returns c h =
    let s = c.args.run.now.state in
    let v = c.args.self.now in
    let pages : length v.versions ≡ page_count (length v.code) = subst (λ (w : CopiesView). length w.versions ≡ page_count (length w.code)) c.self.view_is c.self.invariant.1 in
    let short : length v.code ≤ 16777216 = subst (λ (w : CopiesView). length w.code ≤ 16777216) c.self.view_is c.self.invariant.2 in
    let e : c.version_total.result ≡ c.total.result = grind (arith, nat_tests) in
    equal_by_totals s v.versions (length v.code) c.is_sound.ensures c.requires.count pages short c.requires.earlier
    (sym c.version_total.ensures ∙ e ∙ c.total.ensures ∙ ap (λ (w : CopiesView). sum w.versions % 2 ^ 64) c.self.view_is)
