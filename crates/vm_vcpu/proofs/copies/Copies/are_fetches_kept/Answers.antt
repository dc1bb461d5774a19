use Rattle.std.proofs.Common.{◌≡◌, ◌+◌, true, false, length, refl, sym, ap, ◌∙◌, add-one}
use Rattle.std.specs.List.{list_all}
use Rattle.vm_law.specs.declared.context.Ctx.{Ctx}
use Rattle.x86_fetch.specs.Slices.{stepped, stepped_by}
use Rattle.vm_table.specs.Rounds.{fetched_from, looked_at}
use Rattle.vm_vcpu.specs.Copies.{CopiesView, is_kept_in}
use Rattle.vm_vcpu.proofs.Fetches.{piece_fails, piece_more}
use Rattle.vm_vcpu.proofs.copies.Copies.are_fetches_kept.Goals as goal

pub returns-then-not-is_fetch_kept-clause-kept : goal.returns-then-not-is_fetch_kept-clause-kept
returns-then-not-is_fetch_kept-clause-kept c =
    let v = c.args.self.now in
    let P = is_kept_in c.args.run.now.state v.versions in
    let k = c.loop-done._done in
    let i = c.loop-done.invariant in
    let here : list_all P (looked_at v.code c.args.start.now k) ≡ false =
    ap (λ (d : Ctx). list_all P (fetched_from (length v.code) d.rip)) (sym i.1)
    ∙ ap (λ (w : CopiesView). list_all (is_kept_in c.args.run.now.state w.versions) (fetched_from (length w.code) c.loop-done.ctx.rip)) (sym i.0)
    ∙ sym c.is_fetch_kept.ensures ∙ c.if-not-is_fetch_kept.true in
    sym (piece_fails P (looked_at v.code c.args.start.now) c.args.count k c.loop-done-test.true here)

pub loop-done-preserved : goal.loop-done-preserved
loop-done-preserved c =
    let v = c.args.self.now in
    let P = is_kept_in c.args.run.now.state v.versions in
    let k = c.loop-done._done in
    let i = c.loop-done.invariant in
    let here : list_all P (looked_at v.code c.args.start.now k) ≡ true =
    ap (λ (d : Ctx). list_all P (fetched_from (length v.code) d.rip)) (sym i.1)
    ∙ ap (λ (w : CopiesView). list_all (is_kept_in c.args.run.now.state w.versions) (fetched_from (length w.code) c.loop-done.ctx.rip)) (sym i.0)
    ∙ sym c.is_fetch_kept.ensures ∙ c.if-not-is_fetch_kept.false in
    let step : c.step.new.ctx ≡ stepped_by v.code c.args.start.now (k + 1) =
    c.step.ensures.ctx ∙ ap (λ (w : CopiesView). stepped w.code c.loop-done.ctx) i.0 ∙ ap (stepped v.code) i.1 ∙ rw add-one refl in
    (c.step.ensures.same ∙ i.0, step, piece_more P (looked_at v.code c.args.start.now) k i.2 here, i.3)
