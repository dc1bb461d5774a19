use Rattle.std.proofs.Common.{◌≡◌, take, sym, ap, ◌∙◌, slice_index_or}
use Rattle.vm_law.specs.declared.journal.Signed.{Signed}
use Rattle.vm_law.specs.declared.journal.Entry.TheVariants.{Claim}
use Rattle.vm_state.specs.State.{State}
use Rattle.vm_table.specs.Table.{lawful, after}
use Rattle.vm_journal.proofs.Histories.{step_legal, step_state, whole_legal}
use Rattle.vm_laws.proofs.Laws.{laws_hold}
use Rattle.vm_journal.proofs.replaying.replay_front.Goals as goal

-- what is read past the end of a journal
abbrev none : Signed
none = record { by = 0; entry = Claim 0 }

pub loop-at-preserved : goal.loop-at-preserved
loop-at-preserved c =
    let items = c.as_slice-signed-items.result.now in
    let x = slice_index_or items c.loop-at.at none in
    let before : c.reserve.new.self.state ≡ c.loop-at.run.state = c.in_ok-reserve.ensures.state in
    let advanced = c.if-not-advance.ensures in
    let may = ap (λ (s : State). lawful s x.by x.entry) (sym before) ∙ sym advanced.lawful in
    let step = advanced.step ∙ ap (λ (s : State). after s x) before in
    record {
      legal = step_legal c.args.start.now items c.args.journal.now c.loop-at.at none c.loop-at.run.state c.as_slice-signed-items.ensures c.loop-at-test.true c.loop-at.invariant.legal c.loop-at.invariant.state may;
      state = step_state c.args.start.now items c.args.journal.now c.loop-at.at none c.loop-at.run.state c.advance.new.self.state c.as_slice-signed-items.ensures c.loop-at-test.true c.loop-at.invariant.state step;
    }

pub returns-then-not-advance-clause-laws : goal.returns-then-not-advance-clause-laws
returns-then-not-advance-clause-laws c =
    laws_hold c.args.start.now (take c.loop-at.at c.args.journal.now) c.requires c.loop-at.invariant.legal

pub returns-clause-laws : goal.returns-clause-laws
returns-clause-laws c =
    laws_hold c.args.start.now c.args.journal.now c.requires
    (whole_legal c.args.start.now c.as_slice-signed-items.result.now c.args.journal.now c.loop-at.at c.as_slice-signed-items.ensures c.loop-at-test.false c.loop-at.invariant.legal)
