use Rattle.std.specs.Prelude.{if◌then◌else◌}
use Rattle.std.proofs.Common.{◌∙◌, sym, ap, subst, Bool, Option, None, Some, IfSome}
use Rattle.vm_meet.specs.declared.meeting.Meeting.{Meeting}
use Rattle.vm_law.specs.CpuSet.{Cpus}
use Rattle.vm_meet.specs.Meeting as spec
use Rattle.vm_meet.proofs.Turns.{turn_closes, turn_leaves}
use Rattle.vm_meet.proofs.rendezvous.Meet.turn.Goals as goal

pub returns-then-last-clause-closed : goal.returns-then-last-clause-closed
returns-then-last-clause-closed c =
    turn_closes c.args.self.now c.in-Some.meeting c.args.cpu (sym c.self.view_is ∙ c.in-Some.is) (subst (λ (v : Option Meeting). IfSome v spec.IsOpen) c.self.view_is c.self.invariant) c.requires c.is_filled_by-last.result c.is_filled_by-last.ensures

pub returns-then-last-clause-after : goal.returns-then-last-clause-after
returns-then-last-clause-after c =
    let after = turn_leaves c.args.self.now c.in-Some.meeting c.args.cpu (sym c.self.view_is ∙ c.in-Some.is) (subst (λ (v : Option Meeting). IfSome v spec.IsOpen) c.self.view_is c.self.invariant) c.requires c.is_filled_by-last.result c.is_filled_by-last.ensures in
    sym (after ∙ ap (λ (b : Bool). if b then None else Some (record c.in-Some.meeting { done = spec.done_with c.in-Some.meeting c.args.cpu })) c.if-last.true)

pub returns-else-last-clause-closed : goal.returns-else-last-clause-closed
returns-else-last-clause-closed c =
    turn_closes c.args.self.now c.in-Some.meeting c.args.cpu (sym c.self.view_is ∙ c.in-Some.is) (subst (λ (v : Option Meeting). IfSome v spec.IsOpen) c.self.view_is c.self.invariant) c.requires c.is_filled_by-last.result c.is_filled_by-last.ensures

pub returns-else-last-clause-after : goal.returns-else-last-clause-after
returns-else-last-clause-after c =
    let after = turn_leaves c.args.self.now c.in-Some.meeting c.args.cpu (sym c.self.view_is ∙ c.in-Some.is) (subst (λ (v : Option Meeting). IfSome v spec.IsOpen) c.self.view_is c.self.invariant) c.requires c.is_filled_by-last.result c.is_filled_by-last.ensures in
    ap (λ (s : Cpus). Some (record c.in-Some.meeting { done = s })) c.insert.ensures
    ∙ sym (after ∙ ap (λ (b : Bool). if b then None else Some (record c.in-Some.meeting { done = spec.done_with c.in-Some.meeting c.args.cpu })) c.if-last.false)
