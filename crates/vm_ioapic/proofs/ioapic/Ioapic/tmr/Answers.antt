use Rattle.std.proofs.Common.{◌<◌, ◌≤◌, ◌∙◌, sym, ap, List, length, arith}
use Rattle.vm_ioapic.specs.declared.pin.Pin.{Pin}
use Rattle.vm_ioapic.specs.Ioapic as spec
use Rattle.vm_ioapic.proofs.Loops.{take_all, vectors_then, vectors_else}
use Rattle.vm_ioapic.proofs.ioapic.Ioapic.tmr.Goals as goal
use Rattle.vm_ioapic.proofs.ioapic.Ioapic.tmr.Goals.{then-is_level_for, else-is_level_for}

pub loop-pin-preserved : goal.loop-pin-preserved
loop-pin-preserved c =
    let place : c.loop-pin.pin-index < length c.self.inside.pins = omega (arith, c.self.invariant.long) in
    elim c.if-is_level_for.branch [
      | then-is_level_for w ↦ vectors_then _ _ _ _ _ _ _ place (sym c.is_level_for.ensures ∙ w.if-is_level_for.true) c.loop-pin.invariant (w.vectors-is ∙ w.insert.ensures)
      | else-is_level_for w ↦ w.vectors-is ∙ vectors_else _ _ _ _ _ _ place (sym c.is_level_for.ensures ∙ w.if-is_level_for.false) c.loop-pin.invariant
    ]

pub returns : goal.returns
returns c =
    let whole : length c.self.inside.pins ≤ c.loop-pin.pin-index = omega (arith, c.self.invariant.long) in
    c.loop-pin.invariant
    ∙ ap (λ (ps : List Pin). spec.vectors_of ps c.args.cpu c.args.cpus) (take_all c.loop-pin.pin-index c.self.inside.pins whole)
    ∙ ap (λ (x : spec.Chip). spec.tmr x c.args.cpu c.args.cpus) c.self.view_is
