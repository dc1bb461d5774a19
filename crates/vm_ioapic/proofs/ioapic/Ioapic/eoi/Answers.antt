use Rattle.std.proofs.Common.{◌≡◌, ◌<◌, ◌≤◌, ◌∙◌, sym, ap, subst, map, length, arith}
use Rattle.std.proofs.lemmas.List.{length-set}
use Rattle.vm_ioapic.specs.Ioapic.{EachPin, IsChip}
use Rattle.vm_ioapic.specs.Pin.{after_eoi, eoi_message}
use Rattle.vm_ioapic.proofs.Loops.{mapped_more, mapped_all, given_more, given_none, one_more}
use Rattle.vm_ioapic.proofs.Sound.{each_map, eoi_ok}
use Rattle.vm_ioapic.proofs.ioapic.Ioapic.eoi.Goals as goal
use Rattle.vm_ioapic.proofs.ioapic.Ioapic.eoi.Goals.{in-Some, in_default}

pub loop-pin-preserved : goal.loop-pin-preserved
loop-pin-preserved c =
    let place : c.loop-pin.pin-index < length c.loop-pin.pin-items = omega (arith, c.loop-pin.invariant.long) in
    record {
      pins = mapped_more (after_eoi c.args.vector) _ _ _ _ _ place c.eoi.ensures.after c.loop-pin.invariant.pins;
      messages = elim c.match-eoi.branch [
        | in-Some w ↦ given_more (eoi_message c.args.vector) _ _ _ _ _ _ _ _ place (sym c.eoi.ensures.message ∙ w.in-Some.is) (w.messages-is ∙ w.push.ensures) c.loop-pin.invariant.messages
        | in_default w ↦ given_none (eoi_message c.args.vector) _ _ _ _ _ _ _ place (sym c.eoi.ensures.message ∙ w.in_default.is) w.messages-is c.loop-pin.invariant.messages
      ];
      long = length-set c.loop-pin.pin-items c.loop-pin.pin-index _ ∙ c.loop-pin.invariant.long;
      few = elim c.match-eoi.branch [
        | in-Some w ↦ one_more _ _ _ _ (w.messages-is ∙ w.push.ensures) c.loop-pin.invariant.few
        | in_default w ↦ (let e = ap length w.messages-is in omega (arith, e, c.loop-pin.invariant.few))
      ];
    }

pub invariant_of-self : goal.invariant_of-self
invariant_of-self c =
    let past : length c.loop-pin.pin-items ≤ c.loop-pin.pin-index = omega (arith, c.loop-pin.invariant.long) in
    let same : c.loop-pin.pin-items ≡ map (after_eoi c.args.vector) c.args.self.now.pins = mapped_all _ _ _ _ past c.loop-pin.invariant.pins in
    let each = subst IsChip c.self.view_is c.self.invariant in
    record {
      id = c.self.invariant.id;
      long = c.loop-pin.invariant.long;
      each = subst EachPin (sym same) (each_map (after_eoi c.args.vector) (eoi_ok c.args.vector) c.args.self.now.pins each.each);
    }
