use Rattle.std.proofs.Common.{◌≡◌, ◌∙◌, length, sym, ap, arith}
use Rattle.std.proofs.lemmas.Grind.{common_steps}
use Rattle.vm_event.proofs.Sources.{first_free, none_free}
use Rattle.vm_event.proofs.events.Events.lowest_free.Goals as goal

pub returns-then-is_none : goal.returns-then-is_none
returns-then-is_none c =
    let long : length c.args.self.now ≡ 32 = sym (ap length c.self.view_is) ∙ c.self.invariant in
    sym (first_free c.args.self.now c.loop-id.id (omega arith) c.loop-id.invariant (grind (arith, common_steps)))

pub returns : goal.returns
returns c =
    let long : length c.args.self.now ≡ 32 = sym (ap length c.self.view_is) ∙ c.self.invariant in
    sym (none_free c.args.self.now (λ k l. c.loop-id.invariant k (omega arith)))
