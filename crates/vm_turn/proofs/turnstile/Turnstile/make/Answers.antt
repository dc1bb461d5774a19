use Rattle.vm_turn.proofs.Steps.{begins}
use Rattle.vm_turn.proofs.turnstile.Turnstile.make.Goals as goal

pub new-requires : goal.new-requires
new-requires g c = rw (c.push_reserved.ensures.items, c.in_ok-slots.ensures.items, c.of-about.ensures) (begins g.L.Logged.root g.L.Logged.entries c.args.first c.requires)
