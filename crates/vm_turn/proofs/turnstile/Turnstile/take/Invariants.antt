use Rattle.std.proofs.Common.{◌≡◌, ◌≤◌}
use Rattle.vm_turn.proofs.turnstile.Turnstile.take.Given as goal

abbrev pub invariant-loop : goal.invariant-loop
invariant-loop g l = record {
  can_next : (goal.iterator-loop g).can_next l.iterator';
  finite : (goal.iterator-loop g).is_finite l.iterator';
  same : l.pass.turnstile ≡ l.initial.pass.turnstile;
  idle : l.pass.view ≡ record l.initial.pass.view { found = l.pass.view.found; tries = l.pass.view.tries };
  tried : l.initial.pass.view.tries ≤ l.pass.view.tries;
}
