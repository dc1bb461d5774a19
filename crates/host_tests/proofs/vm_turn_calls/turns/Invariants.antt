use Rattle.std.proofs.Common.{◌≡◌, false}
use Rattle.host_tests.proofs.vm_turn_calls.turns.Given as goal

abbrev pub invariant-loop-k : goal.invariant-loop-k
invariant-loop-k g l = (l.pass.turnstile ≡ l.initial.pass.turnstile) × (l.pass.view.number ≡ l.initial.pass.view.number) × (l.pass.view.holds ≡ false)
