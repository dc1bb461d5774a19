use Rattle.std.proofs.Common.{◌≡◌, Some}
use Rattle.vm_state.specs.declared.start.Start.{Start}
use Rattle.vm_board.specs.Going.{AreStays, IsSamePass, place}
use Rattle.vm_vcpu.specs.Going.{RunnerSits, TurnsAndRuns, back_of, leaves}
use Rattle.vm_vcpu.proofs.runner.Runner.go.Given as goal

abbrev pub invariant-loop : goal.invariant-loop
invariant-loop g l = record {
  own : l.pass.turnstile ≡ l.initial.pass.turnstile;
  same : IsSamePass l.initial.pass.view l.pass.view;
  sits : RunnerSits l.pass.view l.self;
  numbers : (l.self.cpu ≡ l.initial.self.cpu) × (l.self.by ≡ l.initial.self.by);
  stays : (start : Start) → l.initial.pass.view.root ≡ Some start
      → AreStays start l.initial.self.by back_of leaves TurnsAndRuns l.counter (place l.initial.pass.view l.initial.self) (place l.pass.view l.self);
}
