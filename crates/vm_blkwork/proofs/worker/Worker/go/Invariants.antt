use Rattle.std.proofs.Common.{◌≡◌, Some}
use Rattle.vm_state.specs.declared.start.Start.{Start}
use Rattle.vm_board.specs.Going.{AreStays, IsSamePass, place}
use Rattle.vm_blkwork.specs.Going.{TurnsAndCalls, WorkerSits, leaves}
use Rattle.vm_blkwork.specs.Turn.{back_of}
use Rattle.vm_blkwork.proofs.worker.Worker.go.Given as goal

abbrev pub invariant-loop : goal.invariant-loop
invariant-loop g l = record {
  own : l.pass.turnstile ≡ l.initial.pass.turnstile;
  same : IsSamePass l.initial.pass.view l.pass.view;
  sits : WorkerSits g.I.Image.seen l.pass.view l.self;
  numbers : (l.self.disk ≡ l.initial.self.disk) × (l.self.by ≡ l.initial.self.by);
  stays : (start : Start) → l.initial.pass.view.root ≡ Some start
      → AreStays start l.initial.self.by back_of leaves (TurnsAndCalls g.I.Image.seen) l.counter (place l.initial.pass.view l.initial.self) (place l.pass.view l.self);
}
