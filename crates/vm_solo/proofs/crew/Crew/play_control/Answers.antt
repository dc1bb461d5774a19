-- Control's turn leaves a crew: the facts of the calls, and the lemmas of Controls.
use Rattle.std.proofs.Common.{subst}
use Rattle.vm_solo.specs.View.{CrewView}
use Rattle.vm_solo.specs.Playing.{Continues, Writes}
use Rattle.vm_solo.proofs.Controls.{ControlTurned, fed_continues, fed_keeps, writes_none}
use Rattle.vm_solo.proofs.crew.Crew.play_control.Goals as goal

pub returns-in_err-had_memory-clause-writes : goal.returns-in_err-had_memory-clause-writes
returns-in_err-had_memory-clause-writes g c =
    subst (λ (o : CrewView g.row.I.Denot). Writes o.control c.turn-did.new.self (g.S.Sink.seen c.args.console.now) (g.S.Sink.seen c.args.console.now)) c.self.view_is
    (writes_none c.self.inside.control c.turn-did.new.self (g.S.Sink.seen c.args.console.now) c.turn-did.ensures.wrote)

pub invariant_of-self-2 : goal.invariant_of-self-2
invariant_of-self-2 g c =
    let old : CrewView g.row.I.Denot = record { board = c.self.inside.board; control = c.self.inside.control; runners = c.self.inside.runners.items; workers = c.self.inside.workers.items; fault = c.self.inside.fault } in
    let t : ControlTurned g.I.Image.seen old c.turn-did.new.board c.turn-did.result = record { crew = c.self.invariant; board = c.is_sound.ensures; leaves = _; turn = c.turn-did.ensures.turn } in
    fed_keeps g.I.Image.seen old c.turn-did.new.board c.work_outside-self-inside.new.control c.work_outside-self-inside.result c.turn-did.result t c.in_ok-had_memory.ensures.ok (c.work_outside-self-inside.ensures.fits _ c.turn-did.ensures.fits) c.work_outside-self-inside.ensures.failed

pub returns-clause-continues : goal.returns-clause-continues
returns-clause-continues g c =
    let old : CrewView g.row.I.Denot = record { board = c.self.inside.board; control = c.self.inside.control; runners = c.self.inside.runners.items; workers = c.self.inside.workers.items; fault = c.self.inside.fault } in
    let t : ControlTurned g.I.Image.seen old c.turn-did.new.board c.turn-did.result = record { crew = c.self.invariant; board = c.is_sound.ensures; leaves = _; turn = c.turn-did.ensures.turn } in
    subst (λ (o : CrewView g.row.I.Denot). Continues o.board c.turn-did.new.board) c.self.view_is (fed_continues g.I.Image.seen old c.turn-did.new.board c.turn-did.result t c.in_ok-had_memory.ensures.ok)
