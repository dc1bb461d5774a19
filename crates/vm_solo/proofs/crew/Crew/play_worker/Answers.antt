-- A worker's turn leaves a crew: the facts of the call, and the lemmas of Works.
use Rattle.std.proofs.Common.{◌≡◌, true, ◌+◌, ◌<◌, length, sym, subst, ◌∙◌}
use Rattle.std.specs.Prelude.{None}
use Rattle.vm_blkwork.specs.Fits.{WorkerFits}
use Rattle.vm_blkwork.specs.declared.worker.Worker.{Worker}
use Rattle.vm_solo.specs.View.{CrewView}
use Rattle.vm_solo.specs.Playing.{Continues, PlaysPass}
use Rattle.vm_solo.proofs.Runs.{at_any}
use Rattle.vm_solo.proofs.Works.{WorkerTurned, fed_continues, fed_keeps, fed_plays, fed_shut, starved_keeps, with_worker}
use Rattle.vm_solo.proofs.crew.Crew.play_worker.Goals as goal

pub turn-did-requires : goal.turn-did-requires
turn-did-requires g c =
    let there : c.args.k < length c.self.inside.workers.items = subst (λ (o : CrewView g.row.I.Denot). c.args.k < length o.workers) (sym c.self.view_is) c.requires.there in
    let is = c.index_mut-worker.ensures.value ∙ at_any c.self.inside.workers.items c.args.k c.index_mut-worker.result.now (record { disk = 0; by = 0; out = None }) there in
    record { fits = subst (λ (w : Worker g.row.I.Denot). WorkerFits g.I.Image.seen c.self.inside.board.start c.self.inside.board.journal w) (sym is) (c.self.invariant.workers.fits c.args.k there) }

pub invariant_of-self : goal.invariant_of-self
invariant_of-self g c =
    let old : CrewView g.row.I.Denot = record { board = c.self.inside.board; control = c.self.inside.control; runners = c.self.inside.runners.items; workers = c.self.inside.workers.items; fault = c.self.inside.fault } in
    let there : c.args.k < length c.self.inside.workers.items = subst (λ (o : CrewView g.row.I.Denot). c.args.k < length o.workers) (sym c.self.view_is) c.requires.there in
    let t : WorkerTurned g.I.Image.seen old c.turn-did.new.board c.args.k c.index_mut-worker.result.now c.turn-did.new.self c.turn-did.result = record {
      there = there;
      crew = c.self.invariant;
      board = c.is_sound.ensures;
      is = c.index_mut-worker.ensures.value;
      numbers = c.turn-did.ensures.numbers;
      fits = c.turn-did.ensures.fits;
      leaves = _;
      turn = c.turn-did.ensures.turn;
    } in
    starved_keeps g.I.Image.seen old c.turn-did.new.board c.args.k c.index_mut-worker.result.now c.turn-did.new.self c.turn-did.result t c.in_err-had_memory.ensures.wanted

pub invariant_of-self-2 : goal.invariant_of-self-2
invariant_of-self-2 g c =
    let old : CrewView g.row.I.Denot = record { board = c.self.inside.board; control = c.self.inside.control; runners = c.self.inside.runners.items; workers = c.self.inside.workers.items; fault = c.self.inside.fault } in
    let there : c.args.k < length c.self.inside.workers.items = subst (λ (o : CrewView g.row.I.Denot). c.args.k < length o.workers) (sym c.self.view_is) c.requires.there in
    let t : WorkerTurned g.I.Image.seen old c.turn-did.new.board c.args.k c.index_mut-worker.result.now c.turn-did.new.self c.turn-did.result = record {
      there = there;
      crew = c.self.invariant;
      board = c.is_sound.ensures;
      is = c.index_mut-worker.ensures.value;
      numbers = c.turn-did.ensures.numbers;
      fits = c.turn-did.ensures.fits;
      leaves = _;
      turn = c.turn-did.ensures.turn;
    } in
    fed_keeps g.I.Image.seen old c.turn-did.new.board c.args.k c.index_mut-worker.result.now c.turn-did.new.self c.outside.new.self c.turn-did.result t c.in_ok-had_memory.ensures.ok c.outside.ensures.numbers (c.outside.ensures.fits _ _ c.turn-did.ensures.fits)

pub returns-clause-continues : goal.returns-clause-continues
returns-clause-continues g c =
    let old : CrewView g.row.I.Denot = record { board = c.self.inside.board; control = c.self.inside.control; runners = c.self.inside.runners.items; workers = c.self.inside.workers.items; fault = c.self.inside.fault } in
    let there : c.args.k < length c.self.inside.workers.items = subst (λ (o : CrewView g.row.I.Denot). c.args.k < length o.workers) (sym c.self.view_is) c.requires.there in
    let t : WorkerTurned g.I.Image.seen old c.turn-did.new.board c.args.k c.index_mut-worker.result.now c.turn-did.new.self c.turn-did.result = record {
      there = there;
      crew = c.self.invariant;
      board = c.is_sound.ensures;
      is = c.index_mut-worker.ensures.value;
      numbers = c.turn-did.ensures.numbers;
      fits = c.turn-did.ensures.fits;
      leaves = _;
      turn = c.turn-did.ensures.turn;
    } in
    subst (λ (o : CrewView g.row.I.Denot). Continues o.board c.turn-did.new.board) c.self.view_is (fed_continues g.I.Image.seen old c.turn-did.new.board c.args.k c.index_mut-worker.result.now c.turn-did.new.self c.turn-did.result t c.in_ok-had_memory.ensures.ok)

pub returns-clause-plays : goal.returns-clause-plays
returns-clause-plays g c =
    let old : CrewView g.row.I.Denot = record { board = c.self.inside.board; control = c.self.inside.control; runners = c.self.inside.runners.items; workers = c.self.inside.workers.items; fault = c.self.inside.fault } in
    let there : c.args.k < length c.self.inside.workers.items = subst (λ (o : CrewView g.row.I.Denot). c.args.k < length o.workers) (sym c.self.view_is) c.requires.there in
    let t : WorkerTurned g.I.Image.seen old c.turn-did.new.board c.args.k c.index_mut-worker.result.now c.turn-did.new.self c.turn-did.result = record {
      there = there;
      crew = c.self.invariant;
      board = c.is_sound.ensures;
      is = c.index_mut-worker.ensures.value;
      numbers = c.turn-did.ensures.numbers;
      fits = c.turn-did.ensures.fits;
      leaves = _;
      turn = c.turn-did.ensures.turn;
    } in
    subst (λ (o : CrewView g.row.I.Denot). PlaysPass (1 + length o.runners + c.args.k) o (with_worker g.I.Image.seen old c.turn-did.new.board c.args.k c.outside.new.self)) c.self.view_is (fed_plays g.I.Image.seen old c.turn-did.new.board c.args.k c.index_mut-worker.result.now c.turn-did.new.self c.outside.new.self c.turn-did.result t c.in_ok-had_memory.ensures.ok (c.turn-did.ensures.waits c.in_ok-had_memory.ensures.ok) c.outside.ensures.gone c.outside.ensures.numbers (c.outside.ensures.fits _ _ c.turn-did.ensures.fits))

pub returns-clause-shut : goal.returns-clause-shut
returns-clause-shut g c =
    let old : CrewView g.row.I.Denot = record { board = c.self.inside.board; control = c.self.inside.control; runners = c.self.inside.runners.items; workers = c.self.inside.workers.items; fault = c.self.inside.fault } in
    let there : c.args.k < length c.self.inside.workers.items = subst (λ (o : CrewView g.row.I.Denot). c.args.k < length o.workers) (sym c.self.view_is) c.requires.there in
    let t : WorkerTurned g.I.Image.seen old c.turn-did.new.board c.args.k c.index_mut-worker.result.now c.turn-did.new.self c.turn-did.result = record {
      there = there;
      crew = c.self.invariant;
      board = c.is_sound.ensures;
      is = c.index_mut-worker.ensures.value;
      numbers = c.turn-did.ensures.numbers;
      fits = c.turn-did.ensures.fits;
      leaves = _;
      turn = c.turn-did.ensures.turn;
    } in
    subst (λ (o : CrewView g.row.I.Denot). c.turn-did.new.board.state.closed ≡ true → c.turn-did.new.board.state ≡ o.board.state) c.self.view_is (fed_shut g.I.Image.seen old c.turn-did.new.board c.args.k c.index_mut-worker.result.now c.turn-did.new.self c.turn-did.result t c.in_ok-had_memory.ensures.ok)
