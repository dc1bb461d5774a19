-- The runner's turn leaves a crew: the facts of the call, and the lemmas of Runs.
use Rattle.std.proofs.Common.{◌≡◌, true, ◌+◌, ◌<◌, length, [], sym, subst, ◌∙◌}
use Rattle.vm_vcpu.specs.Fits.{RunnerFits}
use Rattle.vm_vcpu.specs.View.{RunnerView}
use Rattle.vm_vcpu.specs.New.{new_runner}
use Rattle.vm_solo.specs.View.{CrewView}
use Rattle.vm_solo.specs.Playing.{Continues, PlaysPass}
use Rattle.vm_solo.proofs.Runs.{TurnedBy, at_any, fed_continues, fed_keeps, fed_plays, fed_shut, starved_keeps, with_runner}
use Rattle.vm_solo.proofs.crew.Crew.play_runner.Goals as goal

pub turn-did-requires : goal.turn-did-requires
turn-did-requires g c =
    let there : c.args.cpu < length c.self.inside.runners.items = subst (λ (o : CrewView g.row.I.Denot). c.args.cpu < length o.runners) (sym c.self.view_is) c.requires.there in
    let is = c.index_mut-runner.ensures.value ∙ at_any c.self.inside.runners.items c.args.cpu c.index_mut-runner.result.now (new_runner 0 0 []) there in
    record { fits = subst (λ (r : RunnerView). RunnerFits c.self.inside.board.state r) (sym is) (c.self.invariant.runners.fits c.args.cpu there) }

pub invariant_of-self : goal.invariant_of-self
invariant_of-self g c =
    let old : CrewView g.row.I.Denot = record { board = c.self.inside.board; control = c.self.inside.control; runners = c.self.inside.runners.items; workers = c.self.inside.workers.items; fault = c.self.inside.fault } in
    let there : c.args.cpu < length c.self.inside.runners.items = subst (λ (o : CrewView g.row.I.Denot). c.args.cpu < length o.runners) (sym c.self.view_is) c.requires.there in
    let t : TurnedBy g.I.Image.seen old c.turn-did.new.board c.args.cpu c.index_mut-runner.result.now c.turn-did.new.self c.turn-did.result = record {
      there = there;
      crew = c.self.invariant;
      board = c.is_sound.ensures;
      is = c.index_mut-runner.ensures.value;
      numbers = c.turn-did.ensures.numbers;
      fits = c.turn-did.ensures.fits;
      leaves = _;
      turn = c.turn-did.ensures.turn;
      takes = c.turn-did.ensures.takes;
    } in
    starved_keeps g.I.Image.seen old c.turn-did.new.board c.args.cpu c.index_mut-runner.result.now c.turn-did.new.self c.turn-did.result t c.in_err-had_memory.ensures.wanted

pub invariant_of-self-2 : goal.invariant_of-self-2
invariant_of-self-2 g c =
    let old : CrewView g.row.I.Denot = record { board = c.self.inside.board; control = c.self.inside.control; runners = c.self.inside.runners.items; workers = c.self.inside.workers.items; fault = c.self.inside.fault } in
    let there : c.args.cpu < length c.self.inside.runners.items = subst (λ (o : CrewView g.row.I.Denot). c.args.cpu < length o.runners) (sym c.self.view_is) c.requires.there in
    let t : TurnedBy g.I.Image.seen old c.turn-did.new.board c.args.cpu c.index_mut-runner.result.now c.turn-did.new.self c.turn-did.result = record {
      there = there;
      crew = c.self.invariant;
      board = c.is_sound.ensures;
      is = c.index_mut-runner.ensures.value;
      numbers = c.turn-did.ensures.numbers;
      fits = c.turn-did.ensures.fits;
      leaves = _;
      turn = c.turn-did.ensures.turn;
      takes = c.turn-did.ensures.takes;
    } in
    fed_keeps g.I.Image.seen old c.turn-did.new.board c.args.cpu c.index_mut-runner.result.now c.turn-did.new.self c.outside.new.self c.turn-did.result t c.in_ok-had_memory.ensures.ok c.outside.ensures

pub returns-clause-continues : goal.returns-clause-continues
returns-clause-continues g c =
    let old : CrewView g.row.I.Denot = record { board = c.self.inside.board; control = c.self.inside.control; runners = c.self.inside.runners.items; workers = c.self.inside.workers.items; fault = c.self.inside.fault } in
    let there : c.args.cpu < length c.self.inside.runners.items = subst (λ (o : CrewView g.row.I.Denot). c.args.cpu < length o.runners) (sym c.self.view_is) c.requires.there in
    let t : TurnedBy g.I.Image.seen old c.turn-did.new.board c.args.cpu c.index_mut-runner.result.now c.turn-did.new.self c.turn-did.result = record {
      there = there;
      crew = c.self.invariant;
      board = c.is_sound.ensures;
      is = c.index_mut-runner.ensures.value;
      numbers = c.turn-did.ensures.numbers;
      fits = c.turn-did.ensures.fits;
      leaves = _;
      turn = c.turn-did.ensures.turn;
      takes = c.turn-did.ensures.takes;
    } in
    subst (λ (o : CrewView g.row.I.Denot). Continues o.board c.turn-did.new.board) c.self.view_is (fed_continues g.I.Image.seen old c.turn-did.new.board c.args.cpu c.index_mut-runner.result.now c.turn-did.new.self c.turn-did.result t c.in_ok-had_memory.ensures.ok)

pub returns-clause-plays : goal.returns-clause-plays
returns-clause-plays g c =
    let old : CrewView g.row.I.Denot = record { board = c.self.inside.board; control = c.self.inside.control; runners = c.self.inside.runners.items; workers = c.self.inside.workers.items; fault = c.self.inside.fault } in
    let there : c.args.cpu < length c.self.inside.runners.items = subst (λ (o : CrewView g.row.I.Denot). c.args.cpu < length o.runners) (sym c.self.view_is) c.requires.there in
    let t : TurnedBy g.I.Image.seen old c.turn-did.new.board c.args.cpu c.index_mut-runner.result.now c.turn-did.new.self c.turn-did.result = record {
      there = there;
      crew = c.self.invariant;
      board = c.is_sound.ensures;
      is = c.index_mut-runner.ensures.value;
      numbers = c.turn-did.ensures.numbers;
      fits = c.turn-did.ensures.fits;
      leaves = _;
      turn = c.turn-did.ensures.turn;
      takes = c.turn-did.ensures.takes;
    } in
    subst (λ (o : CrewView g.row.I.Denot). PlaysPass (1 + c.args.cpu) o (with_runner g.I.Image.seen old c.turn-did.new.board c.args.cpu c.outside.new.self)) c.self.view_is (fed_plays g.I.Image.seen old c.turn-did.new.board c.args.cpu c.index_mut-runner.result.now c.turn-did.new.self c.outside.new.self c.turn-did.result t c.in_ok-had_memory.ensures.ok c.outside.ensures)

pub returns-clause-shut : goal.returns-clause-shut
returns-clause-shut g c =
    let old : CrewView g.row.I.Denot = record { board = c.self.inside.board; control = c.self.inside.control; runners = c.self.inside.runners.items; workers = c.self.inside.workers.items; fault = c.self.inside.fault } in
    let there : c.args.cpu < length c.self.inside.runners.items = subst (λ (o : CrewView g.row.I.Denot). c.args.cpu < length o.runners) (sym c.self.view_is) c.requires.there in
    let t : TurnedBy g.I.Image.seen old c.turn-did.new.board c.args.cpu c.index_mut-runner.result.now c.turn-did.new.self c.turn-did.result = record {
      there = there;
      crew = c.self.invariant;
      board = c.is_sound.ensures;
      is = c.index_mut-runner.ensures.value;
      numbers = c.turn-did.ensures.numbers;
      fits = c.turn-did.ensures.fits;
      leaves = _;
      turn = c.turn-did.ensures.turn;
      takes = c.turn-did.ensures.takes;
    } in
    subst (λ (o : CrewView g.row.I.Denot). c.turn-did.new.board.state.closed ≡ true → c.turn-did.new.board.state ≡ o.board.state) c.self.view_is (fed_shut g.I.Image.seen old c.turn-did.new.board c.args.cpu c.index_mut-runner.result.now c.turn-did.new.self c.turn-did.result t c.in_ok-had_memory.ensures.ok)
