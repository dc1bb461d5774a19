use Rattle.std.proofs.Common.{subst}
use Rattle.vm_threads.specs.Chair.{ChairView}
use Rattle.vm_threads.specs.Crew.{Closes}
use Rattle.vm_threads.proofs.playing.close.Goals as goal

pub returns : goal.returns
returns g c =
    let old : ChairView = record { control = c.chair.inside.control; pass = c.chair.inside.pass; fault = c.chair.inside.fault } in
    let made : Closes g.I.Image.seen old c.args.starved c.ended.result.board c.ended.result.answer = record {
      back = c.close-board.result;
      is_back = record { chair = c.chair.invariant; board = c.is_sound.ensures; found = c.close-board.ensures.finds };
      start = c.ended.ensures.board.0;
      state = c.ended.ensures.board.1;
      notes = c.ended.ensures.starved;
      answer_is = c.ended.ensures.answer;
    } in
    subst (λ (x : ChairView). Closes g.I.Image.seen x c.args.starved c.ended.result.board c.ended.result.answer) c.chair.view_is made
