use Rattle.std.proofs.Common.{subst, sym}
use Rattle.vm_board.specs.Board.{IsBoard}
use Rattle.vm_board.specs.View.{BoardView}
use Rattle.vm_solo.proofs.AtHome.{all_home}
use Rattle.vm_solo.proofs.crew.Crew.into_parts.Goals as goal

pub returns-clause-home : goal.returns-clause-home
returns-clause-home g c = λ closed. all_home g.I.Image.seen c.args.self.board (subst (λ (b : BoardView g.row.I.Denot). IsBoard g.I.Image.seen b) c.into_board.ensures c.into_parts.ensures.sound) closed
