use Rattle.std.proofs.Common.{◌∙◌}
use Rattle.vm_board.proofs.Keeping.{boot_board}
use Rattle.vm_board.proofs.board.Board.make.Goals as goal

pub invariant_of-result : goal.invariant_of-result
invariant_of-result g c = boot_board g.I.Image.seen _ c.args.images.items c.requires.sound c.requires.fresh c.in_ok-run.ensures c.new.ensures.items (c.from_vec-images.ensures ∙ c.in_ok-at_home.ensures)
