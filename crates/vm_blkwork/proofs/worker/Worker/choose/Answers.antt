use Rattle.std.proofs.Common.{◌≡◌, Some, sym, ap, ◌∙◌}
use Rattle.vm_state.specs.State.{State}
use Rattle.vm_table.specs.Turns.{first_lawful}
use Rattle.vm_blkwork.proofs.Boards.{other_kind}
use Rattle.vm_blkwork.proofs.worker.Worker.choose.Goals as goal

pub add-requires : goal.add-requires
add-requires g c =
    let may : first_lawful c.args.board.now.state c.args.self.now.by ≡ Some c.in-Some.entry = ap (λ (s : State). first_lawful s c.args.self.now.by) (sym c.run.ensures) ∙ sym c.first_lawful.ensures ∙ c.in-Some.is in
    record {
      fits = c.requires.fits;
      may = may;
      kind = other_kind g.I.Image.seen _ c.args.self.now c.in-Some.entry c.is_sound.ensures c.requires.fits may c.in_default-entry.not-Hold;
      waits = c.requires.waits;
      room = c.requires.room;
    }
