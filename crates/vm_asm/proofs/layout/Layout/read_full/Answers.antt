use Rattle.std.proofs.Common.{sym, subst}
use Rattle.vm_asm.specs.Layout.{laid_of, IsSound}
use Rattle.vm_asm.proofs.Sound.{sound_added}
use Rattle.vm_asm.proofs.layout.Layout.read_full.Goals as goal

pub returns-clause-sound : goal.returns-clause-sound
returns-clause-sound c =
    subst IsSound (sym c.in_ok-add.ensures.ok)
    (sound_added c.args.number (laid_of c.args.self.now) c.in_ok-line.line c.in-Some-next_place.next c.requires.sound c.in-Some-next_place.ensures.grows c.in-Some-next_place.ensures.small)
