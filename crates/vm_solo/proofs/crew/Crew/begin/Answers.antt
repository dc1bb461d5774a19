use Rattle.vm_solo.proofs.Begun.{crew_fits, crew_new}
use Rattle.vm_solo.proofs.crew.Crew.begin.Goals as goal

pub invariant_of-result : goal.invariant_of-result
invariant_of-result g c = crew_fits g.I.Image.seen _ _ _ _ c.requires.control (record { board = c.is_sound.ensures; state = c.requires.state; journal = c.requires.journal; fed = c.requires.fed; actors = c.requires.actors })

pub returns-clause-new : goal.returns-clause-new
returns-clause-new g c = crew_new g.I.Image.seen _ _ _ _ c.requires.control (record { board = c.is_sound.ensures; state = c.requires.state; journal = c.requires.journal; fed = c.requires.fed; actors = c.requires.actors })
