use Rattle.vm_solo.proofs.Controls.{writes_all}
use Rattle.vm_threads.proofs.chair_turns.work_outside.Goals as goal

pub returns-in-Ok-clause-whole : goal.returns-in-Ok-clause-whole
returns-in-Ok-clause-whole g c = λ none. writes_all c.args.control.now c.write.new.self _ _ c.in-Ok.ensures.writes c.in-Ok.ensures.all
