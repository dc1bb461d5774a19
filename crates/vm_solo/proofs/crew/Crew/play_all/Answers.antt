-- The rounds of the three, one after the other.
use Rattle.vm_solo.proofs.Going.{went_then}
use Rattle.vm_solo.proofs.crew.Crew.play_all.Goals as goal

pub returns-clause-went : goal.returns-clause-went
returns-clause-went g c =
    went_then c.args.self.now c.play_to_limit.new.self c.play_to_close.new.self _ _ _ c.in_ok-play_to_limit.ensures.went
    (went_then c.play_to_limit.new.self c.play_to_end.new.self c.play_to_close.new.self _ _ _ c.in_ok-play_to_end.ensures.went c.play_to_close.ensures.went)

pub returns-in_err-play_to_end-clause-went : goal.returns-in_err-play_to_end-clause-went
returns-in_err-play_to_end-clause-went g c = went_then c.args.self.now c.play_to_limit.new.self c.play_to_end.new.self _ _ _ c.in_ok-play_to_limit.ensures.went c.in_err-play_to_end.ensures.went
