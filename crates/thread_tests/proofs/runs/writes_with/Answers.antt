-- The images are fresh, and each goes back to the host that it came from.
use Rattle.thread_tests.proofs.runs.writes_with.Goals as goal

pub both-requires-clause-disks : goal.both-requires-clause-disks
both-requires-clause-disks g c = c.in_ok-start.ensures.disks

pub both-requires-clause-first : goal.both-requires-clause-first
both-requires-clause-first g c = c.in_ok-first.ensures.fresh

pub both-requires-clause-second : goal.both-requires-clause-second
both-requires-clause-second g c = c.in_ok-second.ensures.fresh

pub came_back-requires : goal.came_back-requires
came_back-requires g c = c.in_ok-second.ensures.there

pub came_back-requires-2 : goal.came_back-requires-2
came_back-requires-2 g c = c.in_ok-first.ensures.there
