-- Pass 0's part of a run.
use Rattle.std.proofs.Common.{rules, ◌+◌, vec_len, arith}
use Rattle.vm_threads.proofs.Joining.{crew_played}
use Rattle.vm_threads.proofs.crew.crew.Goals as goal

pub returns-clause-played : goal.returns-clause-played
returns-clause-played g c =
    let same = c.turns-went.ensures.lengths in
    let runners = c.start_all.ensures.count in
    let workers = c.start_all-2.ensures.count in
    let r = c.in_ok-runner_threads.ensures in
    let w = c.in_ok-worker_threads.ensures in
    let s = c.in_ok-runners_here.ensures in
    let t = c.in_ok-workers_here.ensures in
    crew_played c.args.chair c.turns-went.new.chair c.finish_all-chair.result.0 c.finish_all-chair-2.result.0 c.join_all-chair.result.0 c.join_all-chair-2.result.0
    (vec_len c.args.runners + vec_len c.args.workers)
    (vec_len c.turns-went.new.runners) (vec_len c.turns-went.new.workers) (vec_len c.start_all.new.there) (vec_len c.start_all-2.new.there)
    _ (g.S.Sink.seen c.args.console.now) (g.S.Sink.seen c.turns-went.new.console)
    c.turns-went.ensures.turned c.finish_all-chair.ensures c.finish_all-chair-2.ensures c.join_all-chair.ensures c.join_all-chair-2.ensures
    (grind (arith, rules))
    (λ fed. c.turns-went.ensures.closed (c.is_starved.ensures fed))
