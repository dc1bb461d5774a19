use Rattle.std.proofs.Common.{◌≡◌, ◌≤◌, [], ◌∷◌, ◌++◌, length, take, drop, ◌-◌, Some, refl, rules, ◌∙◌, ap, arith, length-append, length-take}
use Rattle.vm_host.proofs.Frames.{writes_on}
use Rattle.vm_host.proofs.Pieces.{there, quiet}
use Rattle.ckpt_store.proofs.Streams.{appended, gate_kept, gate_stays, goes_on, first_piece, first_size}
use Rattle.ckpt_store.proofs.saving.write_rest.Goals as goal

pub streaming-init : goal.streaming-init
streaming-init g c =
    let name = c.args.name.now in
    let first = c.next-first.result in
    let buffer = c.next-first.new.into in
    let left = g.P.TextSource.left c.args.pieces.now in
    let fits : first ≤ length buffer = omega arith in
    let some : 1 ≤ first = search rules in
    let start = g.H.Host.seen c.args.host.now in
    let after = g.H.Host.seen c.write_at.new.self in
    let none = quiet name start after tt c.in_ok-write_at.ensures.cause in
    record {
      file = λ told.
          let wrote = rw (c.requires.shut told) at (c.in_ok-write_at.ensures.written told) in
          let found = there _ _ wrote in
          let piece = take (first - 1) (drop 1 buffer) in
          let is : found.0 ≡ (0 ∷ []) ++ piece = appended (0 ∷ []) piece found.0 1 refl found.2 in
          ((0 ∷ []) ++ piece, found.1 ∙ ap Some is, first_piece buffer left _ first c.next-first.ensures.bytes some fits, first_size buffer first some fits);
      place = omega (arith, ap length c.next-first.ensures.bytes, length-append (take first buffer) (g.P.TextSource.left c.next-first.new.self), length-take first buffer);
      some = some;
      faults = none.0;
      misses = none.1;
      failed = none.2;
      made = λ told. c.write_at.ensures.made told;
      leaves = c.write_at.ensures.leaves;
      crash = λ told.
          gate_stays name start.moment start.moment _ 1 _ start.left start.left after.left (g.met.H.Host.since_earlier c.args.host.now told) (omega arith) (omega arith) (gate_kept (start.left name start.moment)) (c.write_at.ensures.leaves.time told) (c.write_at.ensures.crash told);
      reads = c.write_at.ensures.reads;
    }

pub returns-in_err-write_at-2-clause-crash : goal.returns-in_err-write_at-2-clause-crash
returns-in_err-write_at-2-clause-crash g c = λ told.
    let inv = c.streaming.invariant in
    let here = inv.leaves.told ∙ told in
    let start = g.H.Host.seen c.args.host.now in
    let before = g.H.Host.seen c.streaming.host in
    let after = g.H.Host.seen c.write_at-in-streaming.new.self in
    gate_stays c.args.name.now start.moment before.moment _ c.streaming.at _ start.left before.left after.left (g.met.H.Host.since_earlier c.streaming.host here) (inv.leaves.time told).later inv.some (inv.crash told) (c.write_at-in-streaming.ensures.leaves.time here) (c.write_at-in-streaming.ensures.crash here)

pub streaming-preserved : goal.streaming-preserved
streaming-preserved g c =
    let name = c.args.name.now in
    let inv = c.streaming.invariant in
    let count = c.next-count.result in
    let buffer = c.next-count.new.into in
    let fits : count ≤ length buffer = omega arith in
    let start = g.H.Host.seen c.args.host.now in
    let before = g.H.Host.seen c.streaming.host in
    let after = g.H.Host.seen c.write_at-in-streaming.new.self in
    let none = quiet name before after tt c.in_ok-write_at-2.ensures.cause in
    record {
      file = λ told.
          let f = inv.file told in
          let wrote = rw f.1 at (c.in_ok-write_at-2.ensures.written (inv.leaves.told ∙ told)) in
          let found = there _ _ wrote in
          let is : found.0 ≡ f.0 ++ take count buffer = appended f.0 (take count buffer) found.0 c.streaming.at f.3 found.2 in (
            f.0 ++ take count buffer,
            found.1 ∙ ap Some is,
            goes_on f.0 (take count buffer) _ _ _ f.2 c.next-count.ensures.bytes,
            omega (arith, length-append f.0 (take count buffer), f.3, length-take count buffer),
          );
      place = omega (arith, inv.place, ap length c.next-count.ensures.bytes, length-append (take count buffer) (g.P.TextSource.left c.next-count.new.self), length-take count buffer);
      some = omega (arith, inv.some);
      faults = none.0 ∙ inv.faults;
      misses = none.1 ∙ inv.misses;
      failed = none.2 ∙ inv.failed;
      made = λ told. c.write_at-in-streaming.ensures.made (inv.leaves.told ∙ told) ∙ inv.made told;
      leaves = writes_on start before after (λ q. q ≡ name) inv.leaves c.write_at-in-streaming.ensures.leaves;
      crash = λ told.
          let here = inv.leaves.told ∙ told in
          gate_stays name start.moment before.moment _ c.streaming.at _ start.left before.left after.left (g.met.H.Host.since_earlier c.streaming.host here) (inv.leaves.time told).later inv.some (inv.crash told) (c.write_at-in-streaming.ensures.leaves.time here) (c.write_at-in-streaming.ensures.crash here);
      reads = λ told. c.write_at-in-streaming.ensures.reads (inv.leaves.told ∙ told);
    }
