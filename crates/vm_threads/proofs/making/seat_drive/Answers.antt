use Rattle.std.proofs.Common.{rules, ◌≡◌, ℕ, ◌+◌, ◌<◌, None, List, All, sym, ap, subst, ◌∙◌, arith}
use Rattle.std.proofs.lemmas.List.Elements.{All-push}
use Rattle.vm_turn.specs.View.{new_view}
use Rattle.vm_turn.specs.declared.view.View.{View}
use Rattle.vm_state.specs.declared.start.Start.{Start}
use Rattle.vm_blkwork.specs.Going.{WorkerSits}
use Rattle.vm_blkwork.specs.declared.worker.Worker.{Worker}
use Rattle.vm_threads.specs.New.{IsFirst}
use Rattle.vm_threads.specs.Seats.{WorkerSeat}
use Rattle.vm_threads.proofs.Firsts.{next_worker, split_first, worker_sits}
use Rattle.vm_threads.proofs.making.seat_drive.Goals as goal

pub invariant_of-push : goal.invariant_of-push
invariant_of-push g c =
    let v : View Start = c.loop.pass.view in
    let new = c.split-keeper.ensures.new in
    let number : c.split-keeper.result.1.view.number ≡ v.splits + 1 = ap (λ (w : View Start). w.number) new in
    let by : c.number.result ≡ v.splits + 1 = c.number.ensures ∙ number in
    let first = c.loop.invariant.first in
    let splits = first.splits_is in
    let few : c.loop.counter < c.args.count = omega arith in
    let sits : WorkerSits g.I.Image.seen (new_view v) (record { disk = c.args.disk; by = v.splits + 1; out = None }) =
    worker_sits g.I.Image.seen v c.args.disk (c.args.pass.view.splits + c.loop.counter) first
    (λ start root.
    let t = c.requires.disk start (sym c.loop.invariant.root ∙ root) in
    let from = t.2 in
    next_worker v c.args.disk c.args.count c.loop.counter (subst (λ (n : ℕ). IsFirst v n) (sym splits) first) start root t.0 t.1 few (omega (arith, splits, from))) in
    let worker : c.new-worker.result ≡ record { disk = c.args.disk; by = v.splits + 1; out = None } =
    c.new-worker.ensures ∙ ap (λ (n : ℕ). let x : Worker g.row.I.Denot = record { disk = c.args.disk; by = n; out = None } in x) by in
    record {
      above = omega (arith, number);
      sits = subst (λ (w : View Start). WorkerSits g.I.Image.seen w c.new-worker.result) (sym new) (subst (λ (x : Worker g.row.I.Denot). WorkerSits g.I.Image.seen (new_view v) x) (sym worker) sits);
    }

pub loop-preserved : goal.loop-preserved
loop-preserved g c =
    let was = c.loop.invariant in
    let kept = c.split-keeper.ensures.kept in
    let same = c.split-keeper.ensures.same in
    let count = was.count in
    let len = c.in_ok-push.ensures.len in
    let next : (c.args.pass.view.splits + c.loop.counter) + 1 ≡ c.args.pass.view.splits + (c.loop.counter + 1) = omega arith in
    record {
      own = same.0 ∙ was.own;
      root = ap (λ (w : View Start). w.root) kept ∙ was.root;
      first = subst (λ (n : ℕ). IsFirst c.split-keeper.result.0.view n) next (subst (λ (w : View Start). IsFirst w ((c.args.pass.view.splits + c.loop.counter) + 1)) (sym kept) (split_first c.loop.pass.view (c.args.pass.view.splits + c.loop.counter) was.first));
      count = grind (arith, rules);
      seats = subst (λ (xs : List (WorkerSeat g.row.I.Denot)). All (λ (s : WorkerSeat g.row.I.Denot). s.pass.turnstile ≡ c.args.turnstile.now) xs) (sym c.in_ok-push.ensures.items)
          (All-push (λ (s : WorkerSeat g.row.I.Denot). s.pass.turnstile ≡ c.args.turnstile.now) c.loop.seats.items _ was.seats (same.1 ∙ was.own));
    }
