use Rattle.std.proofs.Common.{◌≡◌, ℕ, ◌<◌, length, slice_index_or, refl, sym, ap, subst, ◌∙◌, arith}
use Rattle.vm_state.specs.Machine.{drive_at, drive_count}
use Rattle.vm_state.specs.Start.{boot}
use Rattle.vm_threads.specs.New.{IsFirst}
use Rattle.vm_threads.proofs.Firsts.{count_of, count_there, few_splits, first_zero, next_drive}
use Rattle.vm_threads.proofs.making.seat_workers.Goals as goal

pub loop-disk-init : goal.loop-disk-init
loop-disk-init g c = record {
  own = c.requires.own;
  root = refl;
  first = c.requires.first;
  from = λ start root. let z = first_zero (boot start).machine in let n = c.requires.cpus start root in omega (arith, z, n);
  count = let e = c.new-seats.ensures.len in omega (arith, e);
  seats = λ k d below. let e = ap (λ l. length l) c.new-seats.ensures.items in absurd (omega (arith, below, e));
}

pub bounds-counts-from : goal.bounds-counts-from
bounds-counts-from g c =
    let f = c.requires.first in
    let h = c.requires.workers f.start f.root in
    let all = count_there (boot f.start).machine c.args.counts.now h.1 in
    let drives = h.0 in
    omega (arith, all, drives)

pub seat_drive-requires-clause-few : goal.seat_drive-requires-clause-few
seat_drive-requires-clause-few g c =
    let f = c.loop-disk.invariant.first in
    let m = (boot f.start).machine in
    let h = c.requires.workers f.start (sym c.loop-disk.invariant.root ∙ f.root) in
    let drives = h.0 in
    let there : c.loop-disk.disk < drive_count m = omega (arith, drives) in
    let at : c.loop-disk.disk ≡ c.from.result = omega arith in
    let workers : (drive_at m c.loop-disk.disk).workers ≡ slice_index_or c.args.counts.now c.from.result 0 = subst (λ (n : ℕ). (drive_at m c.loop-disk.disk).workers ≡ slice_index_or c.args.counts.now n 0) at (count_of m c.args.counts.now c.loop-disk.disk h.1) in
    few_splits f.start c.loop-disk.disk c.loop-disk.pass.view.splits (slice_index_or c.args.counts.now c.from.result 0) f.sound there workers (c.loop-disk.invariant.from f.start f.root)

pub seat_drive-requires-clause-disk : goal.seat_drive-requires-clause-disk
seat_drive-requires-clause-disk g c = λ start root.
    let m = (boot start).machine in
    let h = c.requires.workers start (sym c.loop-disk.invariant.root ∙ root) in
    let drives = h.0 in
    let at : c.loop-disk.disk ≡ c.from.result = omega arith in
    let workers : (drive_at m c.loop-disk.disk).workers ≡ slice_index_or c.args.counts.now c.from.result 0 = subst (λ (n : ℕ). (drive_at m c.loop-disk.disk).workers ≡ slice_index_or c.args.counts.now n 0) at (count_of m c.args.counts.now c.loop-disk.disk h.1) in
    (omega (arith, drives), workers, c.loop-disk.invariant.from start root)

pub loop-disk-preserved : goal.loop-disk-preserved
loop-disk-preserved g c =
    let was = c.loop-disk.invariant in
    let now = c.in_ok-pass.ensures in
    let splits = now.first.splits_is in
    let before = was.count in
    let more = now.count in
    record {
      own = now.own;
      root = now.root ∙ was.root;
      first = subst (λ (n : ℕ). IsFirst c.in_ok-pass.pass.view n) (sym splits) now.first;
      from = λ start root.
          let m = (boot start).machine in
          let old = sym now.root ∙ root in
          let h = c.requires.workers start (sym was.root ∙ old) in
          let drives = h.0 in
          let there : c.loop-disk.disk < drive_count m = omega (arith, drives) in
          let at : c.loop-disk.disk ≡ c.from.result = omega arith in
          let workers : (drive_at m c.loop-disk.disk).workers ≡ slice_index_or c.args.counts.now c.from.result 0 = subst (λ (n : ℕ). (drive_at m c.loop-disk.disk).workers ≡ slice_index_or c.args.counts.now n 0) at (count_of m c.args.counts.now c.loop-disk.disk h.1) in
          let next = next_drive start c.loop-disk.disk c.loop-disk.pass.view.splits (slice_index_or c.args.counts.now c.from.result 0) there workers (was.from start old) in
          omega (arith, next, splits);
      count = omega (arith, before, more, splits);
      seats = now.seats;
    }
