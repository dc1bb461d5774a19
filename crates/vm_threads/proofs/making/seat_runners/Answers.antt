use Rattle.std.proofs.Common.{rules, ◌≡◌, ℕ, ◌+◌, ◌<◌, List, All, sym, ap, subst, ◌∙◌, arith}
use Rattle.std.proofs.lemmas.List.Elements.{All-push}
use Rattle.vm_turn.specs.View.{new_view}
use Rattle.vm_turn.specs.declared.view.View.{View}
use Rattle.vm_state.specs.declared.start.Start.{Start}
use Rattle.vm_vcpu.specs.Going.{RunnerSits}
use Rattle.vm_vcpu.specs.New.{new_runner}
use Rattle.vm_vcpu.specs.View.{RunnerView}
use Rattle.vm_threads.specs.New.{IsFirst}
use Rattle.vm_threads.specs.Seats.{RunnerSeat}
use Rattle.vm_threads.proofs.Firsts.{runner_sits, split_first}
use Rattle.vm_threads.proofs.making.seat_runners.Goals as goal

pub invariant_of-push : goal.invariant_of-push
invariant_of-push g c =
    let v : View Start = c.loop-cpu.pass.view in
    let new = c.split-keeper.ensures.new in
    let number : c.split-keeper.result.1.view.number ≡ v.splits + 1 = ap (λ (w : View Start). w.number) new in
    let by : c.number.result ≡ v.splits + 1 = c.number.ensures ∙ number in
    let few : c.loop-cpu.cpu < c.args.cpus = omega arith in
    let sits : RunnerSits (new_view v) (new_runner c.loop-cpu.cpu (v.splits + 1) c.args.code.now) =
    runner_sits v c.loop-cpu.cpu c.args.cpus c.args.code.now c.new_runners_fit.ensures c.loop-cpu.invariant.first (λ start root. c.requires.code start (sym c.loop-cpu.invariant.root ∙ root)) few in
    let runner : c.in_ok-runner.runner ≡ new_runner c.loop-cpu.cpu (v.splits + 1) c.args.code.now = c.in_ok-runner.ensures ∙ ap (λ (n : ℕ). new_runner c.loop-cpu.cpu n c.args.code.now) by in
    record {
      above = omega (arith, number);
      sits = subst (λ (w : View Start). RunnerSits w c.in_ok-runner.runner) (sym new) (subst (λ (x : RunnerView). RunnerSits (new_view v) x) (sym runner) sits);
    }

pub loop-cpu-preserved : goal.loop-cpu-preserved
loop-cpu-preserved g c =
    let was = c.loop-cpu.invariant in
    let kept = c.split-keeper.ensures.kept in
    let same = c.split-keeper.ensures.same in
    record {
      own = same.0 ∙ was.own;
      root = ap (λ (w : View Start). w.root) kept ∙ was.root;
      first = subst (λ (w : View Start). IsFirst w (c.loop-cpu.cpu + 1)) (sym kept) (split_first c.loop-cpu.pass.view c.loop-cpu.cpu was.first);
      count = grind (arith, rules);
      seats = subst (λ (xs : List RunnerSeat). All (λ (s : RunnerSeat). s.pass.turnstile ≡ c.args.turnstile.now) xs) (sym c.in_ok-push.ensures.items)
          (All-push (λ (s : RunnerSeat). s.pass.turnstile ≡ c.args.turnstile.now) c.loop-cpu.seats.items _ was.seats (same.1 ∙ was.own));
    }
