-- A round: control's pass, then the loops over runners and workers.
use Rattle.std.proofs.Common.{◌≡◌, ◌+◌, ℕ, length, refl, sym, ap, subst, ◌∙◌, arith}
use Rattle.std.specs.Prelude.{None}
use Rattle.vm_state.specs.State.{State}
use Rattle.vm_control.specs.View.{ControlView}
use Rattle.vm_solo.specs.View.{CrewView}
use Rattle.vm_solo.proofs.Rounding.{PlaysOthers, continues_same, continues_then, none_behind, one_behind, one_played, round_played, still_shut}
use Rattle.vm_solo.proofs.crew.Crew.round.Goals as goal

pub loop-cpu-preserved : goal.loop-cpu-preserved
loop-cpu-preserved g c =
    let i = c.loop-cpu.invariant in
    let o = c.in_ok-play_runner.ensures in
    record {
      runners = o.runners ∙ i.runners;
      workers = o.workers ∙ i.workers;
      control = (o.control.0 ∙ i.control.0, o.control.1 ∙ i.control.1);
      continues = continues_then c.play_control.new.self.board c.loop-cpu.self.board c.play_runner.new.self.board i.continues o.continues;
      fed = o.fed ∙ i.fed;
      shut = λ e. still_shut c.loop-cpu.self.board.state c.play_runner.new.self.board.state c.play_control.new.self.board.state o.shut i.shut e;
      plays = one_played c.loop-cpu.cpu c.play_control.new.self c.loop-cpu.self c.play_runner.new.self i.plays o.plays;
    }

pub loop-k-init : goal.loop-k-init
loop-k-init g c = record {
  runners = refl;
  workers = refl;
  control = (refl, refl);
  continues = continues_same c.loop-cpu.self.board;
  fed = refl;
  shut = λ e. refl;
  plays = none_behind (length c.loop-cpu.self.runners) c.loop-cpu.self;
}

pub loop-k-preserved : goal.loop-k-preserved
loop-k-preserved g c =
    let i = c.loop-k.invariant in
    let o = c.in_ok-play_worker.ensures in
    record {
      runners = o.runners ∙ i.runners;
      workers = o.workers ∙ i.workers;
      control = (o.control.0 ∙ i.control.0, o.control.1 ∙ i.control.1);
      continues = continues_then c.loop-cpu.self.board c.loop-k.self.board c.play_worker.new.self.board i.continues o.continues;
      fed = o.fed ∙ i.fed;
      shut = λ e. still_shut c.loop-k.self.board.state c.play_worker.new.self.board.state c.loop-cpu.self.board.state o.shut i.shut e;
      plays = one_behind (length c.loop-cpu.self.runners) c.loop-k.k (length c.loop-k.self.runners) c.loop-cpu.self c.loop-k.self c.play_worker.new.self (ap length i.runners) i.plays o.plays;
    }

pub returns-in_err-play_worker-clause-continues : goal.returns-in_err-play_worker-clause-continues
returns-in_err-play_worker-clause-continues g c =
    continues_then c.args.self.now.board c.play_control.new.self.board c.play_worker.new.self.board c.in_ok-play_control.ensures.continues
    (continues_then c.play_control.new.self.board c.loop-cpu.self.board c.play_worker.new.self.board c.loop-cpu.invariant.continues (continues_then c.loop-cpu.self.board c.loop-k.self.board c.play_worker.new.self.board c.loop-k.invariant.continues c.in_err-play_worker.ensures.continues))

pub returns-clause-continues : goal.returns-clause-continues
returns-clause-continues g c =
    continues_then c.args.self.now.board c.play_control.new.self.board c.loop-k.self.board c.in_ok-play_control.ensures.continues
    (continues_then c.play_control.new.self.board c.loop-cpu.self.board c.loop-k.self.board c.loop-cpu.invariant.continues c.loop-k.invariant.continues)

pub returns-clause-plays : goal.returns-clause-plays
returns-clause-plays g c =
    let old = c.args.self.now in
    let one = c.play_control.new.self in
    let two = c.loop-cpu.self in
    let three = c.loop-k.self in
    let same = c.in_ok-play_control.ensures.others in
    let r0 = ap (λ (o : CrewView g.row.I.Denot). length o.runners) c.self.view_is in
    let w0 = ap (λ (o : CrewView g.row.I.Denot). length o.workers) c.self-2.view_is in
    let r1 = ap length same.0 in
    let w1 = ap length same.1 in
    let w2 = ap length c.loop-cpu.invariant.workers in
    let r2 = c.loop-cpu.invariant.runners in
    let e0 = c.len-cpu-end.ensures in
    let e1 = c.len-k-end.ensures in
    let t0 = c.loop-cpu-test.false in
    let t1 = c.loop-k-test.false in
    let s0 = c.loop-cpu.auto.cpu-end in
    let s1 = c.loop-k.auto.k-end in
    let cpus : c.loop-cpu.cpu ≡ length two.runners = omega (arith, r0, r1, r2, e0, t0, s0) in
    let all : length two.runners + c.loop-k.k ≡ length old.runners + length old.workers = omega (arith, w0, w1, w2, r1, r2, e1, t1, s1) in
    round_played g.I.Image.seen old one three (length two.runners + c.loop-k.k) c.is_sound.ensures all c.in_ok-play_control.ensures.plays
    (c.loop-k.invariant.plays one (subst (λ (n : ℕ). PlaysOthers n one two) cpus c.loop-cpu.invariant.plays))

pub returns-clause-whole : goal.returns-clause-whole
returns-clause-whole g c = λ closed none.
    let last = still_shut c.loop-cpu.self.board.state c.loop-k.self.board.state c.play_control.new.self.board.state c.loop-k.invariant.shut c.loop-cpu.invariant.shut closed in
    let fault : c.play_control.new.self.fault ≡ None = sym c.loop-cpu.invariant.control.1 ∙ sym c.loop-k.invariant.control.1 ∙ none in
    ap (λ (x : ControlView). x.wrote) (c.loop-k.invariant.control.0 ∙ c.loop-cpu.invariant.control.0) ∙ c.in_ok-play_control.ensures.whole fault ∙ ap (λ (s : State). s.console) (sym last)
