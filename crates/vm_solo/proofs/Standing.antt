-- The rounds at which a crew stands are such as every law of rounds asks for.
use Rattle.std.specs.Prelude.{Option, None, replicate, map}
use Rattle.std.proofs.Common.{ℕ, ◌+◌, Bool, List, [], length, length-append, sym, ap, subst, ◌∙◌, inl, inr, arith}
use Rattle.std.proofs.lemmas.Bool.{cases_lt}
use Rattle.std.proofs.lemmas.List.{get_or_past, length-map, length-replicate}
use Rattle.vm_host.specs.Views.{ImageView}
use Rattle.vm_state.specs.State.{State}
use Rattle.vm_table.specs.Rounds.{Lease}
use Rattle.vm_rounds.proofs.Leasing.{LeaseFits}
use Rattle.vm_rounds.proofs.Passes.{Stand}
use Rattle.vm_rounds.proofs.Passing.{Rests}
use Rattle.vm_board.specs.Board.{IsBoard}
use Rattle.vm_board.specs.View.{BoardView}
use Rattle.vm_vcpu.specs.New.{new_runner}
use Rattle.vm_vcpu.specs.View.{RunnerView, lease_now}
use Rattle.vm_vcpu.proofs.Closed.{closed_rests}
use Rattle.vm_blkwork.specs.Turn.{answer_of}
use Rattle.vm_blkwork.specs.declared.worker.Worker.{Worker}
use Rattle.vm_blkwork.proofs.Shut.{last_rests}
use Rattle.vm_solo.specs.Fits.{IsCrew, runner_at}
use Rattle.vm_solo.specs.Rounds.{rounds_of}
use Rattle.vm_solo.specs.View.{CrewView}
use Rattle.vm_solo.proofs.Crews.{board_sound}
use Rattle.vm_solo.proofs.Leases.{fits_lease}
use Rattle.vm_solo.proofs.Runs.{map_at}

module _ {I : Type 0} (seen : I → ImageView) where
  board_rests : (b : BoardView I) → IsBoard seen b → Rests b.state
  board_rests b h = subst (λ (s : State). Rests s) (sym h.last) (λ e. (closed_rests b.start b.journal h.legal e, last_rests b.start b.journal h.legal e))

  lease_fits : (c : CrewView I) (i : ℕ) → IsCrew seen c → LeaseFits c.board.state i (lease_now (runner_at c.runners i))
  lease_fits c i h =
      elim (cases_lt i (length c.runners)) [
        | inl l ↦ subst (λ (k : ℕ). LeaseFits c.board.state k (lease_now (runner_at c.runners i))) (h.runners.cpu i l) (fits_lease c.board.state (runner_at c.runners i) (h.runners.fits i l))
        | inr past ↦ inl (ap (λ (r : RunnerView). (lease_now r).ran) (get_or_past c.runners i (new_runner 0 0 []) past))
      ]

  pub crew_stands : (c : CrewView I) (calls : List Bool) → IsCrew seen c → Stand (rounds_of c calls)
  crew_stands c calls h = record {
    fine = record { sound = board_sound seen c.board h.board; rests = board_rests c.board h.board };
    leased = length-map c.runners lease_now ∙ h.runners.count;
    answered =
        let a = length-append (replicate (1 + length c.runners) (let o : Option Bool = None in o)) (map (λ (w : Worker I). answer_of w.out) c.workers) in
        let b = length-replicate (1 + length c.runners) (let o : Option Bool = None in o) in
        let d = length-map c.workers (λ (w : Worker I). answer_of w.out) in
        let e = h.runners.count in
        let f = h.workers.count in
        omega (arith, a, b, d, e, f);
    leases = λ i. subst (λ (x : Lease). LeaseFits c.board.state i x) (sym (map_at lease_now c.runners i (new_runner 0 0 []))) (lease_fits c i h);
  }
