-- What contracts see of a crew.
use Rattle.std.specs.Prelude.{ℕ, Bool, List, Option, refl}
use Rattle.std.specs.Coded.{Coded, code_by, coded×, coded_ℕ, coded_bool, coded_list, coded_option}
use Rattle.vm_board.specs.View.{BoardView, board_code}
use Rattle.vm_control.specs.View.{ControlView, control_code}
use Rattle.vm_control.specs.declared.control.OutFault.{OutFault}
use Rattle.vm_control.specs.contracts.control.OutFault as fault_contract
use Rattle.vm_vcpu.specs.View.{RunnerView, runner_code}
use Rattle.vm_blkwork.specs.declared.outside.Out.{Out}
use Rattle.vm_blkwork.specs.declared.worker.Worker.{Worker}

-- the board, control, the runner of each vCPU, the workers by their passes, and the first failure of control's work outside
pub record CrewView (I : Type 0) : Type 0 where
  pub board : BoardView I
  pub control : ControlView
  pub runners : List RunnerView
  pub workers : List (Worker I)
  pub fault : Option OutFault

module _ {I : Type 0} where
  abbrev pub out_code : Coded I → Coded (Out I)
  out_code image =
      code_by (ℕ × (Option (ℕ × List ℕ) × (Option Bool × I)))
      (coded× coded_ℕ (coded× (coded_option (coded× coded_ℕ (coded_list coded_ℕ))) (coded× (coded_option coded_bool) image)))
      (λ o. (o.id, (o.sector, (o.answer, o.image)))) (λ p. record { id = p.0; sector = p.1.0; answer = p.1.1.0; image = p.1.1.1 }) (λ _. refl)

  abbrev pub worker_code : Coded I → Coded (Worker I)
  worker_code image =
      code_by (ℕ × (ℕ × Option (Out I))) (coded× coded_ℕ (coded× coded_ℕ (coded_option (out_code image))))
      (λ w. (w.disk, (w.by, w.out))) (λ p. record { disk = p.0; by = p.1.0; out = p.1.1 }) (λ _. refl)

  abbrev pub crew_code : Coded I → Coded (CrewView I)
  crew_code image =
      code_by (BoardView I × (ControlView × (List RunnerView × (List (Worker I) × Option OutFault))))
      (coded× (board_code image) (coded× control_code (coded× (coded_list runner_code) (coded× (coded_list (worker_code image)) (coded_option fault_contract.the_row.coded)))))
      (λ c. (c.board, (c.control, (c.runners, (c.workers, c.fault)))))
      (λ p. record { board = p.0; control = p.1.0; runners = p.1.1.0; workers = p.1.1.1.0; fault = p.1.1.1.1 }) (λ _. refl)
