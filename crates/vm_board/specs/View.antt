-- What contracts see of a board.
use Rattle.std.specs.Prelude.{ℕ, Bool, List, Option, refl}
use Rattle.std.specs.Coded.{Coded, code_by, coded×, coded_ℕ, coded_bool, coded_list, coded_option}
use Rattle.vm_law.specs.declared.journal.Signed.{Signed}
use Rattle.vm_law.specs.contracts.journal.Signed as signed_contract
use Rattle.vm_state.specs.declared.start.Start.{Start}
use Rattle.vm_state.specs.contracts.start.Start as start_contract
use Rattle.vm_state.specs.State.{State}
use Rattle.vm_state.specs.View.{state_code}

-- what the run started from, its state, the entries since then, the images that are at home, for how many entries there is
-- room, and whether somebody wanted memory
pub record BoardView (I : Type 0) : Type 0 where
  pub start : Start
  pub state : State
  pub journal : List Signed
  pub images : List (Option I)
  pub room : ℕ
  pub starved : Bool

module _ {I : Type 0} where
  abbrev pub board_code : Coded I → Coded (BoardView I)
  board_code image =
      code_by (Start × (State × (List Signed × (List (Option I) × (ℕ × Bool)))))
      (coded× start_contract.the_row.coded (coded× state_code (coded× (coded_list signed_contract.the_row.coded) (coded× (coded_list (coded_option image)) (coded× coded_ℕ coded_bool)))))
      (λ b. (b.start, (b.state, (b.journal, (b.images, (b.room, b.starved))))))
      (λ p. record { start = p.0; state = p.1.0; journal = p.1.1.0; images = p.1.1.1.0; room = p.1.1.1.1.0; starved = p.1.1.1.1.1 }) (λ _. refl)
