-- What contracts see of a run: its state, and for how many entries more it is sure that console and memory suffice.
use Rattle.std.specs.Prelude.{ℕ, refl}
use Rattle.std.specs.Coded.{Coded, code_by, coded×, coded_ℕ}
use Rattle.vm_state.specs.State.{State}
use Rattle.vm_state.specs.View.{state_code}

pub record View : Type 0 where
  pub state : State
  pub room : ℕ

-- how it is stored
abbrev pub view_code : Coded View
view_code = code_by (State × ℕ) (coded× state_code coded_ℕ) (λ v. (v.state, v.room)) (λ p. record { state = p.0; room = p.1 }) (λ _. refl)
