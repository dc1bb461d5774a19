-- What contracts see of control.
use Rattle.std.specs.Prelude.{ℕ, Bool, false, List, [], refl}
use Rattle.std.specs.Coded.{Coded, code_by, coded×, coded_ℕ, coded_bool, coded_list}

-- the bytes of the console that it wrote, those that it holds to write, and whether its work outside has failed
pub record ControlView : Type 0 where
  pub wrote : List ℕ
  pub held : List ℕ
  pub failed : Bool

abbrev pub control_code : Coded ControlView
control_code =
    code_by (List ℕ × (List ℕ × Bool)) (coded× (coded_list coded_ℕ) (coded× (coded_list coded_ℕ) coded_bool))
    (λ c. (c.wrote, (c.held, c.failed))) (λ p. record { wrote = p.0; held = p.1.0; failed = p.1.1 }) (λ _. refl)

abbrev pub new_control : ControlView
new_control = record { wrote = []; held = []; failed = false }
