-- A value, or the first variable that is refused.
use Rattle.std.specs.Prelude.{◌≡◌, ℕ, List, Result, Ok, Err, ⊤}
use Rattle.cfg_vm.specs.declared.error.PlanKind.{PlanKind}
use Rattle.cfg_vm.specs.declared.error.PlanError.{PlanError}
use Rattle.cfg_vm.specs.declared.error.PlanError.TheVariants as error

pub record Fault : Type 0 where
  pub variable : List ℕ
  pub kind : PlanKind

infixl 10 ◌>>=◌
abbrev pub ◌>>=◌ : {X Y : Type 0} → Result X Fault → (X → Result Y Fault) → Result Y Fault
Ok x >>= next = next x
Err e >>= next = Err e

abbrev pub named : {X : Type 0} → List ℕ → Result X PlanKind → Result X Fault
named variable (Ok x) = Ok x
named variable (Err kind) = Err (record { variable = variable; kind = kind })

-- the refusal is the first one; Memory says nothing
abbrev pub Refuses : {X : Type 0} → PlanError → Result X Fault → Type 0
Refuses (error.Fault variable kind) read = read ≡ Err (record { variable = variable; kind = kind })
Refuses error.Memory read = ⊤

-- Ok with the value, or the first refusal
abbrev pub Answers : {X : Type 0} → Result X PlanError → Result X Fault → Type 0
Answers (Ok x) read = read ≡ Ok x
Answers (Err e) read = Refuses e read
