-- What printing and reading mean to each other.
use Rattle.std.specs.Prelude.{◌≡◌, ℕ, List, [], ◌∷◌, ◌++◌, ⊤, Ok}
use Rattle.std.specs.List.{All}
use Rattle.vm_law.specs.declared.script.Order.{Order}
use Rattle.vm_law.specs.declared.script.Order.TheVariants as order
use Rattle.vm_law.specs.declared.plan.Plan.{Plan}
use Rattle.ctl_script.specs.Script.{script_of}
use Rattle.ctl_script.specs.Print.{script_text}

-- a name that doesn't end with a carriage return (13), which would be taken for a part of the line's end
abbrev pub EndsPlain : List ℕ → Type 0
EndsPlain name = (front : List ℕ) → name ≡ front ++ 13 ∷ [] → ⊥

-- the name that ends the order's line, if one does, keeps its end
abbrev pub KeepsItsEnd : Order → Type 0
KeepsItsEnd (order.Checkpoint name) = EndsPlain name
KeepsItsEnd (order.Against name base) = EndsPlain base
KeepsItsEnd (order.Send name) = EndsPlain name
KeepsItsEnd _ = ⊤

-- a script that some text is for a plan is, for that plan, what its print is too
abbrev pub PrintLaw : Type 0
PrintLaw =
    (p : Plan) (text : List ℕ) (script : List Order) → script_of p text ≡ Ok script → All KeepsItsEnd script
    → script_of p (script_text script) ≡ Ok script
