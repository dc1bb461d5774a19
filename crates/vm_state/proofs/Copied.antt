-- A run that is put together from equal parts is equal.
use Rattle.std.proofs.Common.{◌≡◌, ℕ, List, drop, sym, ap, ◌∙◌}
use Rattle.vm_law.specs.declared.script.Order.{Order}
use Rattle.vm_state.specs.contracts.run_state.RunState.{the_view}
use Rattle.vm_state.specs.declared.cpu.Seat.{Seat}
use Rattle.vm_state.specs.declared.image.DiskImage.{DiskImage}
use Rattle.vm_state.specs.declared.kept.Kept.{Kept}
use Rattle.vm_state.specs.declared.run_state.Answer.{Answer}
use Rattle.vm_state.specs.declared.run_state.RunState.TheInside.{Inside}
use Rattle.vm_state.specs.declared.run_state.Sample.{Sample}
use Rattle.vm_state.specs.Machine.{MachineState}
use Rattle.vm_state.specs.State.{State}
use Rattle.vm_state.specs.View.{RunView, script_of, answers_of, samples_of}

abbrev with_parts : State → MachineState → List Seat → List DiskImage → List ℕ → List Order → List ℕ → List Answer → List Sample → List ℕ → State
with_parts s m seats images versions script input answers samples console =
    record s { machine = m; seats = seats; images = images; versions = versions; script = script; input = input; answers = answers; samples = samples; console = console }

abbrev parts : Inside → MachineState → List Seat → List DiskImage → List ℕ → List Answer → List ℕ → List ℕ → State
parts r m seats images versions orders input console =
    with_parts (the_view r).state m seats images versions (script_of orders) (drop r.fed input) (answers_of orders r.place) (samples_of orders r.place) console

abbrev kept_of : RunView → Kept
kept_of v = record { seats = v.state.seats; images = v.state.images; versions = v.state.versions }

pub copied_view : (r : Inside) (v : RunView) (m : MachineState) (k : Kept) (orders : List Answer) (input console : List ℕ)
    → the_view r ≡ v → m ≡ v.state.machine → k ≡ kept_of v → orders ≡ r.orders → input ≡ r.input.items → console ≡ r.console.items
    → parts r m k.seats k.images k.versions orders input console ≡ v.state
copied_view r v m k orders input console e em ek eo en ec =
    ap (λ x. parts r x k.seats k.images k.versions orders input console) (em ∙ sym (ap (λ (w : RunView). w.state.machine) e))
    ∙ ap (λ (x : Kept). parts r r.machine.state x.seats x.images x.versions orders input console) (ek ∙ sym (ap (λ (w : RunView). kept_of w) e))
    ∙ ap (λ x. parts r r.machine.state r.seats r.images r.versions x input console) eo
    ∙ ap (λ x. parts r r.machine.state r.seats r.images r.versions r.orders x console) en
    ∙ ap (λ x. parts r r.machine.state r.seats r.images r.versions r.orders r.input.items x) ec
    ∙ ap (λ (w : RunView). w.state) e
