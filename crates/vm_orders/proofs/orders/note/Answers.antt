use Rattle.std.proofs.Common.{◌≡◌, ℕ, ◌+◌, ◌-◌, ◌<◌, ◌≤◌, ◌++◌, List, length, drop, set, Some, refl, sym, ap, subst, ◌∙◌, arith, length-append}
use Rattle.std.specs.Prelude.{◌==◌, if◌then◌else◌}
use Rattle.std.specs.Vec.{vec_len, vec_capacity}
use Rattle.std.proofs.lemmas.List.{length-map}
use Rattle.vm_state.specs.declared.run_state.Answer.{Answer}
use Rattle.vm_state.specs.declared.run_state.Why.TheVariants.{Finished}
use Rattle.vm_state.specs.State.{State, next_order}
use Rattle.vm_state.specs.View.{IsReserved, RunView, answers_of, bytes_in, samples_of, script_of}
use Rattle.vm_orders.specs.Done.{noted_as}
use Rattle.vm_orders.proofs.Noted.{IsKept, note_reserved, note_state, with_said}
use Rattle.vm_orders.proofs.orders.note.Goals as goal

pub invariant_of-run : goal.invariant_of-run
invariant_of-run c =
    let os : List Answer = c.run.inside.orders in
    let x : Answer = c.at_mut-answer.result.now in
    let orders = length-map os (λ (y : Answer). y.order) in
    let place : c.run.inside.place ≡ c.args.run.now.state.place = ap (λ (v : RunView). v.state.place) c.run.view_is in
    let script : length (script_of os) ≡ length c.args.run.now.state.script = ap (λ (v : RunView). length v.state.script) c.run.view_is in
    let within : c.run.inside.place < length os = omega (arith, c.requires.within, place, script, orders) in
    let bytes : length c.bytes_of.result.now ≡ length (bytes_in x.order) = ap (λ (xs : List ℕ). length xs) c.bytes_of.ensures in
    let grown : length c.take_in.new.input.items ≡ length c.run.inside.input.items + length c.bytes_of.result.now =
    ap (λ (xs : List ℕ). length xs) c.take_in.ensures.items ∙ length-append c.run.inside.input.items c.bytes_of.result.now in
    let fed = c.run.invariant.1 in (
      subst (λ (n : ℕ). IsReserved (set os c.run.inside.place (with_said x c.args.said)) (c.run.inside.place + 1) (vec_len c.take_in.new.input) n) (sym c.take_in.ensures.capacity)
          (note_reserved os c.run.inside.place (vec_len c.run.inside.input) (vec_len c.take_in.new.input) (vec_capacity c.run.inside.input) x c.args.said c.at_mut-answer.ensures.value within (omega (arith, grown, bytes)) c.run.invariant.0),
      omega (arith, grown, fed),
    )

pub returns : goal.returns
returns c =
    let os : List Answer = c.run.inside.orders in
    let x : Answer = c.at_mut-answer.result.now in
    let s : State = record {
      machine = c.run.inside.machine.state;
      seats = c.run.inside.seats;
      images = c.run.inside.images;
      versions = c.run.inside.versions;
      executed = c.run.inside.executed;
      seen = c.run.inside.seen;
      limit = c.run.inside.limit;
      entries = c.run.inside.entries;
      script = script_of os;
      place = c.run.inside.place;
      begun = c.run.inside.begun;
      input = drop c.run.inside.fed c.run.inside.input.items;
      answers = answers_of os c.run.inside.place;
      samples = samples_of os c.run.inside.place;
      console = c.run.inside.console.items;
      ended = c.run.inside.ended;
      closed = c.run.inside.closed;
    } in
    let v : RunView = record { state = s; room = vec_capacity c.run.inside.console - vec_len c.run.inside.console; spare = c.run.inside.machine.spare } in
    let is : v ≡ c.args.run.now = c.run.view_is in
    let orders = length-map os (λ (y : Answer). y.order) in
    let place : c.run.inside.place ≡ c.args.run.now.state.place = ap (λ (w : RunView). w.state.place) is in
    let script : length (script_of os) ≡ length c.args.run.now.state.script = ap (λ (w : RunView). length w.state.script) is in
    let within : c.run.inside.place < length os = omega (arith, c.requires.within, place, script, orders) in
    let kept : IsKept s os c.run.inside.input.items c.run.inside.fed = record { script = refl; answers = refl; samples = refl; input = refl; within = within; not_past = c.run.invariant.1 } in
    let why = c.why_after-run-inside.ensures ∙ ap (λ (n : ℕ). if c.run.inside.place + 1 == n then Some Finished else c.run.inside.ended) c.len.ensures in
    let grown = c.take_in.ensures.items ∙ ap (λ (xs : List ℕ). c.run.inside.input.items ++ xs) c.bytes_of.ensures in
    ap (λ (t : State). record v { state = t })
    (note_state s os x c.args.said c.run.inside.input.items c.take_in.new.input.items c.run.inside.fed (vec_capacity c.run.inside.input) (vec_len c.run.inside.input) c.why_after-run-inside.result kept c.run.invariant.0
    c.at_mut-answer.ensures.value grown why)
    ∙ ap (λ (w : RunView). record w { state = noted_as w.state (next_order w.state) c.args.said }) is
