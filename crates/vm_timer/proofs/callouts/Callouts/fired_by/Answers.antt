use Rattle.std.proofs.Common.{◌≡◌, ◌<◌, ◌≤◌, ◌+◌, ◌∙◌, ℕ, List, get_or, length, sym, ap, subst}
use Rattle.std.specs.List.{insert}
use Rattle.vm_timer.specs.Timers as spec
use Rattle.vm_timer.proofs.Orders.{AreFiredBelow, fired_none, fired_same, fired_more}
use Rattle.vm_timer.proofs.callouts.Callouts.fired_by.Goals as goal
use Rattle.vm_timer.proofs.callouts.Callouts.fired_by.Goals.{then-fires, else-fires}

pub loop-cpu-init : goal.loop-cpu-init
loop-cpu-init c = subst (AreFiredBelow c.args.self.now c.args.n 0) (sym c.none-fired.ensures) (fired_none c.args.self.now c.args.n)

pub loop-cpu-preserved : goal.loop-cpu-preserved
loop-cpu-preserved c =
    let timers = c.args.self.now in
    let left : c.left-left.result ≡ spec.left_of timers c.loop-cpu.cpu = c.left-left.ensures.left in
    let test : c.fires.result ≡ spec.fires c.args.n (spec.left_of timers c.loop-cpu.cpu) = c.fires.ensures ∙ ap (spec.fires c.args.n) left in
    elim c.if-fires.branch [
      | then-fires w ↦
          let slice : w.as_slice.result.now ≡ c.loop-cpu.fired = w.as_slice.ensures in
          let put : c.if-fires.fired ≡ insert c.loop-cpu.fired w.place_of-place.result c.loop-cpu.cpu = w.fired-is ∙ w.insert.ensures in
          let within : w.place_of-place.result ≤ length c.loop-cpu.fired = subst (λ (xs : List ℕ). w.place_of-place.result ≤ length xs) slice w.place_of-place.ensures.within in
          subst (AreFiredBelow timers c.args.n (c.loop-cpu.cpu + 1)) (sym put)
          (fired_more timers c.args.n c.loop-cpu.cpu c.loop-cpu.fired w.place_of-place.result c.loop-cpu.invariant (sym test ∙ w.if-fires.true) within
          (λ k l. subst (λ (xs : List ℕ). spec.left_of timers (get_or xs k 0) ≤ spec.left_of timers c.loop-cpu.cpu) slice (subst (λ (m : ℕ). spec.left_of timers (get_or w.as_slice.result.now k 0) ≤ m) left (w.place_of-place.ensures.before k l)))
          (subst (λ (xs : List ℕ). w.place_of-place.result < length xs → spec.left_of timers c.loop-cpu.cpu < spec.left_of timers (get_or xs w.place_of-place.result 0)) slice (subst (λ (m : ℕ). w.place_of-place.result < length w.as_slice.result.now → m < spec.left_of timers (get_or w.as_slice.result.now w.place_of-place.result 0)) left w.place_of-place.ensures.after)))
      | else-fires w ↦
          subst (AreFiredBelow timers c.args.n (c.loop-cpu.cpu + 1)) (sym w.fired-is)
          (fired_same timers c.args.n c.loop-cpu.cpu c.loop-cpu.fired c.loop-cpu.invariant (sym test ∙ w.if-fires.false))
    ]
