-- What the answer of a run says of its board and of its console.
use Rattle.std.proofs.Common.{◌≡◌, ◌≢◌, ℕ, ◌≤◌, Bool, true, false, List, length, Option, Some, None, refl, sym, ap, subst, ◌∙◌, arith}
use Rattle.std.specs.Prelude.{Result, Ok, Err}
use Rattle.std.proofs.lemmas.Option.{same_Some}
use Rattle.vm_host.specs.Counts.{Rose}
use Rattle.vm_host.specs.Leaves.{Takes, TakesSome}
use Rattle.vm_host.specs.Views.{ImageView, SinkView}
use Rattle.vm_turn.specs.Known.{TableId}
use Rattle.vm_turn.specs.declared.view.Ended.{Ended}
use Rattle.vm_state.specs.declared.run_state.Why.TheVariants as why
use Rattle.vm_state.specs.declared.start.Start.{Start}
use Rattle.vm_state.specs.State.{State}
use Rattle.vm_board.specs.View.{BoardView}
use Rattle.vm_control.specs.View.{ControlView, new_control}
use Rattle.vm_control.specs.declared.control.OutFault.{OutFault}
use Rattle.vm_control.specs.declared.control.OutFault.TheVariants.{Failed, Sink, Memory}
use Rattle.vm_solo.specs.Playing.{Causes, Writes}
use Rattle.vm_threads.specs.Chair.{ChairView}
use Rattle.vm_threads.specs.Crew.{Closes, IsPlayed, answer_of}
use Rattle.vm_threads.specs.New.{IsFirst, IsFirstChair}
use Rattle.vm_threads.proofs.Closing.{IsShut, all_taken, no_outside, part_taken, shut}

-- all passes that were split off have been joined
pub lone : (a b : ChairView) (n : ℕ) (starved : Bool) (u v : SinkView) → IsFirst a.pass.view n → IsPlayed a n b starved u v → length b.pass.view.ended ≡ b.pass.view.splits
lone a b n starved u v f p =
    let none : length p.mid.pass.view.ended ≡ 0 = ap (λ (l : List Ended). length l) (p.turned.seat.ended ∙ f.ended) in
    let splits : b.pass.view.splits ≡ n = p.joined.splits ∙ p.turned.seat.splits ∙ f.splits_is in
    let count = p.joined.joined in
    omega (arith, none, splits, count)

-- ---- the answer

fed : (f : Option OutFault) (starved : Bool) → answer_of f starved ≢ Err Memory → starved ≡ false
fed f true n = absurd (n refl)
fed f false n = refl

fine : (f : Option OutFault) (starved : Bool) → answer_of f starved ≡ Ok tt → (f ≡ None) × (starved ≡ false)
fine f true e = absurd (cc)
fine (Some x) false e = absurd (cc)
fine None false e = (refl, refl)

of_fault : (f : Option OutFault) (starved : Bool) (x : OutFault) → x ≢ Memory → answer_of f starved ≡ Err x → f ≡ Some x
of_fault f true x n e = absurd (n (cc))
of_fault (Some y) false x n e = (cc)
of_fault None false x n e = absurd (cc)

wanted : (f : Option OutFault) (starved : Bool) (k m : ℕ) → Causes None f k m → answer_of f starved ≡ Err Memory → starved ≡ true
wanted f true k m h e = refl
wanted (Some Failed) false k m h e = absurd h
wanted (Some Memory) false k m h e = absurd h
wanted (Some Sink) false k m h e = absurd (cc)
wanted None false k m h e = absurd (cc)

rises : (f : Option OutFault) (k m : ℕ) → Causes None f k m → k ≤ m
rises None k m h = omega (arith, h)
rises (Some Failed) k m h = absurd h
rises (Some Memory) k m h = absurd h
rises (Some Sink) k m h = h.0

not_host : (f : Option OutFault) (starved : Bool) (k m : ℕ) → Causes None f k m → answer_of f starved ≢ Err Failed
not_host f true k m h e = absurd (cc)
not_host (Some Failed) false k m h e = absurd h
not_host (Some Memory) false k m h e = absurd h
not_host (Some Sink) false k m h e = absurd (cc)
not_host None false k m h e = absurd (cc)

module _ {I : Type 0} (seen : I → ImageView) (start : Start) (t : TableId) (n : ℕ) (a c : ChairView) (starved : Bool) (b : BoardView I) (r : Result (Unit {0}) OutFault) (u v : SinkView) (first : IsFirstChair start t n a) (p : IsPlayed a n c starved u v) (k : Closes seen c starved b r) where
  root_is : c.pass.view.root ≡ Some start
  root_is = p.joined.root ∙ p.turned.seat.root ∙ first.root

  writes : Writes new_control c.control u v
  writes = subst (λ (x : ControlView). Writes x c.control u v) first.control (subst (λ (x : ControlView). Writes a.control x u v) (sym p.joined.control) p.turned.writes)

  causes : Causes None c.fault u.faults v.faults
  causes = subst (λ (o : Option OutFault). Causes o c.fault u.faults v.faults) first.fault (subst (λ (o : Option OutFault). Causes a.fault o u.faults v.faults) (sym p.joined.fault) p.turned.causes)

  closes : starved ≡ false → IsShut seen c k.back
  closes e = shut seen c k.back k.is_back (p.closed e)

  ends_fine : r ≡ Ok tt → (c.fault ≡ None) × (starved ≡ false)
  ends_fine e = fine c.fault starved (sym k.answer_is ∙ e)

  pub ends_start : b.start ≡ start
  ends_start = k.start ∙ sym (same_Some start k.back.start (sym root_is ∙ k.is_back.found.root_is))

  pub ends_closed : r ≢ Err Memory → b.state.closed ≡ true
  ends_closed m = ap (λ (x : State). x.closed) k.state ∙ (closes (fed c.fault starved (λ e. m (k.answer_is ∙ e)))).closed

  pub ends_starved : r ≡ Err Memory → b.starved ≡ true
  ends_starved e = k.notes (wanted c.fault starved u.faults v.faults causes (sym k.answer_is ∙ e))

  pub ends_inside : r ≡ Ok tt → b.state.ended ≢ Some why.Outside
  ends_inside e o = no_outside seen c k.back k.is_back (ends_fine e).0 (ap (λ (x : State). x.ended) (sym k.state) ∙ o)

  pub ends_part : TakesSome b.state.console u v
  ends_part = subst (λ (x : State). TakesSome x.console u v) (sym k.state) (part_taken seen c k.back u v k.is_back writes)

  pub ends_all : r ≡ Ok tt → Takes b.state.console u v
  ends_all e = subst (λ (x : State). Takes x.console u v) (sym k.state) (all_taken seen c k.back u v (closes (ends_fine e).1) (ends_fine e).0 writes)

  pub ends_quiet : r ≡ Ok tt → v.faults ≡ u.faults
  ends_quiet e = subst (λ (o : Option OutFault). Causes None o u.faults v.faults) (ends_fine e).0 causes

  pub ends_cause : r ≡ Err Sink → Rose u.faults v.faults
  ends_cause e =
      let f = of_fault c.fault starved Sink (λ x. cc) (sym k.answer_is ∙ e) in
      let h : Causes None (Some Sink) u.faults v.faults = subst (λ (o : Option OutFault). Causes None o u.faults v.faults) f causes in
      h.1

  pub ends_later : u.faults ≤ v.faults
  ends_later = rises c.fault u.faults v.faults causes

  pub ends_only : r ≢ Err Failed
  ends_only e = not_host c.fault starved u.faults v.faults causes (sym k.answer_is ∙ e)
