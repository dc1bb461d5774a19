-- What the sink of a run took, and how its count rose, from the run's start on.
use Rattle.std.specs.Prelude.{Option, Some, None}
use Rattle.std.proofs.Common.{◌≡◌, ℕ, ◌≤◌, true, List, ◌++◌, length, take, append_assoc, refl, sym, ap, subst, ◌∙◌, arith}
use Rattle.std.proofs.Math.Seq.{take-append_seam}
use Rattle.vm_host.specs.Counts.{Rose}
use Rattle.vm_host.specs.Leaves.{Takes, TakesSome}
use Rattle.vm_host.specs.Views.{ImageView, SinkView}
use Rattle.vm_control.specs.View.{ControlView}
use Rattle.vm_control.specs.declared.control.OutFault.{OutFault}
use Rattle.vm_control.specs.declared.control.OutFault.TheVariants.{Failed, Sink, Memory}
use Rattle.vm_solo.specs.Fits.{IsCrew}
use Rattle.vm_solo.specs.Played.{HasPlayed, WentOn}
use Rattle.vm_solo.specs.Playing.{Causes}
use Rattle.vm_solo.specs.Rounds.{IsNew}
use Rattle.vm_solo.specs.View.{CrewView}
use Rattle.vm_solo.proofs.Played.{played_written}

-- ---- the count

-- a failure is the sink's
pub of_sink : (e : OutFault) (k n : ℕ) → Causes None (Some e) k n → e ≡ Sink
of_sink Failed k n x = absurd x
of_sink Sink k n x = refl
of_sink Memory k n x = absurd x

never_falls : (f : Option OutFault) (k n : ℕ) → Causes None f k n → k ≤ n
never_falls None k n x = omega (arith, x)
never_falls (Some Failed) k n x = absurd x
never_falls (Some Sink) k n x = x.0
never_falls (Some Memory) k n x = absurd x

module _ {I : Type 0} (old new : CrewView I) (before now : SinkView) (n : IsNew old) (w : WentOn old new before now) where
  since : Causes None new.fault before.faults now.faults
  since = subst (λ (f : Option OutFault). Causes f new.fault before.faults now.faults) n.fault w.cause

  pub later : before.faults ≤ now.faults
  later = never_falls new.fault before.faults now.faults since

  pub quiet : new.fault ≡ None → now.faults ≡ before.faults
  quiet e = subst (λ (f : Option OutFault). Causes None f before.faults now.faults) e since

  caused_by : (e : OutFault) → new.fault ≡ Some e → Causes None (Some e) before.faults now.faults
  caused_by e f = subst (λ (g : Option OutFault). Causes None g before.faults now.faults) f since

  pub sinks : (e : OutFault) → new.fault ≡ Some e → e ≡ Sink
  sinks e f = of_sink e before.faults now.faults (caused_by e f)

  pub rose : (e : OutFault) → new.fault ≡ Some e → Rose before.faults now.faults
  rose e f = (let c = caused_by Sink (f ∙ ap (λ (x : OutFault). Some x) (sinks e f)) in c.1)

  -- ---- the bytes

  wrote_all : new.control.wrote ≡ w.writes.bytes
  wrote_all = w.writes.wrote ∙ ap (λ (c : ControlView). c.wrote ++ w.writes.bytes) n.control

  pub took_all : HasPlayed new → new.fault ≡ None → new.board.state.closed ≡ true → Takes new.board.state.console before now
  took_all h e closed = subst (λ (xs : List ℕ). Takes xs before now) (sym wrote_all ∙ played_written new h e closed) w.writes.takes

  pub took_some : (seen : I → ImageView) → IsCrew seen new → TakesSome new.board.state.console before now
  took_some seen h =
      let console = h.control.console ∙ append_assoc new.control.wrote new.control.held h.control.rest in
      let first : take (length new.control.wrote) new.board.state.console ≡ w.writes.bytes =
      ap (λ (xs : List ℕ). take (length new.control.wrote) xs) console ∙ take-append_seam new.control.wrote (new.control.held ++ h.control.rest) ∙ wrote_all in
      record {
        told = w.writes.takes.told;
        taken = λ tells. (length new.control.wrote, w.writes.takes.taken tells ∙ ap (λ (xs : List ℕ). before.taken ++ xs) (sym first));
      }
