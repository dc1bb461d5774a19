-- What control writes outside of its turn.
use Rattle.std.specs.Prelude.{◌≡◌, ℕ, ◌++◌, take, drop, Result, Ok, Err}
use Rattle.vm_host.specs.Leaves.{Takes}
use Rattle.vm_host.specs.Views.{SinkView}
use Rattle.vm_control.specs.View.{ControlView}
use Rattle.vm_control.specs.declared.control.OutFault.{OutFault}
use Rattle.vm_control.specs.declared.control.OutFault.TheVariants.{Failed, Sink, Memory}

-- the sink takes a first part of the bytes that are held; these are written then, and the others are still held
pub record WritesHeld (old new : ControlView) (before now : SinkView) : Type 0 where
  pub count : ℕ
  pub takes : Takes (take count old.held) before now
  pub wrote : new.wrote ≡ old.wrote ++ take count old.held
  pub held : new.held ≡ drop count old.held

-- no other failure than the console's
abbrev pub IsSinkFault : OutFault → Type 0
IsSinkFault Failed = ⊥
IsSinkFault Sink = Unit {0}
IsSinkFault Memory = ⊥

abbrev pub IsSink : {T : Type 0} → Result T OutFault → Type 0
IsSink (Ok x) = Unit {0}
IsSink (Err e) = IsSinkFault e
