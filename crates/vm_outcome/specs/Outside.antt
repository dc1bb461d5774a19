-- What stands outside while a command does its work: a host and a console.
use Rattle.std.specs.Prelude.{◌≡◌, ℕ, List, [], ◌∷◌, Contains, Option, Some, None}
use Rattle.vm_host.specs.Views.{HostView, SinkView}
use Rattle.vm_table.specs.History.{console_of}
use Rattle.vm_state.specs.declared.start.Start.{Start}
use Rattle.vm_status.specs.declared.refusal.Refusal.TheVariants.{Memory}
use Rattle.vm_outcome.specs.declared.outcome.Ending.{Ending}
use Rattle.vm_outcome.specs.declared.outcome.Ending.TheVariants.{Refused}
use Rattle.vm_outcome.specs.declared.outcome.Kept.{Kept}

-- when it begins, and after it
pub record Outside : Type 1 where
  pub host : HostView
  pub host_now : HostView
  pub console : SinkView
  pub console_now : SinkView

abbrev pub outside : HostView → HostView → SinkView → SinkView → Outside
outside host host_now console console_now = record { host = host; host_now = host_now; console = console; console_now = console_now }

-- what the guest of a kept history sent to the console
abbrev pub sent_in : Kept → List ℕ
sent_in k = console_of k.start k.journal

-- the run that is kept is one from this start, or memory is out
abbrev pub StartsAt : Start → Ending → Option Kept → Type 0
StartsAt start ending None = ending ≡ Refused Memory
StartsAt start ending (Some k) = k.start ≡ start

-- the work was done
abbrev pub IsEnd : ℕ → Type 0
IsEnd status = Contains (0 ∷ 4 ∷ 5 ∷ 8 ∷ []) status
