-- What writing a text into the file of a name promises, behind a gate that is opened last.
use Rattle.std.specs.Prelude.{◌≡◌, ℕ, ◌<◌, List, Some, Result, OnOk, IsErrOf}
use Rattle.vm_host.specs.Told.{WhereTold}
use Rattle.vm_host.specs.Counts.{HasCause}
use Rattle.vm_host.specs.Crash.{Only, ReadsNow}
use Rattle.vm_host.specs.Leaves.{WritesFile}
use Rattle.vm_host.specs.Views.{HostView}
use Rattle.vm_host.specs.declared.host.HostFault.{HostFault}
use Rattle.vm_host.specs.declared.host.HostFault.TheVariants.{Missing}
use Rattle.ckpt_store.specs.Gate.{IsShutOrWhole}

pub record Saves (text name : List ℕ) (old new : HostView) (result : Result (Unit {0}) HostFault) : Type 0 where
  -- after Ok the file reads as the text, and each crash leaves it
  pub whole : WhereTold old.tells (OnOk result (new.file name ≡ Some text))
  pub durable : WhereTold old.tells (OnOk result (Only text (new.left name new.moment)))
  -- after Ok the file was made in this call
  pub made : WhereTold old.tells (OnOk result (old.moment < new.made name))
  -- whatever the answer: a crash at any moment from the file's making on leaves a file that is refused, or the whole text
  pub any_moment : WhereTold old.tells (old.moment < new.made name → (b : List ℕ) → new.left name (new.made name) b → IsShutOrWhole text b)
  -- Failed comes only where the host's count rose, and its name is told then; Missing never comes
  pub cause : HasCause name old new result
  pub not_missing : IsErrOf result Missing → ⊥
  -- every other file stays
  pub leaves : WritesFile name old new
  pub reads : WhereTold old.tells (ReadsNow new)
