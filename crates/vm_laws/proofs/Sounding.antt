-- After each legal history from a sound start the run is sound, so it can go on.
use Rattle.std.proofs.Common.{◌≡◌, false, List}
use Rattle.vm_law.specs.declared.journal.Signed.{Signed}
use Rattle.vm_state.specs.declared.start.Start as start_type
use Rattle.vm_state.specs.Sound.{IsSoundState}
use Rattle.vm_state.specs.Start.{IsSound, boot}
use Rattle.vm_state.proofs.Sound.{boot_is_sound}
use Rattle.vm_table.specs.History.{IsLegal, is_closed, last_state}
use Rattle.vm_table.proofs.Keeps.{after_keeps}
use Rattle.vm_laws.specs.Stuck.{CanGoOn}
use Rattle.vm_laws.proofs.Histories.{keeps_all}
use Rattle.vm_laws.proofs.Going.{goes_on}

pub sound_after : (start : start_type.Start) (history : List Signed) → IsSound start → IsLegal start history → IsSoundState (last_state start history)
sound_after start history sound legal = keeps_all IsSoundState after_keeps (boot start) history (boot_is_sound start sound) legal

-- no state is stuck
pub no_state_is_stuck : (start : start_type.Start) (history : List Signed) → IsSound start → IsLegal start history → is_closed start history ≡ false → CanGoOn (last_state start history)
no_state_is_stuck start history sound legal g = goes_on (last_state start history) (sound_after start history sound legal) g
