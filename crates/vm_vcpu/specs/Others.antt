-- A runner that fits still fits after an entry of another pass.
use Rattle.std.specs.Prelude.{◌≡◌, true, false, ◌==◌}
use Rattle.vm_law.specs.declared.journal.Signed.{Signed}
use Rattle.vm_state.specs.Sound.{IsSoundState}
use Rattle.vm_state.specs.State.{State}
use Rattle.vm_table.specs.Table.{lawful, after}
use Rattle.vm_vcpu.specs.Fits.{RunnerFits}
use Rattle.vm_vcpu.specs.View.{RunnerView}

abbrev pub OthersKeepRunners : Type 0
OthersKeepRunners =
    (s : State) (x : Signed) (r : RunnerView) → IsSoundState s → lawful s x.by x.entry ≡ true → (x.by == r.by) ≡ false → RunnerFits s r → RunnerFits (after s x) r
