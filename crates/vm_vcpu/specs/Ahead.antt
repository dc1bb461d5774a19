-- What a runner ran ahead is what the rounds of one thread say.
use Rattle.std.specs.Prelude.{◌≡◌}
use Rattle.vm_state.specs.State.{State}
use Rattle.vm_table.specs.Rounds.{run_outside}
use Rattle.vm_vcpu.specs.Turn.{IsTaken}
use Rattle.vm_vcpu.specs.View.{RunnerView, lease_in, ran_ahead}

-- after its turn and its work outside
abbrev pub RunsAhead : Type 0
RunsAhead = (s : State) (r : RunnerView) → IsTaken s r → lease_in r.copies (ran_ahead r.copies r.out) ≡ run_outside s r.cpu
