-- A new runner, at the start of a run.
use Rattle.std.specs.Prelude.{ℕ, ◌+◌, ◌<◌, List, length, replicate}
use Rattle.vm_state.specs.declared.start.Start as start_type
use Rattle.vm_state.specs.Machine.{code_of, cpu_count}
use Rattle.vm_state.specs.Start.{IsSound, boot}
use Rattle.vm_state.specs.State.{page_count}
use Rattle.vm_vcpu.specs.declared.out.Out.TheVariants.{Nothing}
use Rattle.vm_vcpu.specs.Fits.{RunnerFits}
use Rattle.vm_vcpu.specs.View.{RunnerView}

-- with copies of a code part, each page at version 0, and nothing out
abbrev pub new_runner : ℕ → ℕ → List ℕ → RunnerView
new_runner cpu by code = record { cpu = cpu; by = by; copies = record { code = code; versions = replicate (page_count (length code)) 0 }; out = Nothing }

-- of a vCPU that there is, in the vCPU's pass, and with the code that the run begins with, it fits the first state
abbrev pub NewRunnersFit : Type 0
NewRunnersFit =
    (start : start_type.Start) (cpu : ℕ) → IsSound start → cpu < cpu_count (boot start).machine
    → RunnerFits (boot start) (new_runner cpu (1 + cpu) (code_of (boot start).machine))
