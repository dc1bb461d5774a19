-- A timer that isn't there has no period.
use Rattle.std.proofs.Common.{◌≡◌, ℕ, ◌≤◌, refl, ap, ◌∙◌}
use Rattle.std.proofs.lemmas.List.{get_or_past}
use Rattle.vm_lapic.specs.Apic.{at_start}
use Rattle.vm_state.specs.declared.cpu.Cpu.{Cpu}
use Rattle.vm_state.specs.Machine.{MachineState, cpu_at, cpu_count, unstarted_cpu}
use Rattle.vm_devices.specs.Timers.{period_of}

blank : (i : ℕ) → period_of (unstarted_cpu i).lapic ≡ 0
unfolding unstarted_cpu at_start
blank i = refl

pub no_period : (m : MachineState) (i : ℕ) → cpu_count m ≤ i → period_of (cpu_at m i).lapic ≡ 0
no_period m i past = ap (λ (c : Cpu). period_of c.lapic) (get_or_past m.cpus i (unstarted_cpu i) past) ∙ blank i
