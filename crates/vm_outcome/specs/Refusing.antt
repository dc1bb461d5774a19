-- The refusals that a file leads to which isn't read.
use Rattle.std.specs.Prelude.{ℕ, List}
use Rattle.ckpt_store.specs.declared.loading.LoadFault.{LoadFault}
use Rattle.ckpt_store.specs.declared.loading.LoadFault.TheVariants as loading
use Rattle.vm_host.specs.declared.host.HostFault as host_fault
use Rattle.vm_host.specs.declared.host.HostFault.TheVariants as host
use Rattle.vm_status.specs.declared.kind.Kind.TheVariants.{Long}
use Rattle.vm_status.specs.declared.refusal.Refusal.{Refusal}
use Rattle.vm_status.specs.declared.refusal.Refusal.TheVariants.{Bad, HostFault, Missing, Memory}
use Rattle.vm_status.specs.declared.role.Role.{Role}

abbrev pub after_host : List ℕ → host_fault.HostFault → Refusal
after_host name host.Missing = Missing name
after_host name host.Failed = HostFault name
after_host name host.Memory = Memory

-- a file that is longer than its limit is refused there
abbrev pub after_load : Role → List ℕ → ℕ → LoadFault → Refusal
after_load r name most (loading.Host fault) = after_host name fault
after_load r name most loading.Long = Bad r name most Long
