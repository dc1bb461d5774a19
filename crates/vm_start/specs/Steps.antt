-- What single steps of reading answer.
use Rattle.std.specs.Prelude.{◌≡◌, ◌≢◌, ℕ, ◌+◌, ◌<◌, Bool, List, length, Option, None, IsSomeAnd}
use Rattle.ckpt_store.specs.declared.loading.LoadFault.{LoadFault}
use Rattle.ckpt_store.specs.declared.loading.LoadFault.TheVariants as loading
use Rattle.vm_host.specs.Told.{WhereTold}
use Rattle.vm_host.specs.declared.host.HostFault as host_fault
use Rattle.vm_host.specs.declared.host.HostFault.TheVariants as host
use Rattle.vm_status.specs.Lines.{status_of}
use Rattle.vm_status.specs.declared.kind.Kind.TheVariants.{Length, Long}
use Rattle.vm_status.specs.declared.refusal.Refusal.{Refusal}
use Rattle.vm_status.specs.declared.refusal.Refusal.TheVariants.{Bad, HostFault, Missing, Memory}
use Rattle.vm_status.specs.declared.role.Role.{Role}
use Rattle.vm_status.specs.declared.role.Role.TheVariants as roles

abbrev pub after_host : List ℕ → host_fault.HostFault → Refusal
after_host name host.Missing = Missing name
after_host name host.Failed = HostFault name
after_host name host.Memory = Memory

-- a file that is longer than its limit is refused there
abbrev pub after_load : Role → List ℕ → ℕ → LoadFault → Refusal
after_load role name most (loading.Host fault) = after_host name fault
after_load role name most loading.Long = Bad role name most Long

-- a disk that has grown since it was measured has no size of a disk
abbrev pub unloaded : List ℕ → ℕ → LoadFault → Refusal
unloaded name size (loading.Host fault) = after_host name fault
unloaded name size loading.Long = Bad roles.Disk name (size + 1) Length

-- no call of the host is behind the refusal
abbrev pub IsOwn : Refusal → Type 0
IsOwn refusal = (status_of refusal ≢ 6) × (status_of refusal ≢ 7)

-- why a file wasn't read, where it may have at most so many bytes
pub data Unread (told : Bool) (file : Option (List ℕ)) (role : Role) (name : List ℕ) (most : ℕ) (refusal : Refusal) : Type 0 where
  missing : refusal ≡ Missing name → WhereTold told (file ≡ None) → Unread told file role name most refusal
  failed : refusal ≡ HostFault name → Unread told file role name most refusal
  long : refusal ≡ Bad role name most Long → WhereTold told (IsSomeAnd file (λ f. most < length f)) → Unread told file role name most refusal
  spent : refusal ≡ Memory → Unread told file role name most refusal
