-- The answers of `load`.
use Rattle.std.specs.Prelude.{◌≡◌, ◌≢◌, ℕ, List, take, Some, slice_get, Result, Ok, Err}
use Rattle.vm_host.specs.declared.host.HostFault.{HostFault}
use Rattle.ckpt_store.specs.declared.loading.LoadFault.{LoadFault}
use Rattle.ckpt_store.specs.declared.loading.LoadFault.TheVariants.{Host, Long}

-- how the calls on the host ended: all went well, or the last one failed
abbrev pub host_answer : {T : Type 0} → Result T LoadFault → Result (Unit {0}) HostFault
host_answer (Ok v) = Ok tt
host_answer (Err (Host fault)) = Err fault
host_answer (Err Long) = Ok tt

-- all of a file that begins with 01, and of any other its first byte alone
pub record IsGatedFront (file bytes : List ℕ) : Type 0 where
  pub is_open : slice_get file 0 ≡ Some 1 → bytes ≡ file
  pub is_shut : slice_get file 0 ≢ Some 1 → bytes ≡ take 1 file
