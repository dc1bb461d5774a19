-- The counts of a host behind each status of a refusal.
use Rattle.std.specs.Prelude.{◌≡◌, ℕ, ◌<◌, ◌≤◌, List, take, Result, Ok, Err}
use Rattle.vm_host.specs.Counts.{Rose}
use Rattle.vm_host.specs.Views.{HostView}
use Rattle.vm_status.specs.Lines.{status_of}
use Rattle.vm_status.specs.declared.refusal.Refusal.{Refusal}
use Rattle.vm_status.specs.declared.refusal.Refusal.TheVariants.{HostFault}

-- the status of a refusal; 0 where there is none
abbrev pub result_status : {X : Type 0} → Result X Refusal → ℕ
result_status (Ok x) = 0
result_status (Err refusal) = status_of refusal

-- the host's last failure was one on the file of this name, of which it tells at most 4,096 bytes
abbrev pub IsNamed : List ℕ → HostView → Type 0
IsNamed name host = host.failed ≡ take 4096 name

-- Status 6 and 7 have their count behind them, and no count rises without its status; a failure names its file.
pub record HasReadCauses {X : Type 0} (result : Result X Refusal) (old new : HostView) : Type 0 where
  pub failed : result_status result ≡ 6 → Rose old.faults new.faults
  pub named : (name : List ℕ) → result ≡ Err (HostFault name) → IsNamed name new
  pub missing : result_status result ≡ 7 → Rose old.misses new.misses
  pub only_failed : old.faults < new.faults → result_status result ≡ 6
  pub only_missing : old.misses < new.misses → result_status result ≡ 7
  pub later : (old.faults ≤ new.faults) × (old.misses ≤ new.misses)

-- no count rose
pub record NoneRefused (old new : HostView) : Type 0 where
  pub not_failed : Rose old.faults new.faults → ⊥
  pub not_missing : Rose old.misses new.misses → ⊥
