-- The counts of refusals behind the status of a command's work.
use Rattle.std.specs.Prelude.{◌≡◌, ◌≢◌, ℕ, ◌<◌, ◌≤◌, ◌⊎◌, List, take}
use Rattle.vm_host.specs.Counts.{Rose}
use Rattle.vm_host.specs.Views.{HostView, SinkView}

-- The status of a refusal has its cause: the host's faults, its misses or the console's count rose. And no count rises
-- without a status for it: the first failure decides, so that after one of the console the host may refuse the journal too, and
-- memory may run out.
pub record HasCauses (status : ℕ) (old new : HostView) (console console_now : SinkView) : Type 0 where
  pub failed : status ≡ 6 → Rose old.faults new.faults
  pub missing : status ≡ 7 → Rose old.misses new.misses
  pub unwritten : status ≡ 9 → Rose console.faults console_now.faults
  pub only_failed : old.faults < new.faults → (status ≡ 6) ⊎ (status ≡ 9)
  pub only_missing : old.misses < new.misses → status ≡ 7
  pub only_unwritten : console.faults < console_now.faults → (status ≡ 9) ⊎ (status ≡ 71)
  pub later : (old.faults ≤ new.faults) × (old.misses ≤ new.misses) × (console.faults ≤ console_now.faults)

-- no count of host or console rose
pub record NoneRose (old new : HostView) (console console_now : SinkView) : Type 0 where
  pub not_failed : Rose old.faults new.faults → ⊥
  pub not_missing : Rose old.misses new.misses → ⊥
  pub not_unwritten : Rose console.faults console_now.faults → ⊥

-- the host's last failure was one on the file of this name, of which it tells at most 4,096 bytes
abbrev pub IsNamed : List ℕ → HostView → Type 0
IsNamed name host = host.failed ≡ take 4096 name

-- the counts of a host in work on the file of a name
pub record HasHostCauses (name : List ℕ) (status : ℕ) (old new : HostView) : Type 0 where
  pub failed : status ≡ 6 → Rose old.faults new.faults
  pub named : status ≡ 6 → IsNamed name new
  pub missing : status ≡ 7 → Rose old.misses new.misses
  pub only_failed : old.faults < new.faults → status ≡ 6
  pub only_missing : old.misses < new.misses → status ≡ 7
  pub later : (old.faults ≤ new.faults) × (old.misses ≤ new.misses)

-- the counts of a host over the writing of a file
pub record HasSaveCauses (status : ℕ) (old new : HostView) : Type 0 where
  pub failed : status ≡ 6 → Rose old.faults new.faults
  pub only_failed : old.faults < new.faults → status ≡ 6
  pub later : old.faults ≤ new.faults
  pub misses : new.misses ≡ old.misses

-- the count of a console alone
pub record HasSinkCauses (status : ℕ) (console console_now : SinkView) : Type 0 where
  pub no_host : (status ≢ 6) × (status ≢ 7)
  pub unwritten : status ≡ 9 → Rose console.faults console_now.faults
  pub only_unwritten : console.faults < console_now.faults → status ≡ 9
  pub later : console.faults ≤ console_now.faults
