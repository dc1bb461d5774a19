-- Counts of refusals, which never fall and stand still at the end of their type, and the name of the last failure.
use Rattle.std.specs.Prelude.{◌≡◌, ℕ, ◌+◌, ◌-◌, ◌^◌, ◌≤◌, ◌<◌, min, List, take, Result, OnOk, OnErr, IsErrOf}
use Rattle.vm_host.specs.Views.{HostView}
use Rattle.vm_host.specs.declared.host.HostFault.{HostFault}
use Rattle.vm_host.specs.declared.host.HostFault.TheVariants.{Failed, Missing}

-- the count rose, or stands at the end
abbrev pub Rose : ℕ → ℕ → Type 0
Rose before now = min (before + 1) (2 ^ 64 - 1) ≤ now

-- the count of an object with one refusal
pub record Counted {T E : Type 0} (before now : ℕ) (result : Result T E) : Type 0 where
  pub later : before ≤ now
  pub refused : OnErr result (Rose before now)
  pub quiet : OnOk result (now ≡ before)

-- a count that rises at each success alone
pub record RoseOnOk {T E : Type 0} (before now : ℕ) (result : Result T E) : Type 0 where
  pub later : before ≤ now
  pub done : OnOk result (Rose before now)
  pub refused : OnErr result (now ≡ before)

-- a count that rises exactly where P holds
pub record RoseExactly (P : Type 0) (before now : ℕ) : Type 0 where
  pub later : before ≤ now
  pub rises : P → Rose before now
  pub stays : (P → ⊥) → now ≡ before

-- the two counts of a host: each of its refusals but want of memory raises its own count, and nothing else does. The name
-- that a call was about is told from its Failed on, and stays over every other answer.
pub record HasCause {T : Type 0} (name : List ℕ) (old new : HostView) (result : Result T HostFault) : Type 0 where
  pub later : old.faults ≤ new.faults
  pub later_misses : old.misses ≤ new.misses
  pub failed : IsErrOf result Failed → Rose old.faults new.faults
  pub missing : IsErrOf result Missing → Rose old.misses new.misses
  pub only_failed : old.faults < new.faults → IsErrOf result Failed
  pub only_missing : old.misses < new.misses → IsErrOf result Missing
  pub named : IsErrOf result Failed → new.failed ≡ take 4096 name
  pub still_named : (IsErrOf result Failed → ⊥) → new.failed ≡ old.failed

-- no host call was refused
pub record SameCounts (old new : HostView) : Type 0 where
  pub faults : new.faults ≡ old.faults
  pub misses : new.misses ≡ old.misses
  pub failed : new.failed ≡ old.failed
