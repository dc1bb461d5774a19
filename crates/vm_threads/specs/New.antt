-- Pass 0 and the actors at the start of a run.
use Rattle.std.specs.Prelude.{◌≡◌, ℕ, false, List, [], map, Some, None}
use Rattle.vm_turn.specs.Known.{TableId}
use Rattle.vm_turn.specs.declared.view.View.{View}
use Rattle.vm_state.specs.declared.drive.Drive.{Drive}
use Rattle.vm_state.specs.declared.start.Start.{Start}
use Rattle.vm_state.specs.Machine.{MachineState, code_of, cpu_count}
use Rattle.vm_state.specs.Start.{IsSound, boot}
use Rattle.vm_control.specs.View.{new_control}
use Rattle.vm_threads.specs.Chair.{ChairView}

-- of a run from a sound start nothing was seen yet, pass 0 holds nothing, and it has split so many passes and joined none
pub record IsFirst (v : View Start) (splits : ℕ) : Type 0 where
  pub start : Start
  pub root : v.root ≡ Some start
  pub sound : IsSound start
  pub number : v.number ≡ 0
  pub free : v.holds ≡ false
  pub seen : v.seen ≡ []
  pub own : v.own ≡ []
  pub splits_is : v.splits ≡ splits
  pub ended : v.ended ≡ []

-- the machine with which the pass's run begins
abbrev pub OfBoot : View Start → (MachineState → Type 0) → Type 0
OfBoot v P = (start : Start) → v.root ≡ Some start → P (boot start).machine

-- the machine has so many vCPUs and this code
pub record HasCode (cpus : ℕ) (code : List ℕ) (m : MachineState) : Type 0 where
  pub cpus_is : cpu_count m ≡ cpus
  pub code_is : code_of m ≡ code

-- the numbers of workers of its block devices
abbrev pub HasWorkers : List ℕ → MachineState → Type 0
HasWorkers counts m = map (λ (x : Drive). x.workers) m.drives ≡ counts

-- control is new, nothing has failed, and its pass is pass 0 of this turnstile, which has split so many passes off
pub record IsFirstChair (start : Start) (t : TableId) (count : ℕ) (c : ChairView) : Type 0 where
  pub turnstile : c.pass.turnstile ≡ t
  pub control : c.control ≡ new_control
  pub fault : c.fault ≡ None
  pub root : c.pass.view.root ≡ Some start
  pub first : IsFirst c.pass.view count
