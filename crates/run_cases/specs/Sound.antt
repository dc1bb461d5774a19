-- What a start has from which a run can begin: beside its origin, and where it begins from the machine of a run.
use Rattle.std.specs.Prelude.{◌≡◌, ◌<◌, ◌≤◌, ℕ, List, true, None, length, slice_index_or}
use Rattle.std.specs.List.{All}
use Rattle.vm_law.specs.declared.plan.DiskPlan.{DiskPlan}
use Rattle.vm_law.specs.declared.plan.Plan.{Plan}
use Rattle.vm_state.specs.declared.drive.Drive.{Drive}
use Rattle.vm_state.specs.declared.start.Start.{Start}
use Rattle.vm_state.specs.Machine.{all_frozen, cpu_count, no_drive}
use Rattle.vm_state.specs.Requests.{none_busy}
use Rattle.vm_state.specs.Script.{is_allowed}
use Rattle.vm_state.specs.Start.{IsDisk, IsDriveOf, IsPlan, no_plan}
use Rattle.vm_state.specs.State.{State}

pub record IsSoundBeside (start : Start) : Type 0 where
  pub plan : IsPlan start.plan
  pub disks : length start.disks ≡ length start.plan.disks
  pub each_disk : All IsDisk start.disks
  pub script : is_allowed start.plan start.script ≡ true
  pub some_limit : 1 ≤ start.limit
  pub limit : start.limit ≤ 20000000

-- each drive is the planned one, whatever it holds
abbrev pub IsPlannedDrive : DiskPlan → Drive → Type 0
IsPlannedDrive plan drive = IsDriveOf plan drive.bytes drive

pub record AreDrivesOf (plans : List DiskPlan) (drives : List Drive) : Type 0 where
  pub count : length drives ≡ length plans
  pub each : (d : ℕ) → d < length drives → IsPlannedDrive (slice_index_or plans d no_plan) (slice_index_or drives d no_drive)

-- the machine of a run that is at a cut is the planned one
pub record Fits (plan : Plan) (s : State) : Type 0 where
  pub cpus : cpu_count s.machine ≡ plan.cpus
  pub memory : length s.machine.ram.bytes ≡ plan.memory
  pub drives : AreDrivesOf plan.disks s.machine.drives
  pub frozen : all_frozen s.machine ≡ true
  pub pause : s.machine.pause ≡ true
  pub meet : s.machine.meet ≡ None
  pub at_rest : none_busy s.machine ≡ true
