-- What a run starts from, and its first state.
use Rattle.std.specs.Prelude.{◌≡◌, ℕ, ◌-◌, ◌%◌, ◌<◌, ◌≤◌, false, true, List, [], ◌∷◌, ◌++◌, map, length, replicate, slice_index_or, None}
use Rattle.std.specs.List.{All, range_with_len}
use Rattle.guest_ram.specs.GuestRam.{IsSize, loaded}
use Rattle.vm_law.specs.Image.{IsAllowed}
use Rattle.vm_law.specs.declared.plan.DiskPlan.{DiskPlan}
use Rattle.vm_law.specs.declared.plan.Plan.{Plan}
use Rattle.vm_law.specs.declared.script.Order.{Order}
use Rattle.vm_law.specs.declared.script.Order.TheVariants.{Resume}
use Rattle.vm_ioapic.specs.Ioapic as ioapic
use Rattle.vm_uart.specs.Uart as uart
use Rattle.vm_vblk.specs.Window as window
use Rattle.blk_queue.specs.Steps.{empty}
use Rattle.vm_state.specs.declared.cpu.Cpu.{Cpu}
use Rattle.vm_state.specs.declared.drive.Drive.{Drive}
use Rattle.vm_state.specs.declared.image.DiskImage.{DiskImage}
use Rattle.vm_state.specs.declared.start.Origin.{Origin}
use Rattle.vm_state.specs.declared.start.Origin.TheVariants.{Flat, Saved}
use Rattle.vm_state.specs.declared.start.Start.{Start}
use Rattle.vm_state.specs.Script.{is_allowed}
use Rattle.vm_state.specs.Machine.{MachineState, all_frozen, cpu_count, ctx_from, no_drive, unstarted_cpu}
use Rattle.vm_state.specs.Requests.{capacity_of, none_busy}
use Rattle.vm_state.specs.State.{State, empty_seat, page_count}
use Rattle.vm_state.specs.Sound.{IsMachine}

-- ---- from which starts a run can begin

-- a disk has whole sectors of 512 bytes, up to 64 MiB
pub record IsDisk (bytes : List ℕ) : Type 0 where
  pub some : 512 ≤ length bytes
  pub most : length bytes ≤ 67108864
  pub whole : length bytes % 512 ≡ 0

-- a disk has from 1 to 8 workers
pub record IsPlanned (plan : DiskPlan) : Type 0 where
  pub some_worker : 1 ≤ plan.workers
  pub workers : plan.workers ≤ 8

-- what is read past the last planned disk
abbrev pub no_plan : DiskPlan
no_plan = record { path = []; ro = true; workers = 0 }

-- 1 to 16 vCPUs, from 1 MiB to 1 GiB of memory in whole pages, and at most 8 disks
pub record IsPlan (plan : Plan) : Type 0 where
  pub some_cpu : 1 ≤ plan.cpus
  pub cpus : plan.cpus ≤ 16
  pub memory : IsSize plan.memory
  pub disks : length plan.disks ≤ 8
  pub each_disk : All IsPlanned plan.disks

-- a drive is the planned one, and holds the disk
pub record IsDriveOf (plan : DiskPlan) (bytes : List ℕ) (drive : Drive) : Type 0 where
  pub ro : drive.ro ≡ plan.ro
  pub workers : drive.workers ≡ plan.workers
  pub holds : drive.bytes ≡ bytes

pub record AreDrivesOf (plans : List DiskPlan) (disks : List (List ℕ)) (drives : List Drive) : Type 0 where
  pub count : length drives ≡ length plans
  pub each : (d : ℕ) → d < length drives → IsDriveOf (slice_index_or plans d no_plan) (slice_index_or disks d []) (slice_index_or drives d no_drive)

-- a machine that was saved: every vCPU frozen by control, a pause wished, and nothing under way; and it is the planned one
pub record IsSaved (plan : Plan) (disks : List (List ℕ)) (m : MachineState) : Type 0 where
  pub sound : IsMachine m
  pub cpus : cpu_count m ≡ plan.cpus
  pub memory : length m.ram.bytes ≡ plan.memory
  pub drives : AreDrivesOf plan.disks disks m.drives
  pub frozen : all_frozen m ≡ true
  pub pause : m.pause ≡ true
  pub meet : m.meet ≡ None
  pub at_rest : none_busy m ≡ true

abbrev pub OriginFits : Plan → List (List ℕ) → Origin → Type 0
OriginFits plan disks (Flat image) = IsAllowed plan.memory image
OriginFits plan disks (Saved m) = IsSaved plan disks m.state

pub record IsSound (start : Start) : Type 0 where
  pub plan : IsPlan start.plan
  pub disks : length start.disks ≡ length start.plan.disks
  pub each_disk : All IsDisk start.disks
  pub origin : OriginFits start.plan start.disks start.origin
  pub script : is_allowed start.plan start.script ≡ true
  pub some_limit : 1 ≤ start.limit
  pub limit : start.limit ≤ 20000000

-- ---- the first state

-- vCPU 0 is started at the entry, and the others aren't started
abbrev pub first_cpu : ℕ → Cpu
first_cpu entry = record (unstarted_cpu 0) { ctx = ctx_from entry; started = true }

abbrev pub boot_cpus : ℕ → ℕ → List Cpu
boot_cpus count entry = first_cpu entry ∷ map unstarted_cpu (range_with_len 1 (count - 1))

-- a drive at reset
abbrev pub boot_drive : DiskPlan → List ℕ → Drive
boot_drive plan bytes = record { ro = plan.ro; workers = plan.workers; window = window.at_start (capacity_of bytes) plan.ro; queue = empty 0; bytes = bytes }

abbrev pub planned_drive : List DiskPlan → List (List ℕ) → ℕ → Drive
planned_drive plans disks d = boot_drive (slice_index_or plans d no_plan) (slice_index_or disks d [])

abbrev pub boot_drives : List DiskPlan → List (List ℕ) → List Drive
boot_drives plans disks = map (planned_drive plans disks) (range_with_len 0 (length plans))

-- an image begins as the disk, at home and without doubt
abbrev pub boot_image : List ℕ → DiskImage
boot_image bytes = record { bytes = bytes; doubt = replicate (capacity_of bytes) false; holder = None; finished = 0; cancelled = 0 }

-- a flat image is loaded into a machine in which all else is at reset and every vCPU idle; a saved machine is as it was
abbrev pub boot_machine : Plan → List (List ℕ) → Origin → MachineState
boot_machine plan disks (Flat image) = record {
  cpus = boot_cpus plan.cpus image.entry;
  ram = loaded plan.memory image;
  ioapic = ioapic.at_start;
  uart = uart.at_start;
  drives = boot_drives plan.disks disks;
  pause = false;
  meet = None;
  timers = replicate 16 0;
}
boot_machine plan disks (Saved m) = m.state

-- a saved machine is let go on before its script
abbrev pub first_orders : Origin → List Order
first_orders (Flat image) = []
first_orders (Saved m) = Resume ∷ []

abbrev pub boot_script : Origin → List Order → List Order
boot_script origin script = first_orders origin ++ script

-- the run on a machine: no instruction executed, no page of the code stored into, and no order done
unfoldable pub first_state : MachineState → List (List ℕ) → List Order → ℕ → State
first_state m disks script limit = record {
  machine = m;
  seats = replicate (cpu_count m) empty_seat;
  images = map boot_image disks;
  versions = replicate (page_count m.ram.code) 0;
  executed = 0;
  seen = 0;
  limit = limit;
  entries = 0;
  script = script;
  place = 0;
  begun = false;
  input = [];
  answers = [];
  samples = [];
  console = [];
  ended = None;
  closed = false;
}

abbrev pub boot : Start → State
boot start = first_state (boot_machine start.plan start.disks start.origin) start.disks (boot_script start.origin start.script) start.limit
