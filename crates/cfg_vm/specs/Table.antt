-- The table of a plan's variables.
use Rattle.std.specs.Prelude.{◌==◌, ◌&&◌, ◌||◌, ◌+◌, not, nat_lt, ℕ, Bool, true, false, List, [], ◌∷◌, map, Option, Some, None, Result, Ok, Err, codes, if◌then◌else◌}
use Rattle.std.specs.Str.{bytes_eq}
use Rattle.std.specs.Map.{lookup}
use Rattle.std.specs.List.{filter}
use Rattle.vm_law.specs.declared.plan.Plan.{Plan}
use Rattle.vm_law.specs.declared.plan.DiskPlan.{DiskPlan}
use Rattle.cfg_vm.specs.declared.error.PlanKind.TheVariants.{Path, Many}
use Rattle.cfg_vm.specs.declared.slot.Slot.{Slot}
use Rattle.cfg_vm.specs.Outcome.{Fault, ◌>>=◌, named}
use Rattle.cfg_vm.specs.Number.{count_or, memory_or, boolean_or}
use Rattle.cfg_vm.specs.Slot.{place, slot_of, slot_name}

-- names with their values, in the order of the names' first lines
abbrev pub Variables : Type 0
Variables = List (List ℕ × List ℕ)

abbrev pub value : Variables → List ℕ → Option (List ℕ)
value vs name = lookup (bytes_eq name) vs

-- ---- files

abbrev pub path_of : List ℕ → Option (List ℕ) → Result (List ℕ) Fault
path_of variable None = named variable (Err Path)
path_of variable (Some []) = named variable (Err Path)
path_of variable (Some (b ∷ bs)) = Ok (b ∷ bs)

abbrev pub file_value : List ℕ → Bool → Option (List ℕ) → Result (Option (List ℕ)) Fault
file_value variable false None = Ok None
file_value variable true None = named variable (Err Path)
file_value variable is_needed (Some text) = path_of variable (Some text) >>= (λ path. Ok (Some path))

abbrev pub file_of : Variables → List ℕ → Bool → Result (Option (List ℕ)) Fault
file_of vs variable is_needed = file_value variable is_needed (value vs variable)

-- ---- disks

abbrev pub disk_at_part : List ℕ → Option (Slot × List ℕ) → Option Slot
disk_at_part device None = None
disk_at_part device (Some p) = if bytes_eq p.1 (codes "device") && bytes_eq device (codes "virtio-blk") then Some p.0 else None

-- the place of the disk whose device this variable is
abbrev pub disk_at : List ℕ × List ℕ → Option Slot
disk_at v = disk_at_part v.1 (slot_of v.0)

-- a place among places in ascending order
abbrev pub put_slot : Slot → List Slot → List Slot
put_slot new [] = new ∷ []
put_slot new (s ∷ ss) = if nat_lt (place new) (place s) then new ∷ s ∷ ss else s ∷ put_slot new ss

abbrev pub put_disk : Option Slot → List Slot → List Slot
put_disk None ss = ss
put_disk (Some new) ss = put_slot new ss

abbrev pub slots_with : List Slot → Variables → List Slot
slots_with ss [] = ss
slots_with ss (v ∷ vs) = slots_with (put_disk (disk_at v) ss) vs

-- the places of all disks in ascending order
abbrev pub disk_slots : Variables → List Slot
disk_slots vs = slots_with [] vs

abbrev pub disk_of : Variables → Slot → Result DiskPlan Fault
disk_of vs s = do
  path ← path_of (slot_name s (codes "path")) (value vs (slot_name s (codes "path")))
  ro ← named (slot_name s (codes "ro")) (boolean_or (value vs (slot_name s (codes "ro"))))
  workers ← named (slot_name s (codes "workers")) (count_or 2 8 (value vs (slot_name s (codes "workers"))))
  Ok (record { path = path; ro = ro; workers = workers })

-- a disk before which there are `count`: the ninth is refused
abbrev pub next_disk : Variables → ℕ → Slot → Result DiskPlan Fault
next_disk vs count s = if count == 8 then named (slot_name s (codes "device")) (Err Many) else disk_of vs s

-- the disks at these places, before which there are `count`
abbrev pub disks_from : Variables → ℕ → List Slot → Result (List DiskPlan) Fault
disks_from vs count [] = Ok []
disks_from vs count (s ∷ ss) = next_disk vs count s >>= (λ disk. disks_from vs (count + 1) ss >>= (λ disks. Ok (disk ∷ disks)))

abbrev pub disks_of : Variables → Result (List DiskPlan) Fault
disks_of vs = disks_from vs 0 (disk_slots vs)

-- ---- what is built

abbrev pub is_value : List ℕ → Option (List ℕ) → Bool
is_value text None = false
is_value text (Some v) = bytes_eq v text

abbrev pub is_disk : Variables → Slot → Bool
is_disk vs s = is_value (codes "virtio-blk") (value vs (slot_name s (codes "device")))

abbrev pub is_built_name : List ℕ → List ℕ → Bool
is_built_name name v =
    if bytes_eq name (codes "lpc.com1.path") then bytes_eq v (codes "stdio")
    else bytes_eq name (codes "cpus") || bytes_eq name (codes "memory.size") || bytes_eq name (codes "name") || bytes_eq name (codes "flat.image") || bytes_eq name (codes "flat.script")

abbrev pub is_built_part : Variables → List ℕ × List ℕ → Option (Slot × List ℕ) → Bool
is_built_part vs v None = is_built_name v.0 v.1
is_built_part vs v (Some p) =
    if bytes_eq p.1 (codes "device") then bytes_eq v.1 (codes "virtio-blk") || bytes_eq v.1 (codes "hostbridge") || bytes_eq v.1 (codes "lpc")
    else if bytes_eq p.1 (codes "path") || bytes_eq p.1 (codes "ro") || bytes_eq p.1 (codes "workers") then is_disk vs p.0
    else false

-- a variable is built, or accepted silently
abbrev pub is_built : Variables → List ℕ × List ℕ → Bool
is_built vs v = is_built_part vs v (slot_of v.0)

-- the names of the others, in the order of their first lines
abbrev pub notbuilt_among : Variables → Variables → List (List ℕ)
notbuilt_among vs some = map (λ v. v.0) (filter (λ v. not (is_built vs v)) some)

abbrev pub notbuilt_of : Variables → List (List ℕ)
notbuilt_of vs = notbuilt_among vs vs

-- ---- the plan

abbrev pub text_or_empty : Option (List ℕ) → List ℕ
text_or_empty None = []
text_or_empty (Some text) = text

abbrev pub name_or : Variables → List ℕ
name_or vs = text_or_empty (value vs (codes "name"))

abbrev pub plan_of : Variables → Bool → Result Plan Fault
plan_of vs restore = do
  cpus ← named (codes "cpus") (count_or 1 16 (value vs (codes "cpus")))
  memory ← named (codes "memory.size") (memory_or (value vs (codes "memory.size")))
  disks ← disks_of vs
  image ← file_of vs (codes "flat.image") (not restore)
  script ← file_of vs (codes "flat.script") false
  Ok (record { cpus = cpus; memory = memory; name = name_or vs; image = image; script = script; disks = disks; notbuilt = notbuilt_of vs })
