-- What an access of 32 bits to a device's window does. i is the vCPU, p its pass, and lag how many instructions were
-- executed since the timers moved on last.
-- Source: Intel SDM volume 3, section 10.4.1; Intel's 82093AA, section 3.0; OASIS virtio 1.2, section 4.2.2.
use Rattle.std.specs.Prelude.{ℕ, ◌+◌, Bool, false, ◌==◌, Some, count_by, if◌then◌else◌}
use Rattle.std.specs.Option.{option_to_list}
use Rattle.vm_law.specs.declared.stage.MeetKind.TheVariants.{Routing}
use Rattle.vm_bus.specs.declared.area.Area.{Area}
use Rattle.vm_bus.specs.declared.area.Area.TheVariants as area
use Rattle.vm_lapic.specs.declared.effect.LapicEffect.{LapicEffect}
use Rattle.vm_lapic.specs.declared.effect.LapicEffect.TheVariants as lapic
use Rattle.vm_lapic.specs.declared.register.Register.TheVariants.{InitialCount, CurrentCount}
use Rattle.vm_lapic.specs.Window.{offset_of, read_of, written, effect_of}
use Rattle.vm_ioapic.specs.Ioapic.{selected, value_read, after_write, change}
use Rattle.vm_vblk.specs.declared.pulled.WindowEffect.{WindowEffect}
use Rattle.vm_vblk.specs.declared.pulled.WindowEffect.TheVariants as effect
use Rattle.vm_vblk.specs.Register.{register_at}
use Rattle.vm_vblk.specs.Window as window
use Rattle.blk_queue.specs.Progress.{is_waiting}
use Rattle.blk_queue.specs.Steps.{emptied}
use Rattle.vm_meet.specs.Meeting.{opened}
use Rattle.vm_state.specs.declared.drive.Drive.{Drive}
use Rattle.vm_state.specs.declared.image.DiskImage.{DiskImage}
use Rattle.vm_state.specs.Machine.{MachineState, cpu_at, with_cpu, drive_at, with_drive, is_drive, drive_pin, started_cpus}
use Rattle.vm_state.specs.State.{State, image_at, lag_of, with_image, with_machine}
use Rattle.vm_devices.specs.Messages.{sent, all_sent, pin_followed, level_ended}
use Rattle.vm_devices.specs.Timers.{armed, current_count}

-- ---- the local APIC of vCPU i

-- the machine keeps the timer and answers its current count; the APIC answers all else
unfoldable pub lapic_value : MachineState → ℕ → ℕ → ℕ → ℕ
lapic_value m i lag offset = if offset == offset_of CurrentCount then current_count m i lag else read_of (cpu_at m i).lapic offset

-- what a write does beyond the APIC: a message goes out, or the I/O APIC hears of a level-triggered interrupt's end
abbrev pub lapic_followed : MachineState → LapicEffect → MachineState
lapic_followed m lapic.Nothing = m
lapic_followed m (lapic.Send x) = sent m x
lapic_followed m (lapic.Eoi v level) = if level then level_ended m v else m

-- the register is written, and the timer follows a write of its initial count
abbrev pub lapic_kept : MachineState → ℕ → ℕ → ℕ → ℕ → MachineState
lapic_kept m i lag offset value =
    let next = with_cpu m i (record (cpu_at m i) { lapic = written (cpu_at m i).lapic offset value }) in
    if offset == offset_of InitialCount then armed next i lag else next

unfoldable pub lapic_written : MachineState → ℕ → ℕ → ℕ → ℕ → MachineState
lapic_written m i lag offset value = lapic_followed (lapic_kept m i lag offset value) (effect_of (cpu_at m i).lapic offset value)

-- ---- the I/O APIC

-- a write changes the routing
unfoldable pub reroutes : MachineState → ℕ → ℕ → Bool
reroutes m offset value = (change m.ioapic (selected m.ioapic offset) value).routing

-- a rendezvous of all started vCPUs opens, for the trigger modes
abbrev pub routing_opened : MachineState → ℕ → MachineState
routing_opened m p = record m { meet = Some (opened Routing p (started_cpus m)) }

unfoldable pub ioapic_written : MachineState → ℕ → ℕ → ℕ → MachineState
ioapic_written m p offset value =
    let register = selected m.ioapic offset in
    let next = all_sent (record m { ioapic = after_write m.ioapic register value }) (option_to_list (change m.ioapic register value).message) in
    if reroutes m offset value then routing_opened next p else next

-- ---- a drive; the window of one that the machine doesn't have reads 0 and ignores writes

-- a drive in another state; its pin follows its line
unfoldable pub with_window : MachineState → ℕ → Drive → MachineState
with_window m d drive = pin_followed (with_drive m d drive) (drive_pin d) (window.line (drive_at m d).window) (window.line drive.window)

unfoldable pub drive_value : MachineState → ℕ → ℕ → ℕ
drive_value m d offset = if is_drive m d then window.value_read (drive_at m d).window (register_at offset) else 0

abbrev pub register_written : MachineState → ℕ → ℕ → ℕ → Drive
register_written m d offset value =
    record (drive_at m d) { window = window.after_write m.ram (drive_at m d).window (register_at offset) value }

-- a reset cancels the requests that wait and drops those that a worker has
abbrev pub queue_emptied : Drive → Drive
queue_emptied drive = record drive { queue = emptied drive.queue }

abbrev pub cancels_counted : DiskImage → Drive → DiskImage
cancels_counted image drive = record image { cancelled = image.cancelled + count_by is_waiting drive.queue.requests }

-- the queue of drive d is emptied, and the cancelled requests are counted
abbrev pub queue_reset : State → ℕ → State
queue_reset s d =
    with_image (with_machine s (with_drive s.machine d (queue_emptied (drive_at s.machine d)))) d (cancels_counted (image_at s d) (drive_at s.machine d))

abbrev pub register_followed : State → ℕ → Drive → WindowEffect → State
register_followed s d drive effect.Nothing = with_machine s (with_window s.machine d drive)
register_followed s d drive effect.Reset =
    with_image (with_machine s (with_window s.machine d (queue_emptied drive))) d (cancels_counted (image_at s d) drive)

unfoldable pub drive_written : State → ℕ → ℕ → ℕ → State
drive_written s d offset value =
    if is_drive s.machine d then
    register_followed s d (register_written s.machine d offset value) (window.effect_of (register_at offset) value)
    else s

-- ---- a window, by what stands there

unfoldable pub window_value : State → ℕ → Area → ℕ
window_value s i (area.Lapic offset) = lapic_value s.machine i (lag_of s) offset
window_value s i (area.Ioapic offset) = value_read s.machine.ioapic (selected s.machine.ioapic offset)
window_value s i (area.Disk d offset) = drive_value s.machine d offset
window_value s i a = 0

unfoldable pub window_written : State → ℕ → ℕ → Area → ℕ → State
window_written s p i (area.Lapic offset) value = with_machine s (lapic_written s.machine i (lag_of s) offset value)
window_written s p i (area.Ioapic offset) value = with_machine s (ioapic_written s.machine p offset value)
window_written s p i (area.Disk d offset) value = drive_written s d offset value
window_written s p i a value = s

-- a write to the window changes the routing
unfoldable pub is_routing_write : State → Area → ℕ → Bool
is_routing_write s (area.Ioapic offset) value = reroutes s.machine offset value
is_routing_write s a value = false
