-- Accesses leave how many vCPUs there are, and the counts of a run.
use Rattle.std.specs.Prelude.{if◌then◌else◌, Option, Some, None}
use Rattle.std.specs.Option.{option_to_list}
use Rattle.std.proofs.Common.{◌≡◌, ℕ, Bool, true, false, length, refl, ◌∙◌}
use Rattle.vm_law.specs.declared.insn.Width.{Width}
use Rattle.vm_bus.specs.declared.area.Area.{Area}
use Rattle.vm_bus.specs.declared.area.Area.TheVariants as area
use Rattle.vm_lapic.specs.declared.effect.LapicEffect.{LapicEffect}
use Rattle.vm_lapic.specs.declared.effect.LapicEffect.TheVariants as lapic
use Rattle.vm_ioapic.specs.Ioapic.{selected, raised, raise_message, after_eoi, eoi_messages, after_write, change}
use Rattle.vm_uart.specs.Uart as uart
use Rattle.vm_vblk.specs.Window as window
use Rattle.vm_vblk.specs.Register.{register_at}
use Rattle.vm_vblk.specs.declared.pulled.WindowEffect.{WindowEffect}
use Rattle.vm_vblk.specs.declared.pulled.WindowEffect.TheVariants as effect
use Rattle.vm_state.specs.declared.drive.Drive.{Drive}
use Rattle.vm_state.specs.Machine.{MachineState, drive_at, drive_pin, is_drive, uart_pin, with_drive}
use Rattle.vm_state.specs.State.{State, lag_of}
use Rattle.vm_devices.specs.Messages.{pin_raised, pin_lowered, pin_followed, level_ended, all_sent}
use Rattle.vm_devices.specs.Ports.{with_serial, offset_of, read_at, written_at, port_read, port_written}
use Rattle.vm_devices.specs.Windows.{lapic_kept, lapic_followed, lapic_written, ioapic_written, reroutes, routing_opened, with_window, register_written, register_followed, drive_written, window_written}
use Rattle.vm_devices.proofs.Same.{count_sent, count_all, count_kept}

count_followed : (m : MachineState) (n : ℕ) (was now : Bool) → length (pin_followed m n was now).cpus ≡ length m.cpus
unfolding pin_followed pin_raised pin_lowered
count_followed m n false false = refl
count_followed m n false true = count_all (record m { ioapic = raised m.ioapic n }) (option_to_list (raise_message m.ioapic n))
count_followed m n true false = refl
count_followed m n true true = refl

count_serial : (m : MachineState) (u : uart.Serial) → length (with_serial m u).cpus ≡ length m.cpus
unfolding with_serial
count_serial m u = count_followed (record m { uart = u }) uart_pin (uart.line m.uart) (uart.line u)

read_count : (m : MachineState) (o : Option ℕ) → length (read_at m o).cpus ≡ length m.cpus
read_count m None = refl
read_count m (Some offset) = count_serial m _

write_count : (m : MachineState) (o : Option ℕ) (value : ℕ) → length (written_at m o value).cpus ≡ length m.cpus
write_count m None value = refl
write_count m (Some offset) value = count_serial m _

pub count_read : (m : MachineState) (port : ℕ) (w : Width) → length (port_read m port w).cpus ≡ length m.cpus
unfolding port_read
count_read m port w = read_count m (offset_of port w)

pub count_written : (m : MachineState) (port : ℕ) (w : Width) (value : ℕ) → length (port_written m port w value).cpus ≡ length m.cpus
unfolding port_written
count_written m port w value = write_count m (offset_of port w) value

pub ruleset port_counts = (count_read, count_written)

count_level : (m : MachineState) (v : ℕ) → length (level_ended m v).cpus ≡ length m.cpus
unfolding level_ended
count_level m v = count_all (record m { ioapic = after_eoi m.ioapic v }) (eoi_messages m.ioapic v)

count_effect : (m : MachineState) (e : LapicEffect) → length (lapic_followed m e).cpus ≡ length m.cpus
count_effect m lapic.Nothing = refl
count_effect m (lapic.Send x) = count_sent m x
count_effect m (lapic.Eoi v true) = count_level m v
count_effect m (lapic.Eoi v false) = refl

count_lapic : (m : MachineState) (i lag offset value : ℕ) → length (lapic_written m i lag offset value).cpus ≡ length m.cpus
unfolding lapic_written
count_lapic m i lag offset value = count_effect (lapic_kept m i lag offset value) _ ∙ count_kept m i lag offset value

count_opened : (b : Bool) (m : MachineState) (p : ℕ) → length (if b then routing_opened m p else m).cpus ≡ length m.cpus
count_opened true m p = refl
count_opened false m p = refl

count_ioapic : (m : MachineState) (p offset value : ℕ) → length (ioapic_written m p offset value).cpus ≡ length m.cpus
unfolding ioapic_written
count_ioapic m p offset value =
    count_opened (reroutes m offset value) (all_sent (record m { ioapic = after_write m.ioapic (selected m.ioapic offset) value }) (option_to_list (change m.ioapic (selected m.ioapic offset) value).message)) p
    ∙ count_all (record m { ioapic = after_write m.ioapic (selected m.ioapic offset) value }) (option_to_list (change m.ioapic (selected m.ioapic offset) value).message)

count_window : (m : MachineState) (d : ℕ) (x : Drive) → length (with_window m d x).cpus ≡ length m.cpus
unfolding with_window
count_window m d x = count_followed (with_drive m d x) (drive_pin d) (window.line (drive_at m d).window) (window.line x.window)

-- what an access to a window leaves of a run
pub record Leaves (s t : State) : Type 0 where
  pub cpus : length t.machine.cpus ≡ length s.machine.cpus
  pub seats : t.seats ≡ s.seats
  pub executed : t.executed ≡ s.executed

leaves_register : (s : State) (d : ℕ) (x : Drive) (e : WindowEffect) → Leaves s (register_followed s d x e)
leaves_register s d x effect.Nothing = record { cpus = count_window s.machine d x; seats = refl; executed = refl }
leaves_register s d x effect.Reset = record { cpus = count_window s.machine d _; seats = refl; executed = refl }

leaves_if : (s : State) (d : ℕ) (x : Drive) (e : WindowEffect) (b : Bool) → Leaves s (if b then register_followed s d x e else s)
leaves_if s d x e true = leaves_register s d x e
leaves_if s d x e false = record { cpus = refl; seats = refl; executed = refl }

leaves_drive : (s : State) (d offset value : ℕ) → Leaves s (drive_written s d offset value)
unfolding drive_written
leaves_drive s d offset value = leaves_if s d (register_written s.machine d offset value) (window.effect_of (register_at offset) value) (is_drive s.machine d)

pub window_leaves : (s : State) (p i : ℕ) (a : Area) (value : ℕ) → Leaves s (window_written s p i a value)
unfolding window_written
window_leaves s p i (area.Lapic offset) value = record { cpus = count_lapic s.machine i (lag_of s) offset value; seats = refl; executed = refl }
window_leaves s p i (area.Ioapic offset) value = record { cpus = count_ioapic s.machine p offset value; seats = refl; executed = refl }
window_leaves s p i (area.Disk d offset) value = leaves_drive s d offset value
window_leaves s p i _ value = record { cpus = refl; seats = refl; executed = refl }
