-- Messages, lines and accesses leave of each drive whether it is read-only.
use Rattle.std.specs.Prelude.{Option, Some, None, if◌then◌else◌, ◌==◌, map}
use Rattle.std.specs.Option.{option_to_list}
use Rattle.std.proofs.Common.{◌≡◌, ℕ, Bool, true, false, List, length, refl, ap, ◌∙◌}
use Rattle.std.proofs.Math.Seq.{map-set_same}
use Rattle.vm_law.specs.declared.insn.Width.{Width}
use Rattle.vm_law.specs.declared.message.Message.{Message}
use Rattle.vm_bus.specs.declared.area.Area.{Area}
use Rattle.vm_bus.specs.declared.area.Area.TheVariants as area
use Rattle.vm_lapic.specs.Window.{offset_of}
use Rattle.vm_lapic.specs.Window as lapic
use Rattle.vm_lapic.specs.declared.effect.LapicEffect.{LapicEffect}
use Rattle.vm_lapic.specs.declared.effect.LapicEffect.TheVariants as lapic_effect
use Rattle.vm_lapic.specs.declared.register.Register.TheVariants.{InitialCount}
use Rattle.vm_ioapic.specs.Ioapic.{selected, raised, raise_message, after_eoi, eoi_messages, after_write, change}
use Rattle.vm_uart.specs.Uart as uart
use Rattle.vm_vblk.specs.Window as window
use Rattle.vm_vblk.specs.Register.{register_at}
use Rattle.vm_vblk.specs.declared.pulled.WindowEffect.{WindowEffect}
use Rattle.vm_vblk.specs.declared.pulled.WindowEffect.TheVariants as effect
use Rattle.vm_state.specs.declared.cpu.Cpu.{Cpu}
use Rattle.vm_state.specs.declared.drive.Drive.{Drive}
use Rattle.vm_state.specs.Machine.{MachineState, cpu_at, drive_at, drive_pin, is_drive, no_drive, uart_pin, with_cpu, with_drive}
use Rattle.vm_state.specs.State.{State, lag_of, with_machine}
use Rattle.vm_devices.specs.Messages.{all_sent, level_ended, pin_followed, pin_lowered, pin_raised, sent}
use Rattle.vm_devices.specs.Ports.{offset_of as port_offset, port_read, port_written, read_at, with_serial, written_at}
use Rattle.vm_devices.specs.Timers.{armed, fired_below, ticked}
use Rattle.vm_devices.specs.Windows.{drive_written, ioapic_written, lapic_followed, lapic_kept, lapic_written, queue_emptied, register_followed, register_written, reroutes, routing_opened, window_written, with_window}
use Rattle.vm_devices.proofs.Same.{Same, all_same, fired_below_same, sent_same}

abbrev pub ros_at : List Drive → List Bool
ros_at drives = map (λ (x : Drive). x.ro) drives

pub record SameParts (m n : MachineState) : Type 0 where
  pub ro : ros_at n.drives ≡ ros_at m.drives

pub same_parts : (m : MachineState) → SameParts m m
same_parts m = record { ro = refl }

pub then_parts : (m n o : MachineState) → SameParts m n → SameParts n o → SameParts m o
then_parts m n o a b = record { ro = b.ro ∙ a.ro }

pub cpu_parts : (m : MachineState) (i : ℕ) (c : Cpu) → SameParts m (with_cpu m i c)
cpu_parts m i c = record { ro = refl }

pub drive_parts : (m : MachineState) (d : ℕ) (x : Drive) → x.ro ≡ (drive_at m d).ro → SameParts m (with_drive m d x)
drive_parts m d x e = record { ro = map-set_same (λ (y : Drive). y.ro) m.drives d x no_drive e }

-- messages
pub told_parts : (m n : MachineState) → Same m n → SameParts m n
told_parts m n h = record { ro = ap (λ (x : MachineState). ros_at x.drives) h.rest }

raised_parts : (m : MachineState) (pin : ℕ) → SameParts m (pin_raised m pin)
unfolding pin_raised
raised_parts m pin =
    let next : MachineState = record m { ioapic = raised m.ioapic pin } in
    let k = told_parts next (all_sent next (option_to_list (raise_message m.ioapic pin))) (all_same next (option_to_list (raise_message m.ioapic pin))) in record { ro = k.ro }

pub followed_parts : (m : MachineState) (pin : ℕ) (was now : Bool) → SameParts m (pin_followed m pin was now)
unfolding pin_followed pin_lowered
followed_parts m pin false false = same_parts m
followed_parts m pin false true = raised_parts m pin
followed_parts m pin true false = record { ro = refl }
followed_parts m pin true true = same_parts m

-- ---- ports

pub serial_parts : (m : MachineState) (u : uart.Serial) → SameParts m (with_serial m u)
unfolding with_serial
serial_parts m u = let k = followed_parts (record m { uart = u }) uart_pin (uart.line m.uart) (uart.line u) in record { ro = k.ro }

read_parts : (m : MachineState) (o : Option ℕ) → SameParts m (read_at m o)
read_parts m None = same_parts m
read_parts m (Some offset) = serial_parts m (uart.after_read m.uart (uart.selected m.uart offset))

pub port_read_parts : (m : MachineState) (port : ℕ) (w : Width) → SameParts m (port_read m port w)
unfolding port_read
port_read_parts m port w = read_parts m (port_offset port w)

written_parts : (m : MachineState) (o : Option ℕ) (value : ℕ) → SameParts m (written_at m o value)
written_parts m None value = same_parts m
written_parts m (Some offset) value = serial_parts m _

pub port_written_parts : (m : MachineState) (port : ℕ) (w : Width) (value : ℕ) → SameParts m (port_written m port w value)
unfolding port_written
port_written_parts m port w value = written_parts m (port_offset port w) value

-- ---- windows

level_parts : (m : MachineState) (v : ℕ) (b : Bool) → SameParts m (if b then level_ended m v else m)
unfolding level_ended
level_parts m v false = same_parts m
level_parts m v true =
    let next : MachineState = record m { ioapic = after_eoi m.ioapic v } in
    let k = told_parts next (all_sent next (eoi_messages m.ioapic v)) (all_same next (eoi_messages m.ioapic v)) in record { ro = k.ro }

effect_parts : (m : MachineState) (e : LapicEffect) → SameParts m (lapic_followed m e)
effect_parts m lapic_effect.Nothing = same_parts m
effect_parts m (lapic_effect.Send x) = told_parts m (sent m x) (sent_same m x)
effect_parts m (lapic_effect.Eoi v level) = level_parts m v level

armed_parts : (b : Bool) (m : MachineState) (i lag : ℕ) → SameParts m (if b then armed m i lag else m)
unfolding armed
armed_parts true m i lag = record { ro = refl }
armed_parts false m i lag = same_parts m

lapic_parts : (m : MachineState) (i lag offset value : ℕ) → SameParts m (lapic_written m i lag offset value)
unfolding lapic_written
lapic_parts m i lag offset value =
    let c : Cpu = record (cpu_at m i) { lapic = lapic.written (cpu_at m i).lapic offset value } in
    let kept = lapic_kept m i lag offset value in
    then_parts m kept (lapic_followed kept (lapic.effect_of (cpu_at m i).lapic offset value))
    (then_parts m (with_cpu m i c) kept (cpu_parts m i c) (armed_parts (offset == offset_of InitialCount) (with_cpu m i c) i lag))
    (effect_parts kept (lapic.effect_of (cpu_at m i).lapic offset value))

opened_parts : (b : Bool) (m : MachineState) (p : ℕ) → SameParts m (if b then routing_opened m p else m)
opened_parts true m p = record { ro = refl }
opened_parts false m p = same_parts m

ioapic_parts : (m : MachineState) (p offset value : ℕ) → SameParts m (ioapic_written m p offset value)
unfolding ioapic_written
ioapic_parts m p offset value =
    let next : MachineState = record m { ioapic = after_write m.ioapic (selected m.ioapic offset) value } in
    let messages : List Message = option_to_list (change m.ioapic (selected m.ioapic offset) value).message in
    let k = told_parts next (all_sent next messages) (all_same next messages) in
    let o = opened_parts (reroutes m offset value) (all_sent next messages) p in record { ro = o.ro ∙ k.ro }

pub window_parts : (m : MachineState) (d : ℕ) (x : Drive) → x.ro ≡ (drive_at m d).ro → SameParts m (with_window m d x)
unfolding with_window
window_parts m d x e =
    then_parts m (with_drive m d x) (pin_followed (with_drive m d x) (drive_pin d) (window.line (drive_at m d).window) (window.line x.window))
    (drive_parts m d x e) (followed_parts (with_drive m d x) (drive_pin d) (window.line (drive_at m d).window) (window.line x.window))

-- ---- of a run

pub record SamePlan (s t : State) : Type 0 where
  pub parts : SameParts s.machine t.machine

pub same_plan : (s : State) → SamePlan s s
same_plan s = record { parts = same_parts s.machine }

pub then_plan : (s t u : State) → SamePlan s t → SamePlan t u → SamePlan s u
then_plan s t u a b = record {
  parts = then_parts s.machine t.machine u.machine a.parts b.parts;
}

pub machine_plan : (s : State) (m : MachineState) → SameParts s.machine m → SamePlan s (with_machine s m)
machine_plan s m k = record { parts = k }

register_plan : (s : State) (d : ℕ) (x : Drive) (e : WindowEffect) → x.ro ≡ (drive_at s.machine d).ro → SamePlan s (register_followed s d x e)
register_plan s d x effect.Nothing e = machine_plan s _ (window_parts s.machine d x e)
register_plan s d x effect.Reset e = record { parts = window_parts s.machine d (queue_emptied x) e }

drive_if : (s : State) (d : ℕ) (x : Drive) (e : WindowEffect) (b : Bool) → x.ro ≡ (drive_at s.machine d).ro → SamePlan s (if b then register_followed s d x e else s)
drive_if s d x e true w = register_plan s d x e w
drive_if s d x e false w = same_plan s

drive_written_plan : (s : State) (d offset value : ℕ) → SamePlan s (drive_written s d offset value)
unfolding drive_written
drive_written_plan s d offset value =
    drive_if s d (register_written s.machine d offset value) (window.effect_of (register_at offset) value) (is_drive s.machine d) refl

pub window_plan : (s : State) (p i : ℕ) (a : Area) (value : ℕ) → SamePlan s (window_written s p i a value)
unfolding window_written
window_plan s p i (area.Lapic offset) value = machine_plan s _ (lapic_parts s.machine i (lag_of s) offset value)
window_plan s p i (area.Ioapic offset) value = machine_plan s _ (ioapic_parts s.machine p offset value)
window_plan s p i (area.Disk d offset) value = drive_written_plan s d offset value
window_plan s p i a value = same_plan s

-- ---- timers

pub ticked_parts : (m : MachineState) (n : ℕ) → SameParts m (ticked m n)
unfolding ticked
ticked_parts m n = let k = told_parts m (fired_below m n (length m.cpus)) (fired_below_same m n (length m.cpus)) in record { ro = k.ro }
