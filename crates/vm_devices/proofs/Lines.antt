-- How often the devices' pins are asserted.
use Rattle.std.specs.Prelude.{if◌then◌else◌, ◌==◌}
use Rattle.std.proofs.Common.{◌≡◌, ℕ, zero, suc, ◌+◌, ◌-◌, ◌<◌, ◌≤◌, Bool, true, false, List, [], ◌∷◌, length, get_or, refl, ap, arith, ◌∙◌}
use Rattle.std.proofs.lemmas.Bool.Decides.{nat_tests}
use Rattle.std.proofs.lemmas.Grind.{common_steps}
use Rattle.std.proofs.lemmas.List.{get_or-set_same, set-set}
use Rattle.std.proofs.Math.ListN.{length-set}
use Rattle.vm_ioapic.specs.Ioapic.{pin_at}
use Rattle.vm_uart.specs.Uart.{line}
use Rattle.vm_vblk.specs.Window.{line as window_line}
use Rattle.vm_state.specs.declared.drive.Drive.{Drive}
use Rattle.vm_state.specs.Machine.{MachineState, drive_at, drive_count, drive_pin, uart_pin, no_drive}
use Rattle.vm_state.specs.Sound.{IsMachine, number_of, drive_line, line_of}

pub serial_count : (m : MachineState) → IsMachine m → (pin_at m.ioapic uart_pin).count ≡ number_of (line m.uart)
serial_count m h = h.pins uart_pin (omega arith)

not_zero : (d : ℕ) → (suc d == 0) ≡ false
not_zero d = grind (arith, nat_tests)

less_one : (d : ℕ) → suc d - 1 ≡ d
less_one d = omega arith

pub line_suc : (x : Drive) (xs : List Drive) (d : ℕ) → drive_line (x ∷ xs) (suc d) ≡ drive_line xs d
line_suc x xs d =
    ap (λ (b : Bool). if b then number_of (window_line x.window) else drive_line xs (suc d - 1)) (not_zero d)
    ∙ ap (λ (j : ℕ). drive_line xs j) (less_one d)

line_there : (xs : List Drive) (d : ℕ) → d < length xs → drive_line xs d ≡ number_of (window_line (get_or xs d no_drive).window)
line_there [] d within = absurd (omega arith)
line_there (x ∷ xs) zero within = refl
line_there (x ∷ xs) (suc d) within = line_suc x xs d ∙ line_there xs d (omega arith)

drive_line_at : (m : MachineState) (d : ℕ) → d < 16 → line_of m (drive_pin d) ≡ drive_line m.drives d
drive_line_at m d few =
    let e : drive_pin d - 16 ≡ d = omega arith in
    grind (arith, nat_tests, common_steps)

pub drive_count_is : (m : MachineState) (d : ℕ) → IsMachine m → d < drive_count m → (pin_at m.ioapic (drive_pin d)).count ≡ number_of (window_line (drive_at m d).window)
drive_count_is m d h within =
    let few : drive_count m ≤ 8 = h.drives in
    h.pins (drive_pin d) (omega arith) ∙ drive_line_at m d (omega arith) ∙ line_there m.drives d within

pub ruleset drive_steps = (drive_count_is, get_or-set_same, set-set, length-set)
