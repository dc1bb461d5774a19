-- What holds of every machine is kept where a device changes and its pin follows its line.
use Rattle.std.specs.Prelude.{if◌then◌else◌, ◌==◌}
use Rattle.std.specs.Option.{option_to_list}
use Rattle.std.proofs.Common.{◌≡◌, ℕ, zero, suc, ◌+◌, ◌-◌, ◌<◌, ◌≤◌, Bool, true, false, List, [], ◌∷◌, length, get_or, set, map, refl, sym, ap, subst, arith, inl, inr, ◌∙◌}
use Rattle.std.proofs.Math.ListN.{length-set}
use Rattle.std.proofs.lemmas.Bool.{cases_eq}
use Rattle.std.proofs.lemmas.Bool.Decides.{nat_tests}
use Rattle.std.proofs.lemmas.List.{get_or-set_other, length-map}
use Rattle.std.proofs.lemmas.Grind.{common_steps, get_or-set_at}
use Rattle.vm_ioapic.specs.Ioapic.{Chip, IsChip, pin_at, with_pin, raised, lowered, raise_message, after_eoi, eoi_messages}
use Rattle.vm_ioapic.specs.Pin as pin
use Rattle.vm_ioapic.specs.declared.pin.Pin.{Pin}
use Rattle.vm_ioapic.proofs.Sound.{chip_set, raised_ok, lowered_ok, eoi_ok, each_map}
use Rattle.vm_uart.specs.Uart.{Serial, line}
use Rattle.vm_vblk.specs.Window.{line as window_line}
use Rattle.vm_state.specs.declared.drive.Drive.{Drive}
use Rattle.vm_state.specs.Machine.{MachineState, drive_at, drive_count, drive_pin, uart_pin, no_drive}
use Rattle.vm_state.specs.Sound.{IsMachine, IsSerial, IsDrive, number_of, drive_line, line_of}
use Rattle.vm_devices.specs.Messages.{pin_raised, pin_lowered, pin_followed, level_ended}
use Rattle.vm_devices.specs.Ports.{with_serial}
use Rattle.vm_devices.specs.Windows.{with_window}
use Rattle.vm_devices.proofs.Same.{Same, same_refl, all_same}
use Rattle.vm_devices.proofs.Kept.{keeps_same, keeps_all_sent}
use Rattle.vm_devices.proofs.Lines.{serial_count, drive_count_is, line_suc}

-- ---- the I/O APIC whose pin follows its line

abbrev pub chip_followed : Chip → ℕ → Bool → Bool → Chip
chip_followed c n false false = c
chip_followed c n false true = raised c n
chip_followed c n true false = lowered c n
chip_followed c n true true = c

abbrev pub followed : MachineState → ℕ → Bool → Bool → MachineState
followed m n was now = record m { ioapic = chip_followed m.ioapic n was now }

pub followed_same : (m : MachineState) (n : ℕ) (was now : Bool) → Same (followed m n was now) (pin_followed m n was now)
unfolding pin_followed pin_raised pin_lowered
followed_same m n false false = same_refl m
followed_same m n false true = all_same (record m { ioapic = raised m.ioapic n }) (option_to_list (raise_message m.ioapic n))
followed_same m n true false = same_refl (record m { ioapic = lowered m.ioapic n })
followed_same m n true true = same_refl m

chip_is : (c : Chip) (n : ℕ) (was now : Bool) → IsChip c → IsChip (chip_followed c n was now)
chip_is c n false false h = h
chip_is c n false true h = chip_set c.select c.id c.pins n (pin.raised (pin_at c n)) h (raised_ok (pin_at c n) (h.each n))
chip_is c n true false h = chip_set c.select c.id c.pins n (pin.lowered (pin_at c n)) h (lowered_ok (pin_at c n) (h.each n))
chip_is c n true true h = h

-- how often a pin is asserted
pub sent_count : (b : Bool) (p : Pin) → (pin.sent_if b p).count ≡ p.count
sent_count true p = level p p.entry.level where
  level : (p : Pin) (b : Bool) → (if b then record p { remote_irr = true } else p).count ≡ p.count
  level p true = refl
  level p false = refl
sent_count false p = refl

raised_count : (p : Pin) → (pin.raised p).count ≡ p.count + 1
unfolding pin.raised
raised_count p = sent_count (pin.raise_sends p) (record p { count = p.count + 1 })

lowered_count : (p : Pin) → (pin.lowered p).count ≡ p.count - 1
unfolding pin.lowered
lowered_count p = refl

pin_set : (c : Chip) (n k : ℕ) (p : Pin) → n < length c.pins → (pin_at (with_pin c n p) k).count ≡ (if k == n then p.count else (pin_at c k).count)
pin_set c n k p within =
    elim (cases_eq k n) [
      | inl same ↦ rw (get_or-set_at c.pins n k p pin.pin_at_start same within) (grind (arith, nat_tests, common_steps))
      | inr other ↦ rw (get_or-set_other c.pins n k p pin.pin_at_start other) (grind (arith, nat_tests, common_steps))
    ]

abbrev FollowedCount : Chip → ℕ → Bool → Bool → ℕ → Type 0
FollowedCount c n was now k = (pin_at (chip_followed c n was now) k).count ≡ (if k == n then number_of now else (pin_at c k).count)

stays : (c : Chip) (n k : ℕ) (now : Bool) → (pin_at c n).count ≡ number_of now → (pin_at c k).count ≡ (if k == n then number_of now else (pin_at c k).count)
stays c n k now e =
    elim (cases_eq k n) [
      | inl same ↦ subst (λ (j : ℕ). (pin_at c j).count ≡ (if j == n then number_of now else (pin_at c j).count)) (sym same) (here n)
      | inr other ↦ grind (arith, nat_tests, common_steps)
    ] where
      here : (j : ℕ) → (pin_at c n).count ≡ (if n == n then number_of now else (pin_at c n).count)
      here j = e ∙ grind (arith, nat_tests, common_steps)

followed_count : (c : Chip) (n : ℕ) (was now : Bool) (k : ℕ) → n < length c.pins → (pin_at c n).count ≡ number_of was → FollowedCount c n was now k
followed_count c n false false k within e = stays c n k false e
followed_count c n true true k within e = stays c n k true e
followed_count c n false true k within e =
    pin_set c n k (pin.raised (pin_at c n)) within ∙ ap (λ (j : ℕ). if k == n then j else (pin_at c k).count) (raised_count (pin_at c n) ∙ ap (λ (j : ℕ). j + 1) e)
followed_count c n true false k within e =
    pin_set c n k (pin.lowered (pin_at c n)) within ∙ ap (λ (j : ℕ). if k == n then j else (pin_at c k).count) (lowered_count (pin_at c n) ∙ ap (λ (j : ℕ). j - 1) e)

-- ---- the serial port

serial_line : (m : MachineState) (u : Serial) (k : ℕ) → IsMachine m → k < 32 →
    (if k == uart_pin then number_of (line u) else (pin_at m.ioapic k).count) ≡ line_of (record m { uart = u }) k
serial_line m u k h within =
    elim (cases_eq k uart_pin) [
      | inl same ↦ grind (arith, nat_tests, common_steps)
      | inr other ↦ let e = h.pins k within in grind (arith, nat_tests, common_steps)
    ]

pub keeps_serial : (m : MachineState) (u : Serial) → IsMachine m → IsSerial u → IsMachine (with_serial m u)
unfolding with_serial
keeps_serial m u h sound =
    let next : MachineState = record m { uart = u } in
    let there : uart_pin < length m.ioapic.pins = (let e = h.ioapic.long in omega arith) in
    keeps_same (followed next uart_pin (line m.uart) (line u)) (pin_followed next uart_pin (line m.uart) (line u))
    (record {
      some_cpu = h.some_cpu;
      cpus = h.cpus;
      first = h.first;
      each_cpu = h.each_cpu;
      ram = h.ram;
      some_code = h.some_code;
      code = h.code;
      ioapic = chip_is m.ioapic uart_pin (line m.uart) (line u) h.ioapic;
      uart = sound;
      pins = λ k within. followed_count m.ioapic uart_pin (line m.uart) (line u) k there (serial_count m h) ∙ serial_line m u k h within;
      drives = h.drives;
      each_drive = h.each_drive;
      timers = record { count = h.timers.count; disarmed = h.timers.disarmed };
    })
    (followed_same next uart_pin (line m.uart) (line u))

-- ---- a drive

same_suc : (j d : ℕ) → (j == d) ≡ (suc j == suc d)
same_suc j d = grind (arith, nat_tests)

drive_line_set : (xs : List Drive) (d j : ℕ) (x : Drive) → d < length xs → drive_line (set xs d x) j ≡ (if j == d then number_of (window_line x.window) else drive_line xs j)
drive_line_set [] d j x within = absurd (omega arith)
drive_line_set (y ∷ xs) zero zero x within = refl
drive_line_set (y ∷ xs) zero (suc j) x within = line_suc x xs j ∙ sym (line_suc y xs j) ∙ grind (arith, nat_tests, common_steps)
drive_line_set (y ∷ xs) (suc d) zero x within = grind (arith, nat_tests, common_steps)
drive_line_set (y ∷ xs) (suc d) (suc j) x within =
    let so_far = drive_line_set xs d j x (omega arith) in
    line_suc y (set xs d x) j ∙ so_far
    ∙ ap (λ (k : ℕ). if j == d then number_of (window_line x.window) else k) (sym (line_suc y xs j))
    ∙ ap (λ (b : Bool). if b then number_of (window_line x.window) else drive_line (y ∷ xs) (suc j)) (same_suc j d)

drive_line_is : (m : MachineState) (d : ℕ) (x : Drive) (k : ℕ) → IsMachine m → d < drive_count m → k < 32 →
    (if k == drive_pin d then number_of (window_line x.window) else (pin_at m.ioapic k).count) ≡ line_of (record m { drives = set m.drives d x }) k
drive_line_is m d x k h there within =
    let e = h.pins k within in
    let f = drive_line_set m.drives d (k - 16) x there in
    elim (cases_eq k (drive_pin d)) [
      | inl same ↦ grind (arith, nat_tests, common_steps)
      | inr other ↦ grind (arith, nat_tests, common_steps)
    ]

each_set : (m : MachineState) (d : ℕ) (x : Drive) → IsMachine m → IsDrive m.ram x → (e : ℕ) → e < length (set m.drives d x) → IsDrive m.ram (get_or (set m.drives d x) e no_drive)
each_set m d x h sound e within =
    let here : e < drive_count m = simp length-set at within in
    elim (cases_eq e d) [
      | inl same ↦ rw (get_or-set_at m.drives d e x no_drive same (omega arith)) sound
      | inr other ↦ rw (get_or-set_other m.drives d e x no_drive other) (h.each_drive e here)
    ]

pub keeps_window : (m : MachineState) (d : ℕ) (x : Drive) → IsMachine m → d < drive_count m → IsDrive m.ram x → IsMachine (with_window m d x)
unfolding with_window
keeps_window m d x h within sound =
    let next : MachineState = record m { drives = set m.drives d x } in
    let few : drive_count m ≤ 8 = h.drives in
    let there : drive_pin d < length m.ioapic.pins = (let e = h.ioapic.long in omega arith) in
    let was : Bool = window_line (drive_at m d).window in
    keeps_same (followed next (drive_pin d) was (window_line x.window)) (pin_followed next (drive_pin d) was (window_line x.window))
    (record {
      some_cpu = h.some_cpu;
      cpus = h.cpus;
      first = h.first;
      each_cpu = h.each_cpu;
      ram = h.ram;
      some_code = h.some_code;
      code = h.code;
      ioapic = chip_is m.ioapic (drive_pin d) was (window_line x.window) h.ioapic;
      uart = h.uart;
      pins = λ k inside. followed_count m.ioapic (drive_pin d) was (window_line x.window) k there (drive_count_is m d h within) ∙ drive_line_is m d x k h within inside;
      drives = subst (λ (n : ℕ). n ≤ 8) (sym (length-set m.drives d x)) h.drives;
      each_drive = each_set m d x h sound;
      timers = record { count = h.timers.count; disarmed = h.timers.disarmed };
    })
    (followed_same next (drive_pin d) was (window_line x.window))

-- ---- the end of a level-triggered interrupt

ended_count : (v : ℕ) (p : Pin) → (pin.ended v p).count ≡ p.count
ended_count v p = same p (pin.is_ended v p) where
  same : (p : Pin) (b : Bool) → (if b then record p { remote_irr = false } else p).count ≡ p.count
  same p true = refl
  same p false = refl

eoi_count : (v : ℕ) (p : Pin) → (pin.after_eoi v p).count ≡ p.count
unfolding pin.after_eoi
eoi_count v p = sent_count (pin.eoi_sends v p) (pin.ended v p) ∙ ended_count v p

map_count : (v : ℕ) (ps : List Pin) (k : ℕ) → (get_or (map (pin.after_eoi v) ps) k pin.pin_at_start).count ≡ (get_or ps k pin.pin_at_start).count
map_count v [] k = refl
map_count v (p ∷ ps) zero = eoi_count v p
map_count v (p ∷ ps) (suc k) = map_count v ps k

-- the I/O APIC in another state, in which each pin is asserted as often
pub keeps_chip : (m : MachineState) (c : Chip) → IsMachine m → IsChip c → ((k : ℕ) → (pin_at c k).count ≡ (pin_at m.ioapic k).count) → IsMachine (record m { ioapic = c })
keeps_chip m c h sound counts = record {
  some_cpu = h.some_cpu;
  cpus = h.cpus;
  first = h.first;
  each_cpu = h.each_cpu;
  ram = h.ram;
  some_code = h.some_code;
  code = h.code;
  ioapic = sound;
  uart = h.uart;
  pins = λ k within. counts k ∙ h.pins k within;
  drives = h.drives;
  each_drive = h.each_drive;
  timers = record { count = h.timers.count; disarmed = h.timers.disarmed };
}

pub keeps_level : (m : MachineState) (v : ℕ) → IsMachine m → IsMachine (level_ended m v)
unfolding level_ended
keeps_level m v h =
    let sound : IsChip (after_eoi m.ioapic v) = record {
      id = h.ioapic.id;
      long = length-map m.ioapic.pins (pin.after_eoi v) ∙ h.ioapic.long;
      each = each_map (pin.after_eoi v) (eoi_ok v) m.ioapic.pins h.ioapic.each;
    } in
    keeps_all_sent (record m { ioapic = after_eoi m.ioapic v }) (eoi_messages m.ioapic v)
    (keeps_chip m (after_eoi m.ioapic v) h sound (map_count v m.ioapic.pins))
