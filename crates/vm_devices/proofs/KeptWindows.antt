-- What holds of every machine is kept by accesses to the windows of the local APIC and the I/O APIC.
use Rattle.std.specs.Prelude.{if◌then◌else◌, ◌==◌, Option, Some, None, find}
use Rattle.std.specs.Option.{option_to_list, option_map_or}
use Rattle.std.proofs.Common.{◌≡◌, ℕ, ◌+◌, ◌<◌, ◌≤◌, Bool, true, false, List, [], ◌∷◌, length, get_or, set, refl, sym, ap, subst, arith, inl, inr, ◌∙◌}
use Rattle.std.proofs.Math.ListN.{length-set}
use Rattle.std.proofs.lemmas.Bool.{cases_eq, cases_lt}
use Rattle.std.proofs.lemmas.Bool.Decides.{nat_tests}
use Rattle.std.proofs.lemmas.List.{get_or-set_other, set_past}
use Rattle.std.proofs.lemmas.Grind.{common_steps, get_or-set_at}
use Rattle.vm_lapic.specs.Apic.{Apic, ended, without}
use Rattle.vm_lapic.specs.Window as window
use Rattle.vm_lapic.specs.Window.{offset_of, registers, register_at}
use Rattle.vm_lapic.specs.declared.effect.LapicEffect.{LapicEffect}
use Rattle.vm_lapic.specs.declared.effect.LapicEffect.TheVariants as effect
use Rattle.vm_lapic.specs.declared.register.Register.{Register}
use Rattle.vm_lapic.specs.declared.register.Register.TheVariants.{InitialCount, Tpr, Eoi, Svr, IcrLow, IcrHigh, LvtTimer, DivideConfiguration}
use Rattle.vm_ioapic.specs.Ioapic.{Chip, IsChip, pin_at, with_pin, selected, after_write, change}
use Rattle.vm_ioapic.specs.Pin as pin
use Rattle.vm_ioapic.specs.declared.entry.Redirection.{Redirection}
use Rattle.vm_ioapic.specs.declared.pin.Pin.{Pin}
use Rattle.vm_ioapic.specs.declared.register.Register as ioapic
use Rattle.vm_ioapic.specs.declared.register.Register.TheVariants as chip
use Rattle.vm_ioapic.proofs.Sound.{chip_set, low_ok, high_ok}
use Rattle.vm_meet.specs.declared.meeting.Meeting.{Meeting}
use Rattle.vm_vectors.specs.Vectors.{highest}
use Rattle.vm_timer.specs.Timers.{left_of}
use Rattle.vm_state.specs.declared.cpu.Cpu.{Cpu}
use Rattle.vm_state.specs.Machine.{MachineState, cpu_at, cpu_count, with_cpu, unstarted_cpu}
use Rattle.vm_state.specs.Sound.{IsMachine, IsCpu, AreTimers}
use Rattle.vm_devices.specs.Timers.{armed, span_of}
use Rattle.vm_devices.specs.Messages.{all_sent}
use Rattle.vm_devices.specs.Windows.{lapic_kept, lapic_followed, lapic_written, ioapic_written, reroutes, routing_opened}
use Rattle.vm_devices.proofs.Kept.{keeps_sent, keeps_all_sent}
use Rattle.vm_devices.proofs.KeptLines.{keeps_level, keeps_chip, sent_count}

-- ---- what a write leaves of a local APIC

-- its number, and its initial count but where that is written
pub record Leaves (l k : Apic) : Type 0 where
  pub number : k.cpu ≡ l.cpu
  pub initial : k.timer_initial ≡ l.timer_initial

leaves_refl : (l : Apic) → Leaves l l
leaves_refl l = record { number = refl; initial = refl }

leaves_end : (l : Apic) (v : Option ℕ) → Leaves l (without l v)
leaves_end l None = leaves_refl l
leaves_end l (Some v) = record { number = refl; initial = refl }

abbrev is_initial : Register → Bool
is_initial InitialCount = true
is_initial r = false

leaves : (l : Apic) (value : ℕ) (r : Register) → is_initial r ≡ false → Leaves l (window.after_write l value r)
unfolding window.after_write ended
leaves l value Tpr e = record { number = refl; initial = refl }
leaves l value Eoi e = leaves_end l (highest l.isr)
leaves l value Svr e = record { number = refl; initial = refl }
leaves l value IcrLow e = record { number = refl; initial = refl }
leaves l value IcrHigh e = record { number = refl; initial = refl }
leaves l value LvtTimer e = record { number = refl; initial = refl }
leaves l value DivideConfiguration e = record { number = refl; initial = refl }
leaves l value InitialCount e = absurd (grind (arith, common_steps))
leaves l value _ e = leaves_refl l

found_step : {X : Type 0} (p : X → Bool) (y x : X) (rest : Option X) (b : Bool) → p y ≡ b → (if b then Some y else rest) ≡ Some x → (rest ≡ Some x → p x ≡ true) → p x ≡ true
found_step p y x rest true f e so_far = let same : y ≡ x = cc in ap p (sym same) ∙ f
found_step p y x rest false f e so_far = so_far e

-- what was found passes the test
found_passes : {X : Type 0} (p : X → Bool) (xs : List X) (x : X) → find p xs ≡ Some x → p x ≡ true
found_passes p [] x e = absurd (cc)
found_passes p (y ∷ xs) x e = found_step p y x (find p xs) (p y) refl e (found_passes p xs x)

initial_there : (offset : ℕ) (r : Register) → (offset == offset_of InitialCount) ≡ false → (offset_of r == offset) ≡ true → is_initial r ≡ false
initial_there offset InitialCount differs same = absurd (grind (arith, nat_tests))
initial_there offset _ differs same = refl

leaves_at : (l : Apic) (offset value : ℕ) → (offset == offset_of InitialCount) ≡ false → (r : Option Register) → register_at offset ≡ r
    → Leaves l (option_map_or (window.after_write l value) r l)
unfolding register_at
leaves_at l offset value differs None e = leaves_refl l
leaves_at l offset value differs (Some r) e = leaves l value r (initial_there offset r differs (found_passes (λ (x : Register). offset_of x == offset) registers r e))

written_leaves : (l : Apic) (offset value : ℕ) → (offset == offset_of InitialCount) ≡ false → Leaves l (window.written l offset value)
unfolding window.written
written_leaves l offset value differs = leaves_at l offset value differs (register_at offset) refl

-- the initial count is what is written there
written_initial : (l : Apic) (value : ℕ) → window.written l (offset_of InitialCount) value ≡ record l { timer_initial = value }
unfolding window.written window.after_write register_at
written_initial l value = refl

-- ---- the register is kept, and the timer follows

same_number : (i : ℕ) (c : Cpu) (k : Apic) → k.cpu ≡ c.lapic.cpu → IsCpu i c → IsCpu i (record c { lapic = k })
same_number i c k e h = record { flags = h.flags; waits = h.waits; unstarted = h.unstarted; number = e ∙ h.number }

-- another APIC of vCPU i with the same number, and timers that fit it
with_lapic : (m : MachineState) (i : ℕ) (k : Apic) (timers : List ℕ) → IsMachine m → k.cpu ≡ (cpu_at m i).lapic.cpu
    → AreTimers (with_cpu m i (record (cpu_at m i) { lapic = k })) timers
    → IsMachine (record (with_cpu m i (record (cpu_at m i) { lapic = k })) { timers = timers })
with_lapic m i k timers h number fits = record {
  some_cpu = subst (λ (n : ℕ). 1 ≤ n) (sym (length-set m.cpus i _)) h.some_cpu;
  cpus = subst (λ (n : ℕ). n ≤ 16) (sym (length-set m.cpus i _)) h.cpus;
  first = started 0 ∙ h.first;
  each_cpu = each;
  ram = h.ram;
  some_code = h.some_code;
  code = h.code;
  ioapic = h.ioapic;
  uart = h.uart;
  pins = h.pins;
  drives = h.drives;
  each_drive = h.each_drive;
  timers = record { count = fits.count; disarmed = fits.disarmed };
} where
  started : (j : ℕ) → (get_or (set m.cpus i (record (cpu_at m i) { lapic = k })) j (unstarted_cpu j)).started ≡ (cpu_at m j).started
  started j =
      elim (cases_eq j i) [
        | inl same ↦
            elim (cases_lt i (length m.cpus)) [
              | inl within ↦ rw (get_or-set_at m.cpus i j (record (cpu_at m i) { lapic = k }) (unstarted_cpu j) same within) (rw same refl)
              | inr past ↦ rw (set_past m.cpus i (record (cpu_at m i) { lapic = k }) past) refl
            ]
        | inr apart ↦ rw (get_or-set_other m.cpus i j (record (cpu_at m i) { lapic = k }) (unstarted_cpu j) apart) refl
      ]

  each : (j : ℕ) → IsCpu j (get_or (set m.cpus i (record (cpu_at m i) { lapic = k })) j (unstarted_cpu j))
  each j =
      elim (cases_eq j i) [
        | inl same ↦
            elim (cases_lt i (length m.cpus)) [
              | inl within ↦ rw (get_or-set_at m.cpus i j (record (cpu_at m i) { lapic = k }) (unstarted_cpu j) same within) (rw same (same_number i (cpu_at m i) k number (h.each_cpu i)))
              | inr past ↦ rw (set_past m.cpus i (record (cpu_at m i) { lapic = k }) past) (h.each_cpu j)
            ]
        | inr apart ↦ rw (get_or-set_other m.cpus i j (record (cpu_at m i) { lapic = k }) (unstarted_cpu j) apart) (h.each_cpu j)
      ]

-- what is left once the initial count is written
abbrev left_by : Apic → ℕ → ℕ → ℕ
left_by l value lag = if value == 0 then 0 else span_of (record l { timer_initial = value }) + lag

module _ (m : MachineState) (i lag value : ℕ) (h : IsMachine m) (within : i < cpu_count m) where
  abbrev apic : Apic
  apic = (cpu_at m i).lapic

  abbrev counted_cpu : Cpu
  counted_cpu = record (cpu_at m i) { lapic = record apic { timer_initial = value } }

  short_of : i < length m.timers
  short_of = let long = h.timers.count in let few = h.cpus in omega arith

  disarms : (j : ℕ) → (get_or (set m.cpus i counted_cpu) j (unstarted_cpu j)).lapic.timer_initial ≡ 0 → left_of (set m.timers i (left_by apic value lag)) j ≡ 0
  disarms j e =
      elim (cases_eq j i) [
        | inl same ↦
            let none : value ≡ 0 = ap (λ (c : Cpu). c.lapic.timer_initial) (sym (get_or-set_at m.cpus i j counted_cpu (unstarted_cpu j) same within)) ∙ e in
            get_or-set_at m.timers i j (left_by apic value lag) 0 same short_of ∙ subst (λ (n : ℕ). left_by apic n lag ≡ 0) (sym none) refl
        | inr apart ↦
            get_or-set_other m.timers i j (left_by apic value lag) 0 apart
            ∙ h.timers.disarmed j (ap (λ (c : Cpu). c.lapic.timer_initial) (sym (get_or-set_other m.cpus i j counted_cpu (unstarted_cpu j) apart)) ∙ e)
      ]

  arms : AreTimers (with_cpu m i counted_cpu) (set m.timers i (left_by apic value lag))
  arms = record {
    count = length-set m.timers i _ ∙ h.timers.count;
    disarmed = disarms;
  }

  -- the timer follows a write of its initial count
  armed_is : armed (with_cpu m i counted_cpu) i lag ≡ record (with_cpu m i counted_cpu) { timers = set m.timers i (left_by apic value lag) }
  unfolding armed
  armed_is =
      ap (λ (c : Cpu). record (with_cpu m i counted_cpu) { timers = set m.timers i (if c.lapic.timer_initial == 0 then 0 else span_of c.lapic + lag) })
      (get_or-set_at m.cpus i i counted_cpu (unstarted_cpu i) refl within)

  keeps_armed : IsMachine (armed (with_cpu m i counted_cpu) i lag)
  keeps_armed =
      subst (λ (t : MachineState). IsMachine t) (sym armed_is)
      (with_lapic m i (record apic { timer_initial = value }) (set m.timers i (left_by apic value lag)) h refl arms)

  -- another APIC that leaves the timer
  leaving : (k : Apic) → Leaves apic k → IsMachine (with_cpu m i (record (cpu_at m i) { lapic = k }))
  leaving k kept = with_lapic m i k m.timers h kept.number (record { count = h.timers.count; disarmed = stays }) where
    stays : (j : ℕ) → (get_or (set m.cpus i (record (cpu_at m i) { lapic = k })) j (unstarted_cpu j)).lapic.timer_initial ≡ 0 → left_of m.timers j ≡ 0
    stays j e =
        elim (cases_eq j i) [
          | inl same ↦
              h.timers.disarmed j
              (ap (λ (n : ℕ). (cpu_at m n).lapic.timer_initial) same ∙ sym kept.initial
              ∙ ap (λ (c : Cpu). c.lapic.timer_initial) (sym (get_or-set_at m.cpus i j (record (cpu_at m i) { lapic = k }) (unstarted_cpu j) same within)) ∙ e)
          | inr apart ↦ h.timers.disarmed j (ap (λ (c : Cpu). c.lapic.timer_initial) (sym (get_or-set_other m.cpus i j (record (cpu_at m i) { lapic = k }) (unstarted_cpu j) apart)) ∙ e)
        ]

  kept_at : (offset : ℕ) (b : Bool) → (offset == offset_of InitialCount) ≡ b
      → (let next = with_cpu m i (record (cpu_at m i) { lapic = window.written apic offset value }) in IsMachine (if b then armed next i lag else next))
  kept_at offset true e =
      let there : offset_of InitialCount ≡ offset = grind (arith, nat_tests) in
      subst (λ (n : ℕ). IsMachine (armed (with_cpu m i (record (cpu_at m i) { lapic = window.written apic n value })) i lag)) there
      (subst (λ (k : Apic). IsMachine (armed (with_cpu m i (record (cpu_at m i) { lapic = k })) i lag)) (sym (written_initial apic value)) keeps_armed)
  kept_at offset false e = leaving (window.written apic offset value) (written_leaves apic offset value e)

followed_lapic : (m : MachineState) (e : LapicEffect) → IsMachine m → IsMachine (lapic_followed m e)
followed_lapic m effect.Nothing h = h
followed_lapic m (effect.Send x) h = keeps_sent m x h
followed_lapic m (effect.Eoi v true) h = keeps_level m v h
followed_lapic m (effect.Eoi v false) h = h

pub keeps_lapic : (m : MachineState) (i lag offset value : ℕ) → IsMachine m → i < cpu_count m → IsMachine (lapic_written m i lag offset value)
unfolding lapic_written
keeps_lapic m i lag offset value h within =
    followed_lapic (lapic_kept m i lag offset value) (window.effect_of (cpu_at m i).lapic offset value)
    (kept_at m i lag value h within offset (offset == offset_of InitialCount) refl)

-- ---- the I/O APIC

write_count : (p : Pin) (e : Redirection) → (pin.after_write p e).count ≡ p.count
unfolding pin.after_write
write_count p e = sent_count (pin.is_due (pin.with_entry p e)) (pin.with_entry p e)

half_count : (c : Chip) (n k : ℕ) (p : Pin) → p.count ≡ (pin_at c n).count → (pin_at (with_pin c n p) k).count ≡ (pin_at c k).count
half_count c n k p e =
    elim (cases_eq k n) [
      | inl same ↦
          elim (cases_lt n (length c.pins)) [
            | inl within ↦ rw (get_or-set_at c.pins n k p pin.pin_at_start same within) (rw same e)
            | inr past ↦ rw (set_past c.pins n p past) refl
          ]
      | inr other ↦ rw (get_or-set_other c.pins n k p pin.pin_at_start other) refl
    ]

write_counts : (c : Chip) (value : ℕ) (r : ioapic.Register) (k : ℕ) → (pin_at (after_write c r value) k).count ≡ (pin_at c k).count
write_counts c value chip.Select k = refl
write_counts c value chip.Id k = refl
write_counts c value chip.Version k = refl
write_counts c value (chip.Low n) k = half_count c n k _ (write_count (pin_at c n) _)
write_counts c value (chip.High n) k = half_count c n k _ (write_count (pin_at c n) _)
write_counts c value chip.Nothing k = refl

write_chip : (c : Chip) (value : ℕ) (r : ioapic.Register) → IsChip c → IsChip (after_write c r value)
write_chip c value chip.Select h = record { id = h.id; long = h.long; each = h.each }
write_chip c value chip.Id h = record { id = omega arith; long = h.long; each = h.each }
write_chip c value chip.Version h = h
write_chip c value (chip.Low n) h = chip_set c.select c.id c.pins n _ h (low_ok (pin_at c n) _ value (h.each n) refl)
write_chip c value (chip.High n) h = chip_set c.select c.id c.pins n _ h (high_ok (pin_at c n) _ value (h.each n) refl)
write_chip c value chip.Nothing h = h

-- a rendezvous is no fact of the machine
pub keeps_meet : (m : MachineState) (meet : Option Meeting) → IsMachine m → IsMachine (record m { meet = meet })
keeps_meet m meet h = record {
  some_cpu = h.some_cpu;
  cpus = h.cpus;
  first = h.first;
  each_cpu = h.each_cpu;
  ram = h.ram;
  some_code = h.some_code;
  code = h.code;
  ioapic = h.ioapic;
  uart = h.uart;
  pins = h.pins;
  drives = h.drives;
  each_drive = h.each_drive;
  timers = record { count = h.timers.count; disarmed = h.timers.disarmed };
}

opened_if : (b : Bool) (m : MachineState) (p : ℕ) → IsMachine m → IsMachine (if b then routing_opened m p else m)
opened_if true m p h = keeps_meet m _ h
opened_if false m p h = h

-- the register is written, and what this sends goes out
pub keeps_rerouted : (m : MachineState) (offset value : ℕ) → IsMachine m
    → (let register = selected m.ioapic offset in
    IsMachine (all_sent (record m { ioapic = after_write m.ioapic register value }) (option_to_list (change m.ioapic register value).message)))
keeps_rerouted m offset value h =
    let register = selected m.ioapic offset in
    keeps_all_sent (record m { ioapic = after_write m.ioapic register value }) (option_to_list (change m.ioapic register value).message)
    (keeps_chip m (after_write m.ioapic register value) h (write_chip m.ioapic value register h.ioapic) (write_counts m.ioapic value register))

pub keeps_ioapic : (m : MachineState) (p offset value : ℕ) → IsMachine m → IsMachine (ioapic_written m p offset value)
unfolding ioapic_written
keeps_ioapic m p offset value h =
    let register = selected m.ioapic offset in
    opened_if (reroutes m offset value) (all_sent (record m { ioapic = after_write m.ioapic register value }) (option_to_list (change m.ioapic register value).message)) p (keeps_rerouted m offset value h)
