-- What holds of every run is kept by accesses to ports and windows.
use Rattle.std.specs.Prelude.{if◌then◌else◌, ◌==◌, drop, Option, Some, None}
use Rattle.std.specs.Option.{option_to_list}
use Rattle.std.specs.List.{count_by}
use Rattle.std.proofs.Common.{◌≡◌, ℕ, ◌+◌, ◌<◌, ◌≤◌, Bool, true, false, List, [], ◌∷◌, length, get_or, set, refl, ap, arith, inl, inr, ◌∙◌}
use Rattle.std.proofs.Math.ListN.{length-set}
use Rattle.std.proofs.lemmas.Bool.{cases_eq, cases_lt}
use Rattle.std.proofs.lemmas.Bool.Decides.{nat_tests}
use Rattle.std.proofs.lemmas.List.{get_or-set_other, set_past}
use Rattle.std.proofs.lemmas.List.Sums.{sum_by-cons}
use Rattle.std.proofs.lemmas.Grind.{common_steps, get_or-set_at}
use Rattle.std.specs.Ordering.{nat_cmp}
use Rattle.std.specs.FinSet.{contains-empty}
use Rattle.vm_law.specs.CpuSet.{has}
use Rattle.vm_law.specs.declared.insn.Width.{Width}
use Rattle.vm_law.specs.declared.stage.MeetKind.TheVariants.{Routing}
use Rattle.vm_bus.specs.declared.area.Area.{Area}
use Rattle.vm_bus.specs.declared.area.Area.TheVariants as area
use Rattle.vm_lapic.specs.Window as lapic
use Rattle.vm_lapic.specs.declared.effect.LapicEffect.{LapicEffect}
use Rattle.vm_lapic.specs.declared.effect.LapicEffect.TheVariants as effect
use Rattle.vm_lapic.specs.declared.register.Register.TheVariants.{InitialCount}
use Rattle.vm_ioapic.specs.Ioapic.{selected, after_write, change, after_eoi, eoi_messages}
use Rattle.vm_uart.specs.Uart as uart
use Rattle.vm_uart.specs.declared.register.Register.{Register}
use Rattle.vm_uart.specs.declared.register.Register.TheVariants.{Data, InterruptEnable, InterruptIdentification, LineControl, ModemControl, LineStatus, ModemStatus, Scratch, DivisorLow, DivisorHigh}
use Rattle.vm_meet.specs.Meeting.{awaits, opened}
use Rattle.vm_meet.specs.declared.meeting.Meeting.{Meeting}
use Rattle.vm_state.specs.declared.cpu.Cpu.{Cpu}
use Rattle.vm_state.specs.Machine.{MachineState, cpu_at, cpu_count, cpu_numbers, started_cpus, uart_pin, unstarted_cpu, with_cpu}
use Rattle.vm_state.specs.State.{State, lag_of, next_order, with_machine}
use Rattle.vm_state.specs.Sound.{IsSoundState, IsSerial, is_sampled}
use Rattle.vm_devices.specs.Messages.{pin_followed, all_sent, sent, level_ended}
use Rattle.vm_devices.specs.Ports.{with_serial, offset_of, read_at, written_at, port_read, port_written, byte_of}
use Rattle.vm_devices.specs.Timers.{armed}
use Rattle.vm_devices.specs.Windows.{lapic_kept, lapic_followed, lapic_written, ioapic_written, reroutes, routing_opened, window_written}
use Rattle.vm_devices.proofs.Same.{sent_same, all_same}
use Rattle.vm_devices.proofs.Started.{has_started}
use Rattle.vm_devices.proofs.Live.{any_found}
use Rattle.vm_devices.proofs.KeptRun.{SameSeats, SameRun, keeps_run, run_same, then_run, seats_fit, images_fit}
use Rattle.vm_devices.proofs.KeptLines.{followed, followed_same, keeps_serial}
use Rattle.vm_devices.proofs.KeptWindows.{keeps_lapic, keeps_meet, keeps_rerouted}
use Rattle.vm_devices.proofs.KeptImages.{keeps_drive}

run_refl : (m : MachineState) → SameRun m m
run_refl m = record {
  seats = record { count = refl; stage = λ i. refl; halted = λ i. refl };
  meet = refl;
  drives = refl;
  pause = refl;
  code = refl;
}

-- ---- the serial port

short : (xs : List ℕ) → length xs ≤ 16 → length (drop 1 xs) ≤ 16
short [] h = h
short (x ∷ xs) h = omega arith

identified : (u : uart.Serial) (b : Bool) → IsSerial u → IsSerial (if b then record u { empty = false } else u)
identified u true h = record { ier = h.ier; fcr = h.fcr; received = h.received }
identified u false h = h

read_serial : (u : uart.Serial) (r : Register) → IsSerial u → IsSerial (uart.after_read u r)
read_serial u Data h = record { ier = h.ier; fcr = h.fcr; received = short u.received h.received }
read_serial u InterruptIdentification h = identified u (uart.cause u == 0x02) h
read_serial u _ h = h

emptied_if : (u : uart.Serial) (b : Bool) → IsSerial u → length (if b then [] else u.received) ≤ 16
emptied_if u true h = omega arith
emptied_if u false h = h.received

written_serial : (u : uart.Serial) (r : Register) (value : ℕ) → IsSerial u → IsSerial (uart.after_write u r value)
written_serial u Data value h = record { ier = h.ier; fcr = h.fcr; received = h.received }
written_serial u InterruptEnable value h = record { ier = omega arith; fcr = h.fcr; received = h.received }
written_serial u InterruptIdentification value h = record { ier = h.ier; fcr = omega arith; received = emptied_if u (uart.bit value 1) h }
written_serial u LineControl value h = record { ier = h.ier; fcr = h.fcr; received = h.received }
written_serial u ModemControl value h = record { ier = h.ier; fcr = h.fcr; received = h.received }
written_serial u LineStatus value h = h
written_serial u ModemStatus value h = h
written_serial u Scratch value h = record { ier = h.ier; fcr = h.fcr; received = h.received }
written_serial u DivisorLow value h = record { ier = h.ier; fcr = h.fcr; received = h.received }
written_serial u DivisorHigh value h = record { ier = h.ier; fcr = h.fcr; received = h.received }

serial_run : (m : MachineState) (u : uart.Serial) → SameRun m (with_serial m u)
unfolding with_serial
serial_run m u =
    let next : MachineState = record m { uart = u } in
    let same : SameRun (followed next uart_pin (uart.line m.uart) (uart.line u)) (pin_followed next uart_pin (uart.line m.uart) (uart.line u)) =
    run_same _ _ (followed_same next uart_pin (uart.line m.uart) (uart.line u)) in
    record {
      seats = record { count = same.seats.count; stage = same.seats.stage; halted = same.seats.halted };
      meet = same.meet;
      drives = same.drives;
      pause = same.pause;
      code = same.code;
    }

pub keeps_run_serial : (s : State) (u : uart.Serial) → IsSoundState s → IsSerial u → IsSoundState (with_machine s (with_serial s.machine u))
keeps_run_serial s u h sound = keeps_run s (with_serial s.machine u) h (serial_run s.machine u) (keeps_serial s.machine u h.machine sound)

keeps_read : (s : State) (o : Option ℕ) → IsSoundState s → IsSoundState (with_machine s (read_at s.machine o))
keeps_read s None h = h
keeps_read s (Some offset) h = keeps_run_serial s (uart.after_read s.machine.uart (uart.selected s.machine.uart offset)) h (read_serial s.machine.uart (uart.selected s.machine.uart offset) h.machine.uart)

keeps_write : (s : State) (o : Option ℕ) (value : ℕ) → IsSoundState s → IsSoundState (with_machine s (written_at s.machine o value))
keeps_write s None value h = h
keeps_write s (Some offset) value h = keeps_run_serial s (uart.after_write s.machine.uart (uart.selected s.machine.uart offset) (byte_of value)) h
    (written_serial s.machine.uart (uart.selected s.machine.uart offset) (byte_of value) h.machine.uart)

pub keeps_port_read : (s : State) (port : ℕ) (w : Width) → IsSoundState s → IsSoundState (with_machine s (port_read s.machine port w))
unfolding port_read
keeps_port_read s port w h = keeps_read s (offset_of port w) h

pub keeps_port_written : (s : State) (port : ℕ) (w : Width) (value : ℕ) → IsSoundState s → IsSoundState (with_machine s (port_written s.machine port w value))
unfolding port_written
keeps_port_written s port w value h = keeps_write s (offset_of port w) value h

-- ---- the local APIC

stage_with : (m : MachineState) (i : ℕ) (c : Cpu) → c.stage ≡ (cpu_at m i).stage → c.halted ≡ (cpu_at m i).halted → SameSeats m (with_cpu m i c)
stage_with m i c stage halted = record { count = length-set m.cpus i c; stage = λ j. (each j).0; halted = λ j. (each j).1 } where
  each : (j : ℕ) → ((get_or (set m.cpus i c) j (unstarted_cpu j)).stage ≡ (cpu_at m j).stage) × ((get_or (set m.cpus i c) j (unstarted_cpu j)).halted ≡ (cpu_at m j).halted)
  each j =
      elim (cases_eq j i) [
        | inl same ↦
            elim (cases_lt i (length m.cpus)) [
              | inl within ↦ rw (get_or-set_at m.cpus i j c (unstarted_cpu j) same within) (rw same (stage, halted))
              | inr past ↦ rw (set_past m.cpus i c past) (refl, refl)
            ]
        | inr apart ↦ rw (get_or-set_other m.cpus i j c (unstarted_cpu j) apart) (refl, refl)
      ]

armed_run : (m : MachineState) (i lag : ℕ) (b : Bool) → SameRun m (if b then armed m i lag else m)
unfolding armed
armed_run m i lag true = record { seats = record { count = refl; stage = λ j. refl; halted = λ j. refl }; meet = refl; drives = refl; pause = refl; code = refl }
armed_run m i lag false = run_refl m

kept_run : (m : MachineState) (i lag offset value : ℕ) → SameRun m (lapic_kept m i lag offset value)
kept_run m i lag offset value =
    let c : Cpu = record (cpu_at m i) { lapic = lapic.written (cpu_at m i).lapic offset value } in
    let next : MachineState = with_cpu m i c in
    let first : SameRun m next = record { seats = stage_with m i c refl refl; meet = refl; drives = refl; pause = refl; code = refl } in
    then_run m next (lapic_kept m i lag offset value) first (armed_run next i lag (offset == lapic.offset_of InitialCount))

level_run : (m : MachineState) (v : ℕ) → SameRun m (level_ended m v)
unfolding level_ended
level_run m v =
    let same : SameRun (record m { ioapic = after_eoi m.ioapic v }) (all_sent (record m { ioapic = after_eoi m.ioapic v }) (eoi_messages m.ioapic v)) =
    run_same _ _ (all_same (record m { ioapic = after_eoi m.ioapic v }) (eoi_messages m.ioapic v)) in
    record {
      seats = record { count = same.seats.count; stage = same.seats.stage; halted = same.seats.halted };
      meet = same.meet;
      drives = same.drives;
      pause = same.pause;
      code = same.code;
    }

followed_run : (m : MachineState) (e : LapicEffect) → SameRun m (lapic_followed m e)
followed_run m effect.Nothing = run_refl m
followed_run m (effect.Send x) = run_same m (sent m x) (sent_same m x)
followed_run m (effect.Eoi v true) = level_run m v
followed_run m (effect.Eoi v false) = run_refl m

lapic_run : (m : MachineState) (i lag offset value : ℕ) → SameRun m (lapic_written m i lag offset value)
unfolding lapic_written
lapic_run m i lag offset value =
    then_run m (lapic_kept m i lag offset value) (lapic_followed (lapic_kept m i lag offset value) (lapic.effect_of (cpu_at m i).lapic offset value)) (kept_run m i lag offset value)
    (followed_run (lapic_kept m i lag offset value) (lapic.effect_of (cpu_at m i).lapic offset value))

pub keeps_run_lapic : (s : State) (i offset value : ℕ) → IsSoundState s → i < cpu_count s.machine → IsSoundState (with_machine s (lapic_written s.machine i (lag_of s) offset value))
keeps_run_lapic s i offset value h within =
    keeps_run s (lapic_written s.machine i (lag_of s) offset value) h (lapic_run s.machine i (lag_of s) offset value)
    (keeps_lapic s.machine i (lag_of s) offset value h.machine within)

-- ---- the I/O APIC

none_sampled : (x : Meeting) (ns : List ℕ) → x.kind ≡ Routing → count_by (is_sampled (Some x)) ns ≡ 0
none_sampled x [] e = refl
none_sampled x (n ∷ ns) e =
    sum_by-cons (λ (i : ℕ). if is_sampled (Some x) i then 1 else 0) n ns
    ∙ ap (λ (k : ℕ). (if is_sampled (Some x) n then 1 else 0) + k) (none_sampled x ns e)
    ∙ (rw e refl)

unnamed : (m : MachineState) (i : ℕ) → cpu_count m ≤ i → has (started_cpus m) i ≡ false
unnamed m i past = has_started m i ∙ grind (arith, nat_tests, common_steps)

-- a rendezvous of all started vCPUs waits for vCPU 0
opened_sound : (s : State) (p : ℕ) → IsSoundState s → IsSoundState (with_machine s (routing_opened s.machine p))
unfolding next_order
opened_sound s p h =
    let m = s.machine in
    let t : MachineState = routing_opened m p in
    let x : Meeting = opened Routing p (started_cpus m) in
    let some : 1 ≤ cpu_count m = h.machine.some_cpu in
    let named : has (started_cpus m) 0 ≡ true = has_started m 0 ∙ (let first = h.machine.first in grind (arith, nat_tests, common_steps)) in
    let undone : has x.done 0 ≡ false = contains-empty nat_cmp 0 in
    let awaited : awaits (Some x) 0 ≡ true = grind (arith, common_steps) in
    record {
      machine = keeps_meet m (Some x) h.machine;
      seats = seats_fit m t s.seats s.executed (record { count = refl; stage = λ i. refl; halted = λ i. refl }) h.seats;
      meet = record { named = unnamed m; waits = any_found (awaits (Some x)) (cpu_count m) 0 (omega arith) awaited };
      images = images_fit m t s.images refl refl h.images;
      counts = record {
        granted = h.counts.granted;
        limit = h.counts.limit;
        seen = h.counts.seen;
        pages = h.counts.pages;
        versions = h.counts.versions;
        script = h.counts.script;
        answers = h.counts.answers;
      };
      samples = record {
        opened = λ e. absurd (grind (arith, common_steps));
        asked = h.samples.asked;
        few = (let none = none_sampled x (cpu_numbers m) refl in let before = h.samples.few in omega arith);
        none = h.samples.none;
      };
      script = h.script;
    }

opened_if : (s : State) (p : ℕ) (b : Bool) → IsSoundState s → IsSoundState (with_machine s (if b then routing_opened s.machine p else s.machine))
opened_if s p true h = opened_sound s p h
opened_if s p false h = h

pub keeps_run_ioapic : (s : State) (p offset value : ℕ) → IsSoundState s → IsSoundState (with_machine s (ioapic_written s.machine p offset value))
unfolding ioapic_written
keeps_run_ioapic s p offset value h =
    let m = s.machine in
    let register = selected m.ioapic offset in
    let base : MachineState = record m { ioapic = after_write m.ioapic register value } in
    let next : MachineState = all_sent base (option_to_list (change m.ioapic register value).message) in
    let same : SameRun base next = run_same base next (all_same base (option_to_list (change m.ioapic register value).message)) in
    let kept : SameRun m next = record {
      seats = record { count = same.seats.count; stage = same.seats.stage; halted = same.seats.halted };
      meet = same.meet;
      drives = same.drives;
      pause = same.pause;
      code = same.code;
    } in
    opened_if (with_machine s next) p (reroutes m offset value) (keeps_run s next h kept (keeps_rerouted m offset value h.machine))

-- ---- a window

pub keeps_written : (s : State) (p i : ℕ) (a : Area) (value : ℕ) → IsSoundState s → i < cpu_count s.machine → IsSoundState (window_written s p i a value)
unfolding window_written
keeps_written s p i (area.Lapic offset) value h within = keeps_run_lapic s i offset value h within
keeps_written s p i (area.Ioapic offset) value h within = keeps_run_ioapic s p offset value h
keeps_written s p i (area.Disk d offset) value h within = keeps_drive s d offset value h
keeps_written s p i _ value h within = h
