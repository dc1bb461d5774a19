-- Each lawful entry of control keeps what holds of every run: Meet, Feed, Wish, Tick, End, Close.
use Rattle.std.specs.Prelude.{Option, Some, None, ◌==◌, ◌&&◌, ◌||◌, nat_lt, nat_le, is_none, is_some, slice_get, slice_index, ◌⊎◌, if◌then◌else◌}
use Rattle.std.specs.List.{All, list_any, count_by, range_with_len}
use Rattle.std.proofs.Common.{◌≡◌, ℕ, zero, suc, ◌+◌, ◌^◌, ◌<◌, ◌≤◌, Bool, true, false, not, List, [], ◌∷◌, ◌++◌, length, map, drop, get_or, refl, sym, ap, subst, ◌∙◌, arith, inl, inr}
use Rattle.std.specs.FinSet as set
use Rattle.std.specs.Ordering.{nat_cmp}
use Rattle.std.specs.FinSet.{contains-empty}
use Rattle.std.proofs.lemmas.Bool.{and_parts, true≢false, ltb-true}
use Rattle.std.proofs.lemmas.Bool.Decides.{nat_tests}
use Rattle.std.proofs.lemmas.Grind.{common_steps}
use Rattle.std.proofs.lemmas.List.{length-append}
use Rattle.std.proofs.lemmas.List.FromFn.{length-range_with_len, length-map-range_with_len, get_or-range_with_len}
use Rattle.std.proofs.lemmas.List.Folds.{list_any_at}
use Rattle.std.proofs.lemmas.List.Sums.{count_by-le-length}
use Rattle.vm_law.specs.CpuSet.{has}
use Rattle.vm_law.specs.declared.journal.EndCause.{EndCause}
use Rattle.vm_law.specs.declared.script.Order.{Order}
use Rattle.vm_law.specs.declared.script.Order.TheVariants.{WaitQuiet, WaitConsole, WaitExecuted, Input, Nmi, Rendezvous, Pause, Resume, Checkpoint, Set, Get, Cancel, Against, Send}
use Rattle.vm_law.specs.declared.stage.MeetKind.TheVariants.{Sample}
use Rattle.vm_meet.specs.Meeting.{awaits, opened}
use Rattle.vm_meet.specs.declared.meeting.Meeting.{Meeting}
use Rattle.vm_uart.specs.Uart.{Serial, after_receive, has_room, line}
use Rattle.vm_devices.specs.Ports.{with_serial}
use Rattle.vm_devices.specs.Timers.{ticked}
use Rattle.vm_devices.proofs.Started.{has_started}
use Rattle.vm_devices.proofs.KeptLines.{keeps_serial, followed_same}
use Rattle.vm_devices.proofs.KeptTicks.{keeps_run_ticked}
use Rattle.vm_devices.proofs.KeptRun.{SameRun, keeps_run, run_same, then_run}
use Rattle.vm_state.specs.declared.run_state.Why.{Why}
use Rattle.vm_state.specs.Machine.{MachineState, cpu_at, cpu_count, cpu_numbers, no_drive, started_cpus, uart_pin}
use Rattle.vm_state.specs.Requests.{first_worker}
use Rattle.vm_state.specs.State.{State, lag_of, next_order, no_image, with_machine}
use Rattle.vm_state.specs.Sound.{ImageFits, IsMachine, IsSerial, IsSoundState, MeetFits, OrdersFit, ScriptFits, ScriptStands, SamplesFit, is_pause_first, is_sampled, samples_under_way}
use Rattle.vm_orders.specs.Duties.{is_pause, is_rendezvous, may_meet, after_meet, may_feed, after_feed, may_wish, after_wish, after_tick}
use Rattle.vm_orders.specs.Ending.{after_end, after_close}

-- ---- End, Close

pub keeps_end : (s : State) (cause : EndCause) → IsSoundState s → IsSoundState (after_end s cause)
unfolding after_end next_order
keeps_end s cause h = record {
  machine = h.machine;
  seats = h.seats;
  meet = h.meet;
  images = h.images;
  counts = record { granted = h.counts.granted; limit = h.counts.limit; seen = h.counts.seen; pages = h.counts.pages; versions = h.counts.versions; script = h.counts.script; answers = h.counts.answers };
  samples = record { opened = h.samples.opened; asked = h.samples.asked; few = h.samples.few; none = h.samples.none };
  script = λ e. absurd (cc);
}

pub keeps_close : (s : State) → IsSoundState s → IsSoundState (after_close s)
unfolding after_close next_order
keeps_close s h = record {
  machine = h.machine;
  seats = h.seats;
  meet = h.meet;
  images = h.images;
  counts = record { granted = h.counts.granted; limit = h.counts.limit; seen = h.counts.seen; pages = h.counts.pages; versions = h.counts.versions; script = h.counts.script; answers = h.counts.answers };
  samples = record { opened = h.samples.opened; asked = h.samples.asked; few = h.samples.few; none = h.samples.none };
  script = h.script;
}

-- ---- a machine with another wish to pause, or another rendezvous

pub keeps_pause : (m : MachineState) (b : Bool) → IsMachine m → IsMachine (record m { pause = b })
keeps_pause m b h = record {
  some_cpu = h.some_cpu;
  cpus = h.cpus;
  first = h.first;
  each_cpu = h.each_cpu;
  ram = h.ram;
  some_code = h.some_code;
  code = h.code;
  ioapic = h.ioapic;
  uart = h.uart;
  pins = h.pins;
  drives = h.drives;
  each_drive = h.each_drive;
  timers = record { count = h.timers.count; disarmed = h.timers.disarmed };
}

pub keeps_meet_open : (m : MachineState) (x : Option Meeting) → IsMachine m → IsMachine (record m { meet = x })
keeps_meet_open m x h = record {
  some_cpu = h.some_cpu;
  cpus = h.cpus;
  first = h.first;
  each_cpu = h.each_cpu;
  ram = h.ram;
  some_code = h.some_code;
  code = h.code;
  ioapic = h.ioapic;
  uart = h.uart;
  pins = h.pins;
  drives = h.drives;
  each_drive = h.each_drive;
  timers = record { count = h.timers.count; disarmed = h.timers.disarmed };
}

-- the first worker of a drive is told by vCPUs and drives alone
pub first_paused : (m : MachineState) (b : Bool) (d : ℕ) → first_worker (record m { pause = b }) d ≡ first_worker m d
unfolding first_worker
first_paused m b d = refl

first_met : (m : MachineState) (x : Option Meeting) (d : ℕ) → first_worker (record m { meet = x }) d ≡ first_worker m d
unfolding first_worker
first_met m x d = refl

-- ---- Wish

record WishTells (s : State) : Type 0 where
  order : is_pause (next_order s) ≡ true
  pause : not s.machine.pause ≡ true
  ended : is_none s.ended ≡ true

wish_tells : (s : State) (p : ℕ) → may_wish s p ≡ true → WishTells s
unfolding may_wish
wish_tells s p m =
    let a = and_parts _ _ m in
    let b = and_parts _ _ a.0 in
    let c = and_parts _ _ b.0 in
    record { order = c.1; pause = b.1; ended = a.1 }

pub none_is : {X : Type 0} (o : Option X) → is_none o ≡ true → o ≡ None
none_is None h = refl
none_is (Some x) h = absurd (true≢false (sym h))

pub not_true : (b : Bool) → not b ≡ true → b ≡ false
not_true true h = absurd (true≢false (sym h))
not_true false h = refl

pause_first : (os : List Order) (k : ℕ) → is_pause (slice_get os k) ≡ true → is_pause_first (drop k os) ≡ true
pause_first [] zero h = h
pause_first [] (suc k) h = h
pause_first (o ∷ os) zero h = first o h where
  first : (o : Order) → is_pause (Some o) ≡ true → is_pause_first (o ∷ os) ≡ true
  first Pause e = refl
  first o e = e
pause_first (o ∷ os) (suc k) h = pause_first os k h

wished_orders : (cpus : ℕ) (pause : Bool) (os : List Order) → pause ≡ false → is_pause_first os ≡ true → OrdersFit cpus pause os → OrdersFit cpus true os
wished_orders cpus true os e f h = absurd (true≢false e)
wished_orders cpus false os e f h = inr (f, h)

next_first : (s : State) → is_pause (next_order s) ≡ true → is_pause_first (drop s.place s.script) ≡ true
unfolding next_order
next_first s h = pause_first s.script s.place h

pub keeps_wish : (s : State) (p : ℕ) → IsSoundState s → may_wish s p ≡ true → IsSoundState (after_wish s)
unfolding after_wish next_order
keeps_wish s p h m =
    let t = wish_tells s p m in
    record {
      machine = keeps_pause s.machine true h.machine;
      seats = record { count = h.seats.count; each = h.seats.each };
      meet = meet_same s.machine.meet h.meet;
      images = record { count = h.images.count; each = images_same };
      counts = record { granted = h.counts.granted; limit = h.counts.limit; seen = h.counts.seen; pages = h.counts.pages; versions = h.counts.versions; script = h.counts.script; answers = h.counts.answers };
      samples = record { opened = h.samples.opened; asked = h.samples.asked; few = h.samples.few; none = h.samples.none };
      script = λ e.
          let now = h.script e in
          record { within = now.within; orders = wished_orders (cpu_count s.machine) s.machine.pause (drop s.place s.script) (not_true s.machine.pause t.pause) (next_first s t.order) now.orders };
    }
  where
    meet_same : (x : Option Meeting) → MeetFits s.machine x → MeetFits (record s.machine { pause = true }) x
    meet_same None f = f
    meet_same (Some x) f = record { named = f.named; waits = f.waits }

    images_same : (d : ℕ) → d < length s.machine.drives → ImageFits (first_worker (record s.machine { pause = true }) d) (get_or s.machine.drives d no_drive) (get_or s.images d no_image)
    images_same d l = subst (λ (n : ℕ). ImageFits n (get_or s.machine.drives d no_drive) (get_or s.images d no_image)) (sym (first_paused s.machine true d)) (h.images.each d l)

-- ---- Meet

record MeetTells (s : State) : Type 0 where
  order : is_rendezvous (next_order s) ≡ true
  begun : s.begun ≡ false
  ended : s.ended ≡ None

meet_tells : (s : State) (p : ℕ) → may_meet s p ≡ true → MeetTells s
unfolding may_meet
meet_tells s p m =
    let a = and_parts _ _ m in
    let b = and_parts _ _ a.0 in
    let c = and_parts _ _ b.0 in
    record { order = (and_parts _ _ c.0).1; begun = not_true s.begun c.1; ended = none_is s.ended a.1 }

rendezvous_is : (o : Option Order) → is_rendezvous o ≡ true → o ≡ Some Rendezvous
rendezvous_is None h = absurd (true≢false (sym h))
rendezvous_is (Some Rendezvous) h = refl
rendezvous_is (Some WaitQuiet) h = absurd (true≢false (sym h))
rendezvous_is (Some (WaitConsole n)) h = absurd (true≢false (sym h))
rendezvous_is (Some (WaitExecuted n)) h = absurd (true≢false (sym h))
rendezvous_is (Some (Input bytes)) h = absurd (true≢false (sym h))
rendezvous_is (Some (Nmi i)) h = absurd (true≢false (sym h))
rendezvous_is (Some Pause) h = absurd (true≢false (sym h))
rendezvous_is (Some Resume) h = absurd (true≢false (sym h))
rendezvous_is (Some (Checkpoint name)) h = absurd (true≢false (sym h))
rendezvous_is (Some (Against name base)) h = absurd (true≢false (sym h))
rendezvous_is (Some (Send name)) h = absurd (true≢false (sym h))
rendezvous_is (Some (Set i reg value)) h = absurd (true≢false (sym h))
rendezvous_is (Some (Get i reg)) h = absurd (true≢false (sym h))
rendezvous_is (Some (Cancel d id)) h = absurd (true≢false (sym h))

awaits_first : (m : MachineState) → IsMachine m → awaits (Some (opened Sample 0 (started_cpus m))) 0 ≡ true
awaits_first m h =
    let some = h.some_cpu in
    let first = h.first in
    let here : has (started_cpus m) 0 ≡ true = has_started m 0 ∙ grind (arith, nat_tests, common_steps) in
    let fresh : has set.empty 0 ≡ false = contains-empty nat_cmp 0 in
    both (has (started_cpus m) 0) (has set.empty 0) here fresh
  where
    both : (a b : Bool) → a ≡ true → b ≡ false → (a && not b) ≡ true
    both a b e f = grind (arith, common_steps)

waits_for_first : (m : MachineState) → IsMachine m → list_any (awaits (Some (opened Sample 0 (started_cpus m)))) (cpu_numbers m) ≡ true
waits_for_first m h =
    let some = h.some_cpu in
    let p : ℕ → Bool = awaits (Some (opened Sample 0 (started_cpus m))) in
    let long : length (cpu_numbers m) ≡ cpu_count m = length-range_with_len 0 (cpu_count m) in
    list_any_at p (cpu_numbers m) 0 0 (omega (arith, long, some)) (ap p (get_or-range_with_len 0 (cpu_count m) 0 0 (omega (arith, some))) ∙ awaits_first m h)

none_past : (m : MachineState) (i : ℕ) → cpu_count m ≤ i → has (started_cpus m) i ≡ false
none_past m i past = has_started m i ∙ grind (arith, nat_tests, common_steps)

pub keeps_meet : (s : State) (p : ℕ) → IsSoundState s → may_meet s p ≡ true → IsSoundState (after_meet s)
unfolding after_meet next_order
keeps_meet s p h m =
    let t = meet_tells s p m in
    let x : Option Meeting = Some (opened Sample 0 (started_cpus s.machine)) in
    let none : s.samples ≡ [] = h.samples.none t.begun in
    let count = count_by-le-length (is_sampled x) (cpu_numbers s.machine) in
    let long : length (cpu_numbers s.machine) ≡ cpu_count s.machine = length-range_with_len 0 (cpu_count s.machine) in
    let most = h.machine.cpus in
    record {
      machine = keeps_meet_open s.machine x h.machine;
      seats = record { count = h.seats.count; each = h.seats.each };
      meet = record { named = none_past s.machine; waits = waits_for_first s.machine h.machine };
      images = record { count = h.images.count; each = images_same };
      counts = record { granted = h.counts.granted; limit = h.counts.limit; seen = h.counts.seen; pages = h.counts.pages; versions = h.counts.versions; script = h.counts.script; answers = h.counts.answers };
      samples = record {
        opened = λ _. refl;
        asked = λ _. rendezvous_is (slice_get s.script s.place) t.order;
        few = rw none (omega (arith, count, long, most));
        none = λ e. absurd (true≢false e);
      };
      script = h.script;
    }
  where
    images_same : (d : ℕ) → d < length s.machine.drives
        → ImageFits (first_worker (record s.machine { meet = Some (opened Sample 0 (started_cpus s.machine)) }) d) (get_or s.machine.drives d no_drive) (get_or s.images d no_image)
    images_same d l =
        subst (λ (n : ℕ). ImageFits n (get_or s.machine.drives d no_drive) (get_or s.images d no_image)) (sym (first_met s.machine (Some (opened Sample 0 (started_cpus s.machine))) d)) (h.images.each d l)

-- ---- Feed

record FeedTells (s : State) : Type 0 where
  room : has_room s.machine.uart ≡ true

feed_tells : (s : State) (p : ℕ) → may_feed s p ≡ true → FeedTells s
unfolding may_feed
feed_tells s p m =
    let a = and_parts _ _ m in
    let b = and_parts _ _ a.0 in
    let c = and_parts _ _ b.0 in
    record { room = (and_parts _ _ c.1).1 }

received_if : (u : Serial) (byte : ℕ) (b : Bool) → b ≡ true → length u.received < 16 → IsSerial u → IsSerial (if b then record u { received = u.received ++ byte ∷ [] } else u)
received_if u byte true t less h = record { ier = h.ier; fcr = h.fcr; received = let long = length-append u.received (byte ∷ []) in omega (arith, long, less) }
received_if u byte false t less h = absurd (true≢false (sym t))

received : (u : Serial) (byte : ℕ) → has_room u ≡ true → IsSerial u → IsSerial (after_receive u byte)
received u byte e h = received_if u byte (has_room u) e (ltb-true (length u.received) 16 e) h

serial_run : (m : MachineState) (u : Serial) → SameRun m (with_serial m u)
unfolding with_serial
serial_run m u =
    let next : MachineState = record m { uart = u } in
    then_run m _ _ (record { seats = record { count = refl; stage = λ i. refl; halted = λ i. refl }; meet = refl; drives = refl; pause = refl; code = refl })
    (run_same _ _ (followed_same next uart_pin (line m.uart) (line u)))

input_less : (s : State) (bytes : List ℕ) → IsSoundState s → IsSoundState (record s { input = bytes })
unfolding next_order
input_less s bytes h = record {
  machine = h.machine;
  seats = h.seats;
  meet = h.meet;
  images = h.images;
  counts = record { granted = h.counts.granted; limit = h.counts.limit; seen = h.counts.seen; pages = h.counts.pages; versions = h.counts.versions; script = h.counts.script; answers = h.counts.answers };
  samples = record { opened = h.samples.opened; asked = h.samples.asked; few = h.samples.few; none = h.samples.none };
  script = h.script;
}

pub keeps_feed : (s : State) (p : ℕ) → IsSoundState s → may_feed s p ≡ true → IsSoundState (after_feed s)
unfolding after_feed
keeps_feed s p h m =
    let t = feed_tells s p m in
    let u : Serial = after_receive s.machine.uart (slice_index s.input 0) in
    input_less (with_machine s (with_serial s.machine u)) (drop 1 s.input)
    (keeps_run s (with_serial s.machine u) h (serial_run s.machine u) (keeps_serial s.machine u h.machine (received s.machine.uart (slice_index s.input 0) t.room h.machine.uart)))

-- ---- Tick

seen_all : (s : State) → IsSoundState s → IsSoundState (record s { seen = s.executed })
unfolding next_order
seen_all s h = record {
  machine = h.machine;
  seats = h.seats;
  meet = h.meet;
  images = h.images;
  counts = record { granted = h.counts.granted; limit = h.counts.limit; seen = omega arith; pages = h.counts.pages; versions = h.counts.versions; script = h.counts.script; answers = h.counts.answers };
  samples = record { opened = h.samples.opened; asked = h.samples.asked; few = h.samples.few; none = h.samples.none };
  script = h.script;
}

pub keeps_tick : (s : State) (n : ℕ) → IsSoundState s → IsSoundState (after_tick s n)
unfolding after_tick
keeps_tick s n h = seen_all (with_machine s (ticked s.machine n)) (keeps_run_ticked s n h)
