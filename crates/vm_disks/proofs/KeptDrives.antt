-- What holds of every machine, and of every run, is kept where one drive changes, and memory that has as many bytes as
-- before.
use Rattle.std.specs.Prelude.{Option, Some, None, ◌==◌, ◌⊎◌}
use Rattle.std.specs.List.{All, list_any, count_by, range_with_len, sum_by}
use Rattle.std.proofs.Common.{◌≡◌, ℕ, zero, suc, ◌+◌, ◌<◌, ◌≤◌, Bool, true, false, List, [], ◌∷◌, length, get_or, set, take, refl, sym, ap, subst, ◌∙◌, arith, inl, inr}
use Rattle.std.proofs.Math.ListN.{length-set}
use Rattle.std.proofs.lemmas.Bool.{cases_eq}
use Rattle.std.proofs.lemmas.List.{get_or-set_other, set-get_or}
use Rattle.std.proofs.lemmas.List.Sums.{sum_by-cons}
use Rattle.std.proofs.lemmas.Grind.{get_or-set_at}
use Rattle.guest_ram.specs.GuestRam.{IsSound as IsRam, IsSize}
use Rattle.vm_law.specs.Memory.{Memory, KeepsSize}
use Rattle.vm_law.specs.declared.block.Request.{Request}
use Rattle.vm_law.specs.declared.block.Segment.{Segment}
use Rattle.vm_law.specs.declared.chips.WindowState.{WindowState}
use Rattle.vm_law.specs.declared.stage.Owned.{Owned}
use Rattle.vq_ring.specs.Ring.{lies_in, ring_ok}
use Rattle.vm_meet.specs.Meeting.{awaits}
use Rattle.vm_meet.specs.declared.meeting.Meeting.{Meeting}
use Rattle.vm_vblk.specs.Queue.{Fits}
use Rattle.vm_vblk.specs.Window.{LiesOver, ring_of, line as window_line}
use Rattle.blk_queue.specs.declared.progress.Unfinished.{Unfinished}
use Rattle.vm_state.specs.declared.drive.Drive.{Drive}
use Rattle.vm_state.specs.declared.cpu.Seat.{Seat}
use Rattle.vm_state.specs.declared.image.DiskImage.{DiskImage}
use Rattle.vm_state.specs.Machine.{MachineState, cpu_at, cpu_count, cpu_numbers, drive_at, drive_count, drive_pin, with_drive, no_drive}
use Rattle.vm_state.specs.Requests.{first_worker, workers_of}
use Rattle.vm_state.specs.State.{State, empty_seat, image_at, next_order, no_image, page_count, with_image, with_machine}
use Rattle.vm_state.specs.Sound.{IsMachine, IsDrive, IsSoundState, IsOwner, Stays, SeatsFit, MeetFits, ImagesFit, ImageFits, SamplesFit, CountsFit, ScriptStands, IsAccepted, RequestFits, is_sampled, samples_under_way}
use Rattle.vm_devices.specs.Messages.{pin_followed}
use Rattle.vm_devices.specs.Windows.{with_window}
use Rattle.vm_devices.proofs.Same.{Same}
use Rattle.vm_devices.proofs.KeptLines.{keeps_window, followed_same}
use Rattle.vm_devices.proofs.KeptRun.{SameSeats}

-- ---- memory with as many bytes, and as many of them code

fits_over : (a b : Memory) (q : Request) → KeepsSize a b → Fits a q → Fits b q
fits_over a b q k f = record {
  above_code = let c = k.code in let g = f.above_code in omega (arith, c, g);
  in_ram = let z = k.size in let g = f.in_ram in omega (arith, z, g);
  pieces = λ i d l. let z = k.size in let p : (get_or q.segments.items i d).addr + (get_or q.segments.items i d).len ≤ length a.bytes = f.pieces i d l in omega (arith, z, p);
  kept_code = λ e i d l.
      elim (f.kept_code e i d l) [
        | inl none ↦ inl none
        | inr above ↦ inr (subst (λ (c : ℕ). c ≤ (get_or q.segments.items i d).addr) (sym k.code) above)
      ];
}

request_over : (a b : Memory) (drive : Drive) (x : Unfinished) → KeepsSize a b → RequestFits a drive x → RequestFits b drive x
request_over a b drive x k h = record {
  accepted = record {
    sound = h.accepted.sound;
    fits = fits_over a b x.request k h.accepted.fits;
    whole = h.accepted.whole;
    bare = h.accepted.bare;
    writable = h.accepted.writable;
  };
  window = h.window;
}

pub lies_over : (a b : Memory) (w : WindowState) → KeepsSize a b → LiesOver a w → LiesOver b w
lies_over a b w k h e = ap (λ (c : ℕ). ring_ok (ring_of w) c (length b.bytes)) k.code ∙ ap (λ (n : ℕ). ring_ok (ring_of w) a.code n) k.size ∙ h e

pub drive_over : (a b : Memory) (x : Drive) → KeepsSize a b → IsDrive a x → IsDrive b x
drive_over a b x k h = record {
  some_worker = h.some_worker;
  workers = h.workers;
  some_sector = h.some_sector;
  sectors = h.sectors;
  whole = h.whole;
  ro = h.ro;
  capacity = h.capacity;
  registers = h.registers;
  tables = lies_over a b x.window k h.tables;
  queue = h.queue;
  requests = λ i d l. request_over a b x (get_or x.queue.requests i d) k (h.requests i d l);
}

pub keeps_ram : (m : MachineState) (ram : Memory) → IsMachine m → KeepsSize m.ram ram → IsMachine (record m { ram = ram })
keeps_ram m ram h k = record {
  some_cpu = h.some_cpu;
  cpus = h.cpus;
  first = h.first;
  each_cpu = h.each_cpu;
  ram = record { size = subst (λ (n : ℕ). IsSize n) (sym k.size) h.ram.size; code = let c = k.code in let z = k.size in let l = h.ram.code in omega (arith, c, z, l) };
  some_code = let c = k.code in let l = h.some_code in omega (arith, c, l);
  code = let c = k.code in let l = h.code in omega (arith, c, l);
  ioapic = h.ioapic;
  uart = h.uart;
  pins = h.pins;
  drives = h.drives;
  each_drive = λ d l. drive_over m.ram ram (drive_at m d) k (h.each_drive d l);
  timers = record { count = h.timers.count; disarmed = h.timers.disarmed };
}

-- ---- a drive whose line stays

followed_none : (m : MachineState) (pin : ℕ) (b : Bool) → pin_followed m pin b b ≡ m
unfolding pin_followed
followed_none m pin true = refl
followed_none m pin false = refl

pub no_change : (m : MachineState) (d : ℕ) (x : Drive) → window_line x.window ≡ window_line (drive_at m d).window → with_window m d x ≡ with_drive m d x
unfolding with_window
no_change m d x e =
    ap (λ (b : Bool). pin_followed (with_drive m d x) (drive_pin d) (window_line (drive_at m d).window) b) e ∙ followed_none (with_drive m d x) (drive_pin d) (window_line (drive_at m d).window)

pub keeps_drive : (m : MachineState) (d : ℕ) (x : Drive) → IsMachine m → d < drive_count m → IsDrive m.ram x → window_line x.window ≡ window_line (drive_at m d).window → IsMachine (with_drive m d x)
keeps_drive m d x h l i e = subst (λ (t : MachineState). IsMachine t) (no_change m d x e) (keeps_window m d x h l i)

-- ---- a run whose machine has another drive d

-- vCPUs are owned and halted as before, and so is the rest that a run's facts read
pub record Changed (m t : MachineState) (d : ℕ) (x : Drive) : Type 0 where
  pub seats : SameSeats m t
  pub meet : t.meet ≡ m.meet
  pub pause : t.pause ≡ m.pause
  pub code : t.ram.code ≡ m.ram.code
  pub drives : t.drives ≡ set m.drives d x

pub drive_changed : (m : MachineState) (ram : Memory) (d : ℕ) (x : Drive) → KeepsSize m.ram ram → Changed m (with_drive (record m { ram = ram }) d x) d x
drive_changed m ram d x k = record {
  seats = record { count = refl; stage = λ i. refl; halted = λ i. refl };
  meet = refl;
  pause = refl;
  code = k.code;
  drives = refl;
}

changed_by : (m n t : MachineState) (d : ℕ) (x : Drive) → Changed m n d x → Same n t → Changed m t d x
changed_by m n t d x c s = record {
  seats = record {
    count = s.count ∙ c.seats.count;
    stage = λ i. (s.each i).stage ∙ c.seats.stage i;
    halted = λ i. (s.each i).halted ∙ c.seats.halted i;
  };
  meet = ap (λ (y : MachineState). y.meet) s.rest ∙ c.meet;
  pause = ap (λ (y : MachineState). y.pause) s.rest ∙ c.pause;
  code = ap (λ (y : MachineState). y.ram.code) s.rest ∙ c.code;
  drives = ap (λ (y : MachineState). y.drives) s.rest ∙ c.drives;
}

pub window_changed : (m : MachineState) (ram : Memory) (d : ℕ) (x : Drive) → KeepsSize m.ram ram → Changed m (with_window (record m { ram = ram }) d x) d x
unfolding with_window
window_changed m ram d x k =
    let next : MachineState = with_drive (record m { ram = ram }) d x in
    let was : Bool = window_line (drive_at m d).window in
    changed_by m _ (pin_followed next (drive_pin d) was (window_line x.window)) d x (record {
      seats = record { count = refl; stage = λ i. refl; halted = λ i. refl };
      meet = refl;
      pause = refl;
      code = k.code;
      drives = refl;
    }) (followed_same next (drive_pin d) was (window_line x.window))

-- ---- the facts of a run

seats_fit : (m t : MachineState) (seats : List Seat) (executed : ℕ) → SameSeats m t → SeatsFit m seats executed → SeatsFit t seats executed
seats_fit m t seats executed same h = record {
  count = h.count ∙ sym same.count;
  each = λ i. record {
    owner = subst (λ (x : Owned). IsOwner i x) (sym (same.stage i)) (h.each i).owner;
    stay =
        subst (λ (x : Owned). Stays x (cpu_at t i).halted (get_or seats i empty_seat)) (sym (same.stage i))
        (subst (λ (b : Bool). Stays (cpu_at m i).stage b (get_or seats i empty_seat)) (sym (same.halted i)) (h.each i).stay);
    ran = (h.each i).ran;
  };
}

meet_fits : (m t : MachineState) (x : Option Meeting) → cpu_count t ≡ cpu_count m → MeetFits m x → MeetFits t x
meet_fits m t None e h = h
meet_fits m t (Some x) e h = record {
  named = λ i past. h.named i (subst (λ (n : ℕ). n ≤ i) e past);
  waits = ap (λ (n : ℕ). list_any (awaits (Some x)) (range_with_len 0 n)) e ∙ h.waits;
}

samples_fit : (s : State) (t : MachineState) (images : List DiskImage) → cpu_count t ≡ cpu_count s.machine → t.meet ≡ s.machine.meet → SamplesFit s → SamplesFit (record s { machine = t; images = images })
unfolding next_order
samples_fit s t images e f h = record {
  opened = λ u. h.opened (ap samples_under_way (sym f) ∙ u);
  asked = h.asked;
  few =
      subst (λ (n : ℕ). length s.samples + count_by (is_sampled t.meet) (range_with_len 0 n) ≤ 16) (sym e)
      (subst (λ (x : Option Meeting). length s.samples + count_by (is_sampled x) (cpu_numbers s.machine) ≤ 16) (sym f) h.few);
  none = h.none;
}

abbrev workers_in : Drive → ℕ
workers_in x = x.workers

workers_set : (xs : List Drive) (d e : ℕ) (x : Drive) → x.workers ≡ (get_or xs d no_drive).workers → workers_of (take e (set xs d x)) ≡ workers_of (take e xs)
workers_set [] d e x h = refl
workers_set (y ∷ xs) d zero x h = refl
workers_set (y ∷ xs) zero (suc e) x h = sum_by-cons workers_in x (take e xs) ∙ ap (λ (n : ℕ). n + workers_of (take e xs)) h ∙ sym (sum_by-cons workers_in y (take e xs))
workers_set (y ∷ xs) (suc d) (suc e) x h =
    sum_by-cons workers_in y (take e (set xs d x)) ∙ ap (λ (n : ℕ). y.workers + n) (workers_set xs d e x h) ∙ sym (sum_by-cons workers_in y (take e xs))

first_same : (m t : MachineState) (d e : ℕ) (x : Drive) → cpu_count t ≡ cpu_count m → t.drives ≡ set m.drives d x → x.workers ≡ (drive_at m d).workers → first_worker t e ≡ first_worker m e
unfolding first_worker
first_same m t d e x c same h =
    ap (λ (n : ℕ). 1 + n + workers_of (take e t.drives)) c
    ∙ ap (λ (xs : List Drive). 1 + cpu_count m + workers_of (take e xs)) same
    ∙ ap (λ (n : ℕ). 1 + cpu_count m + n) (workers_set m.drives d e x h)

image_fits : (m t : MachineState) (images : List DiskImage) (d : ℕ) (x : Drive) (image : DiskImage) → Changed m t d x → x.workers ≡ (drive_at m d).workers → d < drive_count m → ImagesFit m images
    → ImageFits (first_worker m d) x image → (e : ℕ) → e < drive_count m → ImageFits (first_worker m e) (get_or (set m.drives d x) e no_drive) (get_or (set images d image) e no_image)
image_fits m t images d x image c same within h fit e l =
    let there : d < length images = let n = h.count in omega (arith, n, within) in
    elim (cases_eq e d) [
      | inl at ↦
          rw (get_or-set_at m.drives d e x no_drive at within, get_or-set_at images d e image no_image at there)
          (subst (λ (k : ℕ). ImageFits (first_worker m k) x image) (sym at) fit)
      | inr other ↦ rw (get_or-set_other m.drives d e x no_drive other, get_or-set_other images d e image no_image other) (h.each e l)
    ]

images_fit : (m t : MachineState) (images : List DiskImage) (d : ℕ) (x : Drive) (image : DiskImage) → Changed m t d x → x.workers ≡ (drive_at m d).workers → d < drive_count m → ImagesFit m images
    → ImageFits (first_worker m d) x image → ImagesFit t (set images d image)
images_fit m t images d x image c same within h fit = record {
  count = length-set images d image ∙ h.count ∙ sym (length-set m.drives d x) ∙ ap (λ (xs : List Drive). length xs) (sym c.drives);
  each = λ e l.
      let here : e < drive_count m = subst (λ (n : ℕ). e < n) (length-set m.drives d x) (subst (λ (xs : List Drive). e < length xs) c.drives l) in
      subst (λ (from : ℕ). ImageFits from (drive_at t e) (get_or (set images d image) e no_image)) (sym (first_same m t d e x c.seats.count c.drives same))
      (subst (λ (xs : List Drive). ImageFits (first_worker m e) (get_or xs e no_drive) (get_or (set images d image) e no_image)) (sym c.drives)
      (image_fits m t images d x image c same within h fit e here));
}

pub keeps_changed : (s : State) (t : MachineState) (d : ℕ) (x : Drive) (image : DiskImage) → IsSoundState s → d < drive_count s.machine → Changed s.machine t d x → IsMachine t
    → x.workers ≡ (drive_at s.machine d).workers → ImageFits (first_worker s.machine d) x image → IsSoundState (with_image (with_machine s t) d image)
keeps_changed s t d x image h within c sound same fit = record {
  machine = sound;
  seats = seats_fit s.machine t s.seats s.executed c.seats h.seats;
  meet = meet_fits s.machine t t.meet c.seats.count (subst (λ (y : Option Meeting). MeetFits s.machine y) (sym c.meet) h.meet);
  images = images_fit s.machine t s.images d x image c same within h.images fit;
  counts = record {
    granted = h.counts.granted;
    limit = h.counts.limit;
    seen = h.counts.seen;
    pages = h.counts.pages ∙ ap page_count (sym c.code);
    versions = h.counts.versions;
    script = h.counts.script;
    answers = h.counts.answers;
  };
  samples = samples_fit s t (set s.images d image) c.seats.count c.meet h.samples;
  script = λ going.
      subst (λ (n : ℕ). ScriptStands n t.pause s.place s.script) (sym c.seats.count)
      (subst (λ (b : Bool). ScriptStands (cpu_count s.machine) b s.place s.script) (sym c.pause) (h.script going));
}

-- where the image stays
pub keeps_changed_drive : (s : State) (t : MachineState) (d : ℕ) (x : Drive) → IsSoundState s → d < drive_count s.machine → Changed s.machine t d x → IsMachine t
    → x.workers ≡ (drive_at s.machine d).workers → ImageFits (first_worker s.machine d) x (image_at s d) → IsSoundState (with_machine s t)
keeps_changed_drive s t d x h within c sound same fit =
    subst (λ (is : List DiskImage). IsSoundState (record (with_machine s t) { images = is })) (set-get_or s.images d no_image)
    (keeps_changed s t d x (image_at s d) h within c sound same fit)
