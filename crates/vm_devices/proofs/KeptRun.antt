-- What holds of every run is kept where the machine changes in what its facts don't read.
use Rattle.std.specs.Prelude.{Option, Some, None}
use Rattle.std.proofs.Common.{◌≡◌, ℕ, ◌+◌, ◌<◌, ◌≤◌, Bool, List, length, get_or, take, sym, ap, subst, ◌∙◌}
use Rattle.std.specs.List.{list_any, count_by, range_with_len}
use Rattle.vm_law.specs.declared.stage.Owned.{Owned}
use Rattle.vm_meet.specs.Meeting.{awaits}
use Rattle.vm_meet.specs.declared.meeting.Meeting.{Meeting}
use Rattle.vm_state.specs.declared.cpu.Seat.{Seat}
use Rattle.vm_state.specs.declared.drive.Drive.{Drive}
use Rattle.vm_state.specs.declared.image.DiskImage.{DiskImage}
use Rattle.vm_state.specs.Machine.{MachineState, cpu_at, cpu_count, cpu_numbers, drive_at, drive_count, no_drive}
use Rattle.vm_state.specs.Requests.{first_worker, workers_of}
use Rattle.vm_state.specs.State.{State, empty_seat, next_order, no_image, page_count, with_machine}
use Rattle.vm_state.specs.Sound.{IsMachine, IsSoundState, IsOwner, Stays, SeatsFit, MeetFits, ImagesFit, ImageFits, SamplesFit, ScriptStands, is_sampled, samples_under_way}
use Rattle.vm_devices.proofs.Same.{Same}

-- as many vCPUs, each owned and halted as before
pub record SameSeats (m t : MachineState) : Type 0 where
  pub count : cpu_count t ≡ cpu_count m
  pub stage : (i : ℕ) → (cpu_at t i).stage ≡ (cpu_at m i).stage
  pub halted : (i : ℕ) → (cpu_at t i).halted ≡ (cpu_at m i).halted

-- and the rest that a run's facts read
pub record SameRun (m t : MachineState) : Type 0 where
  pub seats : SameSeats m t
  pub meet : t.meet ≡ m.meet
  pub drives : t.drives ≡ m.drives
  pub pause : t.pause ≡ m.pause
  pub code : t.ram.code ≡ m.ram.code

pub seats_fit : (m t : MachineState) (seats : List Seat) (executed : ℕ) → SameSeats m t → SeatsFit m seats executed → SeatsFit t seats executed
seats_fit m t seats executed same h = record {
  count = h.count ∙ sym same.count;
  each = λ i. record {
    owner = subst (λ (x : Owned). IsOwner i x) (sym (same.stage i)) (h.each i).owner;
    stay =
        subst (λ (x : Owned). Stays x (cpu_at t i).halted (get_or seats i empty_seat)) (sym (same.stage i))
        (subst (λ (b : Bool). Stays (cpu_at m i).stage b (get_or seats i empty_seat)) (sym (same.halted i)) (h.each i).stay);
    ran = (h.each i).ran;
  };
}

pub meet_fits : (m t : MachineState) (x : Option Meeting) → cpu_count t ≡ cpu_count m → MeetFits m x → MeetFits t x
meet_fits m t None e h = h
meet_fits m t (Some x) e h = record {
  named = λ i past. h.named i (subst (λ (n : ℕ). n ≤ i) e past);
  waits = ap (λ (n : ℕ). list_any (awaits (Some x)) (range_with_len 0 n)) e ∙ h.waits;
}

first_same : (m t : MachineState) (d : ℕ) → cpu_count t ≡ cpu_count m → t.drives ≡ m.drives → first_worker t d ≡ first_worker m d
unfolding first_worker
first_same m t d e f = ap (λ (n : ℕ). 1 + n + workers_of (take d t.drives)) e ∙ ap (λ (xs : List Drive). 1 + cpu_count m + workers_of (take d xs)) f

pub images_fit : (m t : MachineState) (images : List DiskImage) → cpu_count t ≡ cpu_count m → t.drives ≡ m.drives → ImagesFit m images → ImagesFit t images
images_fit m t images e f h = record {
  count = h.count ∙ ap (λ (xs : List Drive). length xs) (sym f);
  each = λ d within.
      let here : d < drive_count m = subst (λ (xs : List Drive). d < length xs) f within in
      subst (λ (from : ℕ). ImageFits from (drive_at t d) (get_or images d no_image)) (sym (first_same m t d e f))
      (subst (λ (xs : List Drive). ImageFits (first_worker m d) (get_or xs d no_drive) (get_or images d no_image)) (sym f) (h.each d here));
}

samples_fit : (s : State) (t : MachineState) (images : List DiskImage) → cpu_count t ≡ cpu_count s.machine → t.meet ≡ s.machine.meet → SamplesFit s
    → SamplesFit (record s { machine = t; images = images })
unfolding next_order
samples_fit s t images e f h = record {
  opened = λ u. h.opened (ap samples_under_way (sym f) ∙ u);
  asked = h.asked;
  few =
      subst (λ (n : ℕ). length s.samples + count_by (is_sampled t.meet) (range_with_len 0 n) ≤ 16) (sym e)
      (subst (λ (x : Option Meeting). length s.samples + count_by (is_sampled x) (cpu_numbers s.machine) ≤ 16) (sym f) h.few);
  none = h.none;
}

-- another machine and other images that fit
pub keeps_parts : (s : State) (t : MachineState) (images : List DiskImage) → IsSoundState s → SameSeats s.machine t → t.meet ≡ s.machine.meet → t.pause ≡ s.machine.pause
    → t.ram.code ≡ s.machine.ram.code → ImagesFit t images → IsMachine t → IsSoundState (record s { machine = t; images = images })
keeps_parts s t images h seats meet pause code fit sound = record {
  machine = sound;
  seats = seats_fit s.machine t s.seats s.executed seats h.seats;
  meet = meet_fits s.machine t t.meet seats.count (subst (λ (x : Option Meeting). MeetFits s.machine x) (sym meet) h.meet);
  images = fit;
  counts = record {
    granted = h.counts.granted;
    limit = h.counts.limit;
    seen = h.counts.seen;
    pages = h.counts.pages ∙ ap page_count (sym code);
    versions = h.counts.versions;
    script = h.counts.script;
    answers = h.counts.answers;
  };
  samples = samples_fit s t images seats.count meet h.samples;
  script = λ goes_on.
      subst (λ (n : ℕ). ScriptStands n t.pause s.place s.script) (sym seats.count)
      (subst (λ (b : Bool). ScriptStands (cpu_count s.machine) b s.place s.script) (sym pause) (h.script goes_on));
}

pub keeps_run : (s : State) (t : MachineState) → IsSoundState s → SameRun s.machine t → IsMachine t → IsSoundState (with_machine s t)
keeps_run s t h same sound =
    keeps_parts s t s.images h same.seats same.meet same.pause same.code (images_fit s.machine t s.images same.seats.count same.drives h.images) sound

-- messages and firings are such changes
pub run_same : (m t : MachineState) → Same m t → SameRun m t
run_same m t h = record {
  seats = record { count = h.count; stage = λ i. (h.each i).stage; halted = λ i. (h.each i).halted };
  meet = ap (λ (x : MachineState). x.meet) h.rest;
  drives = ap (λ (x : MachineState). x.drives) h.rest;
  pause = ap (λ (x : MachineState). x.pause) h.rest;
  code = ap (λ (x : MachineState). x.ram.code) h.rest;
}

pub then_run : (a b c : MachineState) → SameRun a b → SameRun b c → SameRun a c
then_run a b c x y = record {
  seats = record {
    count = y.seats.count ∙ x.seats.count;
    stage = λ i. y.seats.stage i ∙ x.seats.stage i;
    halted = λ i. y.seats.halted i ∙ x.seats.halted i;
  };
  meet = y.meet ∙ x.meet;
  drives = y.drives ∙ x.drives;
  pause = y.pause ∙ x.pause;
  code = y.code ∙ x.code;
}
