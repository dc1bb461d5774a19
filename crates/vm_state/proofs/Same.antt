-- What a change of a machine leaves of what a run's rules read, and that these rules then still hold.
use Rattle.std.proofs.Common.{◌≡◌, ℕ, ◌+◌, ◌<◌, ◌≤◌, Bool, true, List, length, get_or, take, refl, sym, ap, subst, ◌∙◌, Option, Some, None}
use Rattle.std.specs.List.{list_any, count_by, range_with_len}
use Rattle.vm_meet.specs.Meeting.{awaits}
use Rattle.vm_meet.specs.declared.meeting.Meeting.{Meeting}
use Rattle.vm_state.specs.declared.cpu.Cpu.{Cpu}
use Rattle.vm_state.specs.declared.cpu.Seat.{Seat}
use Rattle.vm_state.specs.declared.drive.Drive.{Drive}
use Rattle.vm_state.specs.declared.image.DiskImage.{DiskImage}
use Rattle.vm_state.specs.Machine.{MachineState, cpu_at, cpu_count, cpu_numbers, drive_at, no_drive}
use Rattle.vm_state.specs.Requests.{first_worker, workers_of}
use Rattle.vm_state.specs.Sound.{IsMachine, IsOwner, Stays, SeatFits, MeetFits, ImageFits, ImagesFit, ScriptStands, IsSoundState, is_sampled, samples_under_way}
use Rattle.vm_state.specs.State.{State, next_order, no_image, page_count, with_machine}

-- n has as many vCPUs as m, each in its stage and halted as it is, and the meeting, the wish and how much is code
pub record Same (m n : MachineState) : Type 0 where
  pub count : cpu_count n ≡ cpu_count m
  pub stage : (i : ℕ) → (cpu_at n i).stage ≡ (cpu_at m i).stage
  pub halted : (i : ℕ) → (cpu_at n i).halted ≡ (cpu_at m i).halted
  pub meet : n.meet ≡ m.meet
  pub pause : n.pause ≡ m.pause
  pub code : n.ram.code ≡ m.ram.code

pub same_itself : (m : MachineState) → Same m m
same_itself m = record { count = refl; stage = λ i. refl; halted = λ i. refl; meet = refl; pause = refl; code = refl }

pub then_same : (m n o : MachineState) → Same m n → Same n o → Same m o
then_same m n o a b = record {
  count = b.count ∙ a.count;
  stage = λ i. b.stage i ∙ a.stage i;
  halted = λ i. b.halted i ∙ a.halted i;
  meet = b.meet ∙ a.meet;
  pause = b.pause ∙ a.pause;
  code = b.code ∙ a.code;
}

-- ---- each part

pub seat_same : (i executed : ℕ) (old new : Cpu) (seat : Seat) → new.stage ≡ old.stage → new.halted ≡ old.halted
    → SeatFits i executed old seat → SeatFits i executed new seat
seat_same i executed old new seat stage halted f = record {
  owner = subst (λ st. IsOwner i st) (sym stage) f.owner;
  stay = subst (λ st. Stays st new.halted seat) (sym stage) (subst (λ b. Stays old.stage b seat) (sym halted) f.stay);
  ran = f.ran;
}

meeting_same : (m n : MachineState) (x : Option Meeting) → cpu_count n ≡ cpu_count m → MeetFits m x → MeetFits n x
meeting_same m n None count f = tt
meeting_same m n (Some x) count f = record {
  named = λ i past. f.named i (subst (λ k. k ≤ i) count past);
  waits = subst (λ k. list_any (awaits (Some x)) (range_with_len 0 k) ≡ true) (sym count) f.waits;
}

pub meet_same : (m n : MachineState) (x y : Option Meeting) → cpu_count n ≡ cpu_count m → y ≡ x → MeetFits m x → MeetFits n y
meet_same m n x y count e f = subst (λ z. MeetFits n z) (sym e) (meeting_same m n x count f)

pub first_worker_same : (m n : MachineState) (d : ℕ) → cpu_count n ≡ cpu_count m → n.drives ≡ m.drives → first_worker n d ≡ first_worker m d
unfolding first_worker
first_worker_same m n d count drives =
    ap (λ k. 1 + k + workers_of (take d n.drives)) count ∙ ap (λ (xs : List Drive). 1 + cpu_count m + workers_of (take d xs)) drives

-- the same drives and images
pub images_same : (m n : MachineState) (images : List DiskImage) → cpu_count n ≡ cpu_count m → n.drives ≡ m.drives → ImagesFit m images → ImagesFit n images
images_same m n images count drives h = record {
  count = h.count ∙ ap (λ (xs : List Drive). length xs) (sym drives);
  each = λ d l.
      subst (λ k. ImageFits k (drive_at n d) (get_or images d no_image)) (sym (first_worker_same m n d count drives))
      (subst (λ (xs : List Drive). ImageFits (first_worker m d) (get_or xs d no_drive) (get_or images d no_image)) (sym drives) (h.each d (subst (λ (xs : List Drive). d < length xs) drives l)));
}

pub sampled_same : (m n : MachineState) (x y : Option Meeting) → cpu_count n ≡ cpu_count m → y ≡ x → count_by (is_sampled y) (cpu_numbers n) ≡ count_by (is_sampled x) (cpu_numbers m)
sampled_same m n x y count e = ap (λ z. count_by (is_sampled z) (cpu_numbers n)) e ∙ ap (λ k. count_by (is_sampled x) (range_with_len 0 k)) count

stands_same : (a b : ℕ) (p q : Bool) (s : State) → b ≡ a → q ≡ p → ScriptStands a p s.place s.script → ScriptStands b q s.place s.script
stands_same a b p q s cpus pause h = subst (λ k. ScriptStands k q s.place s.script) (sym cpus) (subst (λ w. ScriptStands a w s.place s.script) (sym pause) h)

-- ---- a run on a machine that is the same so far

-- whatever became of the drives
pub keeps_drives : (s : State) (n : MachineState) → IsSoundState s → IsMachine n → Same s.machine n → ImagesFit n s.images → IsSoundState (with_machine s n)
unfolding next_order
keeps_drives s n h k v images = record {
  machine = k;
  seats = record {
    count = h.seats.count ∙ sym v.count;
    each = λ i. seat_same i s.executed (cpu_at s.machine i) (cpu_at n i) _ (v.stage i) (v.halted i) (h.seats.each i);
  };
  meet = meet_same s.machine n s.machine.meet n.meet v.count v.meet h.meet;
  images = images;
  counts = record {
    granted = h.counts.granted;
    limit = h.counts.limit;
    seen = h.counts.seen;
    pages = h.counts.pages ∙ ap (λ c. page_count c) (sym v.code);
    versions = h.counts.versions;
    script = h.counts.script;
    answers = h.counts.answers;
  };
  samples = record {
    opened = λ e. h.samples.opened (subst (λ z. samples_under_way z ≡ true) v.meet e);
    asked = h.samples.asked;
    few = subst (λ k. length s.samples + k ≤ 16) (sym (sampled_same s.machine n s.machine.meet n.meet v.count v.meet)) h.samples.few;
    none = h.samples.none;
  };
  script = λ e. stands_same (cpu_count s.machine) (cpu_count n) s.machine.pause n.pause s v.count v.pause (h.script e);
}

-- with the drives as they were
pub keeps_machine : (s : State) (n : MachineState) → IsSoundState s → IsMachine n → Same s.machine n → n.drives ≡ s.machine.drives → IsSoundState (with_machine s n)
keeps_machine s n h k v drives = keeps_drives s n h k v (images_same s.machine n s.images v.count drives h.images)
