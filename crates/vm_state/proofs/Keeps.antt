-- What holds of a run still holds after a change of a vCPU and of its seat.
use Rattle.std.proofs.Common.{◌≡◌, ℕ, ◌+◌, ◌<◌, ◌≤◌, true, List, length, get_or, set, refl, sym, subst, ◌∙◌, inl, inr, arith}
use Rattle.std.proofs.lemmas.List.{length-set, get_or-set_other, set-get_or, set_past}
use Rattle.std.proofs.lemmas.List.Sums.{sum_by-set}
use Rattle.std.proofs.lemmas.Bool.{cases_eq, cases_lt}
use Rattle.std.proofs.lemmas.Grind.{get_or-set_at}
use Rattle.vm_timer.specs.Timers.{left_of}
use Rattle.vm_state.specs.declared.cpu.Cpu.{Cpu}
use Rattle.vm_state.specs.declared.cpu.Seat.{Seat}
use Rattle.vm_state.specs.Machine.{MachineState, cpu_at, unstarted_cpu, with_cpu}
use Rattle.vm_state.specs.Sound.{IsCpu, IsMachine, ScriptStands, SeatFits, IsSoundState}
use Rattle.vm_state.specs.State.{State, empty_seat, next_order, open_grants, seat_at, with_machine, with_seat}
use Rattle.vm_state.proofs.Same.{Same, keeps_machine, images_same, meet_same, sampled_same}

-- ---- the machine

-- vCPU i is another, which was started where it was
pub record Continues (i : ℕ) (old new : Cpu) : Type 0 where
  pub is_cpu : IsCpu i new
  pub started : old.started ≡ true → new.started ≡ true
  pub timer : new.lapic.timer_initial ≡ 0 → old.lapic.timer_initial ≡ 0

-- what holds of each vCPU and of the new one
pub each_set : (P : ℕ → Cpu → Type 0) (cpus : List Cpu) (i : ℕ) (new : Cpu) → ((k : ℕ) → P k (get_or cpus k (unstarted_cpu k))) → P i new
    → (k : ℕ) → P k (get_or (set cpus i new) k (unstarted_cpu k))
each_set P cpus i new all one k =
    elim (cases_eq k i) [
      | inl same ↦
          elim (cases_lt i (length cpus)) [
            | inl l ↦ subst (λ c. P k c) (sym (get_or-set_at cpus i k new (unstarted_cpu k) same l)) (subst (λ j. P j new) (sym same) one)
            | inr past ↦ subst (λ (xs : List Cpu). P k (get_or xs k (unstarted_cpu k))) (sym (set_past cpus i new past)) (all k)
          ]
      | inr other ↦ subst (λ c. P k c) (sym (get_or-set_other cpus i k new (unstarted_cpu k) other)) (all k)
    ]

pub keeps_vcpu : (m : MachineState) (i : ℕ) (cpu : Cpu) → IsMachine m → Continues i (cpu_at m i) cpu → IsMachine (with_cpu m i cpu)
keeps_vcpu m i cpu h c =
    let long = length-set m.cpus i cpu in
    let some = h.some_cpu in
    let most = h.cpus in
    record {
      some_cpu = omega arith;
      cpus = omega arith;
      first =
          each_set (λ k (x : Cpu). k ≡ 0 → x.started ≡ true) m.cpus i cpu (λ k z. subst (λ j. (cpu_at m j).started ≡ true) (sym z) h.first)
          (λ z. c.started (subst (λ j. (cpu_at m j).started ≡ true) (sym z) h.first)) 0 refl;
      each_cpu = each_set (λ k x. IsCpu k x) m.cpus i cpu h.each_cpu c.is_cpu;
      ram = h.ram;
      some_code = h.some_code;
      code = h.code;
      ioapic = h.ioapic;
      uart = h.uart;
      pins = h.pins;
      drives = h.drives;
      each_drive = h.each_drive;
      timers = record {
        count = h.timers.count;
        disarmed = each_set (λ k (x : Cpu). x.lapic.timer_initial ≡ 0 → left_of m.timers k ≡ 0) m.cpus i cpu h.timers.disarmed (λ z. h.timers.disarmed i (c.timer z));
      };
    }

-- ---- the run: vCPU i is another in the same stage

same_set : (m : MachineState) (i : ℕ) (cpu : Cpu) → cpu.stage ≡ (cpu_at m i).stage → cpu.halted ≡ (cpu_at m i).halted → Same m (with_cpu m i cpu)
same_set m i cpu stage halted = record {
  count = length-set m.cpus i cpu;
  stage = each_set (λ k (x : Cpu). x.stage ≡ (cpu_at m k).stage) m.cpus i cpu (λ k. refl) stage;
  halted = each_set (λ k (x : Cpu). x.halted ≡ (cpu_at m k).halted) m.cpus i cpu (λ k. refl) halted;
  meet = refl;
  pause = refl;
  code = refl;
}

pub same_cpu : (m : MachineState) (i : ℕ) (cpu : Cpu) → cpu.stage ≡ (cpu_at m i).stage → cpu.halted ≡ (cpu_at m i).halted → Same m (with_cpu m i cpu)
same_cpu m i cpu stage halted = same_set m i cpu stage halted

pub keeps_cpu : (s : State) (i : ℕ) (cpu : Cpu) → IsSoundState s → Continues i (cpu_at s.machine i) cpu
    → cpu.stage ≡ (cpu_at s.machine i).stage → cpu.halted ≡ (cpu_at s.machine i).halted → IsSoundState (with_machine s (with_cpu s.machine i cpu))
keeps_cpu s i cpu h c stage halted =
    keeps_machine s (with_cpu s.machine i cpu) h (keeps_vcpu s.machine i cpu h.machine c) (same_set s.machine i cpu stage halted) refl

-- ---- the run: vCPU i and its seat are others, and so many instructions were executed

seat_later : (i before executed : ℕ) (cpu : Cpu) (seat : Seat) → before ≤ executed → SeatFits i before cpu seat → SeatFits i executed cpu seat
seat_later i before executed cpu seat le f = let ran = f.ran in record { owner = f.owner; stay = f.stay; ran = omega arith }

seats_set : (cpus : List Cpu) (seats : List Seat) (i before executed : ℕ) (cpu : Cpu) (seat : Seat) → length seats ≡ length cpus → before ≤ executed
    → ((k : ℕ) → SeatFits k before (get_or cpus k (unstarted_cpu k)) (get_or seats k empty_seat)) → SeatFits i executed cpu seat
    → (k : ℕ) → SeatFits k executed (get_or (set cpus i cpu) k (unstarted_cpu k)) (get_or (set seats i seat) k empty_seat)
seats_set cpus seats i before executed cpu seat long le all one k =
    elim (cases_eq k i) [
      | inl same ↦
          elim (cases_lt i (length cpus)) [
            | inl l ↦
                subst (λ c. SeatFits k executed c (get_or (set seats i seat) k empty_seat)) (sym (get_or-set_at cpus i k cpu (unstarted_cpu k) same l))
                (subst (λ x. SeatFits k executed cpu x) (sym (get_or-set_at seats i k seat empty_seat same (omega arith))) (subst (λ j. SeatFits j executed cpu seat) (sym same) one))
            | inr past ↦
                subst (λ (xs : List Cpu). SeatFits k executed (get_or xs k (unstarted_cpu k)) (get_or (set seats i seat) k empty_seat)) (sym (set_past cpus i cpu past))
                (subst (λ (xs : List Seat). SeatFits k executed (get_or cpus k (unstarted_cpu k)) (get_or xs k empty_seat)) (sym (set_past seats i seat (omega arith))) (seat_later k before executed _ _ le (all k)))
          ]
      | inr other ↦
          subst (λ c. SeatFits k executed c (get_or (set seats i seat) k empty_seat)) (sym (get_or-set_other cpus i k cpu (unstarted_cpu k) other))
          (subst (λ x. SeatFits k executed (get_or cpus k (unstarted_cpu k)) x) (sym (get_or-set_other seats i k seat empty_seat other)) (seat_later k before executed _ _ le (all k)))
    ]

pub keeps_at : (s : State) (i : ℕ) (cpu : Cpu) (seat : Seat) (executed : ℕ) → IsSoundState s → Continues i (cpu_at s.machine i) cpu → SeatFits i executed cpu seat
    → s.executed ≤ executed → executed + open_grants (set s.seats i seat) ≤ s.limit
    → IsSoundState (record (with_seat (with_machine s (with_cpu s.machine i cpu)) i seat) { executed = executed })
unfolding next_order
keeps_at s i cpu seat executed h c f le bound =
    let m = s.machine in
    let long = length-set m.cpus i cpu in
    record {
      machine = keeps_vcpu m i cpu h.machine c;
      seats = record {
        count = length-set s.seats i seat ∙ h.seats.count ∙ sym long;
        each = seats_set m.cpus s.seats i s.executed executed cpu seat h.seats.count le h.seats.each f;
      };
      meet = meet_same m (with_cpu m i cpu) m.meet m.meet long refl h.meet;
      images = images_same m (with_cpu m i cpu) s.images long refl h.images;
      counts = record {
        granted = bound;
        limit = h.counts.limit;
        seen = let seen = h.counts.seen in omega arith;
        pages = h.counts.pages;
        versions = λ page. let v = h.counts.versions page in omega arith;
        script = h.counts.script;
        answers = h.counts.answers;
      };
      samples = record {
        opened = h.samples.opened;
        asked = h.samples.asked;
        few = subst (λ k. length s.samples + k ≤ 16) (sym (sampled_same m (with_cpu m i cpu) m.meet m.meet long refl)) h.samples.few;
        none = h.samples.none;
      };
      script = λ e. subst (λ k. ScriptStands k m.pause s.place s.script) (sym long) (h.script e);
    }

-- vCPU i in another stage, with the same seat
pub keeps_stage : (s : State) (i : ℕ) (cpu : Cpu) → IsSoundState s → Continues i (cpu_at s.machine i) cpu → SeatFits i s.executed cpu (seat_at s i)
    → IsSoundState (with_machine s (with_cpu s.machine i cpu))
keeps_stage s i cpu h c f =
    let same = set-get_or s.seats i empty_seat in
    subst (λ (xs : List Seat). IsSoundState (record (with_machine s (with_cpu s.machine i cpu)) { seats = xs })) same
    (keeps_at s i cpu (seat_at s i) s.executed h c f (omega arith) (subst (λ (xs : List Seat). s.executed + open_grants xs ≤ s.limit) (sym same) h.counts.granted))

-- the grants with another seat i
pub grants_set : (seats : List Seat) (i : ℕ) (seat : Seat) → i < length seats → open_grants (set seats i seat) + (get_or seats i empty_seat).left ≡ open_grants seats + seat.left
unfolding open_grants
grants_set seats i seat l = sum_by-set (λ (x : Seat). x.left) seats i seat empty_seat l
