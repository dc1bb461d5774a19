-- What holds of every run is kept by what a vCPU's entries do, word by word.
use Rattle.std.specs.Prelude.{Some}
use Rattle.std.proofs.Common.{◌≡◌, ℕ, ◌+◌, ◌-◌, ◌^◌, ◌<◌, ◌≤◌, Bool, true, false, length, refl, arith}
use Rattle.std.proofs.lemmas.Grind.{common_steps}
use Rattle.vm_law.specs.declared.context.Ctx.{Ctx}
use Rattle.vm_law.specs.declared.context.Stop.{Stop}
use Rattle.vm_law.specs.declared.stage.Owned.{Owned}
use Rattle.vm_law.specs.declared.stage.Owned.TheVariants.{Idle, Frozen, Running, Sleeping}
use Rattle.vm_state.specs.declared.cpu.Cpu.{Cpu}
use Rattle.vm_state.specs.declared.cpu.Seat.{Seat}
use Rattle.vm_state.specs.declared.run_state.Why.{Why}
use Rattle.vm_state.specs.Machine.{cpu_at, with_cpu}
use Rattle.vm_state.specs.State.{State, seat_at, next_order, with_machine}
use Rattle.vm_state.specs.Sound.{IsSoundState, IsCpu, Stays, runs}
use Rattle.vm_state.proofs.Keeps.{keeps_at, grants_set}
use Rattle.vm_running.specs.Enter.{stopped_at}
use Rattle.vm_running.specs.Slice.{spent}
use Rattle.vm_running.proofs.Computing.{HasFlags}

-- the run's end is read by the script alone
pub keeps_ended : (s : State) (why : Why) → IsSoundState s → IsSoundState (record s { ended = Some why })
unfolding next_order
keeps_ended s why h = record {
  machine = h.machine;
  seats = h.seats;
  meet = h.meet;
  images = h.images;
  counts = record {
    granted = h.counts.granted;
    limit = h.counts.limit;
    seen = h.counts.seen;
    pages = h.counts.pages;
    versions = h.counts.versions;
    script = h.counts.script;
    answers = h.counts.answers;
  };
  samples = record { opened = h.samples.opened; asked = h.samples.asked; few = h.samples.few; none = h.samples.none };
  script = λ none. absurd (cc);
}

pub keeps_stopped : (s : State) (i : ℕ) (why : Stop) → IsSoundState s → IsSoundState (stopped_at s i why)
unfolding stopped_at
keeps_stopped s i why h = keeps_ended s _ h

-- memory is small
pub ram_small : (s : State) → IsSoundState s → length s.machine.ram.bytes < 2 ^ 64
ram_small s h = let most = h.machine.ram.size.most in omega arith

-- ---- n instructions were executed

-- whoever runs is started
runs_started : (i : ℕ) (cpu : Cpu) (b : Bool) → cpu.started ≡ b → IsCpu i cpu → runs cpu.stage ≡ true → cpu.started ≡ true
runs_started i cpu true e h goes = e
runs_started i cpu false e h goes = let still = h.unstarted e in absurd (grind (arith, common_steps))

-- only who runs has instructions left
left_runs : (st : Owned) (halted : Bool) (seat : Seat) → Stays st halted seat → 1 ≤ seat.left → runs st ≡ true
left_runs Idle halted seat h some = absurd (omega arith)
left_runs (Frozen p) halted seat h some = absurd (omega arith)
left_runs (Running p) halted seat h some = refl
left_runs (Sleeping p) halted seat h some = absurd (omega arith)

ran_stay : (st : Owned) (halted : Bool) (left ran : ℕ) → runs st ≡ true → Stays st halted (record { left = left; stayed = true; ran = ran })
ran_stay Idle halted left ran e = absurd (cc)
ran_stay (Frozen p) halted left ran e = absurd (cc)
ran_stay (Running p) halted left ran e = (λ _. refl, λ _. refl)
ran_stay (Sleeping p) halted left ran e = absurd (cc)

-- vCPU i executed n of the instructions that it has left, which led it to another context, and maybe halted it
pub keeps_executed : (s : State) (i n : ℕ) (c : Ctx) (halted : Bool) → IsSoundState s → i < length s.seats → 1 ≤ n → n ≤ (seat_at s i).left → HasFlags c
    → IsSoundState (spent (with_machine s (with_cpu s.machine i (record (cpu_at s.machine i) { ctx = c; halted = halted }))) i n)
unfolding spent
keeps_executed s i n c halted h within some left flags =
    let cpu = cpu_at s.machine i in
    let seat = seat_at s i in
    let before = h.machine.each_cpu i in
    let fits = h.seats.each i in
    let goes : runs cpu.stage ≡ true = left_runs cpu.stage cpu.halted seat fits.stay (omega arith) in
    let started : cpu.started ≡ true = runs_started i cpu cpu.started refl before goes in
    let next : Seat = record { left = seat.left - n; stayed = true; ran = seat.ran + n } in
    let grants = grants_set s.seats i next within in
    let granted = h.counts.granted in
    let ran = fits.ran in
    keeps_at s i (record cpu { ctx = c; halted = halted }) next (s.executed + n) h
    (record {
      is_cpu = record { flags = flags; waits = before.waits; unstarted = λ e. absurd (grind (arith, common_steps)); number = before.number };
      started = λ e. e;
      timer = λ e. e;
    })
    (record { owner = fits.owner; stay = ran_stay cpu.stage halted (seat.left - n) (seat.ran + n) goes; ran = omega arith })
    (omega arith) (omega arith)
