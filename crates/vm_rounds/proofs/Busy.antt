-- Instructions that are left, and vCPUs that may begin a stay before one is executed.
use Rattle.std.specs.Prelude.{Option, ◌==◌, ◌&&◌, nat_lt, if◌then◌else◌, is_none}
use Rattle.std.proofs.Common.{◌≡◌, ◌≢◌, ℕ, zero, suc, ◌+◌, ◌-◌, ◌*◌, ◌<◌, ◌≤◌, Bool, true, false, not, length, set, refl, sym, ap, ◌∙◌, inl, inr, arith}
use Rattle.std.proofs.Math.ListN.{length-set}
use Rattle.std.proofs.lemmas.Bool.{cases_eq, true≢false}
use Rattle.std.proofs.lemmas.Bool.Decides.{nat_tests}
use Rattle.std.proofs.lemmas.Grind.{common_steps}
use Rattle.std.proofs.lemmas.List.{get_or-set_other}
use Rattle.vm_law.specs.declared.stage.Owned.{Owned}
use Rattle.vm_law.specs.declared.stage.Owned.TheVariants.{Idle, Frozen, Running, Sleeping}
use Rattle.vm_meet.specs.declared.meeting.Meeting.{Meeting}
use Rattle.vm_state.specs.declared.cpu.Cpu.{Cpu}
use Rattle.vm_state.specs.declared.cpu.Seat.{Seat}
use Rattle.vm_state.specs.Machine.{cpu_at, cpu_count, is_frozen, is_idle, is_sleeping, unstarted_cpu, with_cpu}
use Rattle.vm_state.specs.State.{State, empty_seat, seat_at, with_machine, with_seat}
use Rattle.vm_laws.specs.Counting.{one_if}
use Rattle.vm_laws.specs.Ending.{sum_below}
use Rattle.vm_laws.proofs.Framing.{is_run_stage}
use Rattle.vm_laws.proofs.Sums.{sum_le, sum_less}
use Rattle.vm_rounds.proofs.Bits.{point_most, sum_add}

-- the vCPU doesn't execute next: it would begin a stay first, or something is open that ends its stay
abbrev pub rest_of : Cpu → Seat → Option Meeting → ℕ
rest_of c x m = if is_run_stage c.stage && not c.halted && nat_lt 0 x.left && is_none m then 0 else 1

unfoldable pub rest_at : State → ℕ → ℕ
rest_at s k = rest_of (cpu_at s.machine k) (seat_at s k) s.machine.meet

-- 17 for each instruction that is left, and 1 for each of these
unfoldable pub busy : State → ℕ
busy s = 17 * (s.limit - s.executed) + sum_below (rest_at s) (cpu_count s.machine)

if_most : (b : Bool) → (if b then 0 else 1) ≤ 1
if_most true = omega arith
if_most false = omega arith

pub rest_most : (s : State) (k : ℕ) → rest_at s k ≤ 1
unfolding rest_at
rest_most s k = if_most _

pub rests_most : (s : State) (n : ℕ) → sum_below (rest_at s) n ≤ n
rests_most s zero = omega arith
rests_most s (suc n) = let a = rests_most s n in let b = rest_most s n in omega (arith, a, b)

-- ---- it rests where it doesn't run, or a rendezvous is open

no_run : (s : State) (i : ℕ) → is_run_stage (cpu_at s.machine i).stage ≡ false → rest_at s i ≡ 1
unfolding rest_at
no_run s i h = rw h refl

pub in_meeting : (s : State) (i : ℕ) → is_none s.machine.meet ≡ false → rest_at s i ≡ 1
unfolding rest_at
in_meeting s i h = let z : (is_run_stage (cpu_at s.machine i).stage && not (cpu_at s.machine i).halted && nat_lt 0 (seat_at s i).left && is_none s.machine.meet) ≡ false = grind (arith, common_steps) in rw z refl

idle_rests : (st : Owned) → is_idle st ≡ true → is_run_stage st ≡ false
idle_rests Idle h = refl
idle_rests (Frozen q) h = absurd (true≢false (sym h))
idle_rests (Running q) h = absurd (true≢false (sym h))
idle_rests (Sleeping q) h = absurd (true≢false (sym h))

frozen_rests : (st : Owned) (p : ℕ) → is_frozen st p ≡ true → is_run_stage st ≡ false
frozen_rests Idle p h = refl
frozen_rests (Frozen q) p h = refl
frozen_rests (Running q) p h = absurd (true≢false (sym h))
frozen_rests (Sleeping q) p h = refl

sleeping_rests : (st : Owned) (p : ℕ) → is_sleeping st p ≡ true → is_run_stage st ≡ false
sleeping_rests Idle p h = refl
sleeping_rests (Frozen q) p h = refl
sleeping_rests (Running q) p h = absurd (true≢false (sym h))
sleeping_rests (Sleeping q) p h = refl

pub rest_idle : (s : State) (i : ℕ) → is_idle (cpu_at s.machine i).stage ≡ true → rest_at s i ≡ 1
rest_idle s i h = no_run s i (idle_rests (cpu_at s.machine i).stage h)

pub rest_frozen : (s : State) (i p : ℕ) → is_frozen (cpu_at s.machine i).stage p ≡ true → rest_at s i ≡ 1
rest_frozen s i p h = no_run s i (frozen_rests (cpu_at s.machine i).stage p h)

pub rest_sleeping : (s : State) (i p : ℕ) → is_sleeping (cpu_at s.machine i).stage p ≡ true → rest_at s i ≡ 1
rest_sleeping s i p h = no_run s i (sleeping_rests (cpu_at s.machine i).stage p h)

-- ---- from one run to another

pub record Calm (s t : State) : Type 0 where
  pub count : cpu_count t.machine ≡ cpu_count s.machine
  pub pause : t.machine.pause ≡ s.machine.pause
  pub rest : (k : ℕ) → rest_at t k ≤ rest_at s k
  pub left : t.limit - t.executed ≤ s.limit - s.executed

pub calm_busy : (s t : State) → Calm s t → busy t ≤ busy s
unfolding busy
calm_busy s t c =
    let a = sum_le (rest_at t) (rest_at s) (cpu_count s.machine) (λ k l. c.rest k) in
    let b : sum_below (rest_at t) (cpu_count t.machine) ≡ sum_below (rest_at t) (cpu_count s.machine) = ap (λ n. sum_below (rest_at t) n) c.count in
    let d = c.left in
    omega (arith, a, b, d)

-- one rest less
pub calm_less : (s t : State) (i : ℕ) → Calm s t → i < cpu_count s.machine → rest_at t i < rest_at s i → busy t < busy s
unfolding busy
calm_less s t i c l less =
    let a = sum_less (rest_at t) (rest_at s) (cpu_count s.machine) i l less (λ k b. c.rest k) in
    let b : sum_below (rest_at t) (cpu_count t.machine) ≡ sum_below (rest_at t) (cpu_count s.machine) = ap (λ n. sum_below (rest_at t) n) c.count in
    let d = c.left in
    omega (arith, a, b, d)

-- vCPUs, seats and the rendezvous as they were
pub record Alike (s t : State) : Type 0 where
  pub count : cpu_count t.machine ≡ cpu_count s.machine
  pub stage : (k : ℕ) → (cpu_at t.machine k).stage ≡ (cpu_at s.machine k).stage
  pub halted : (k : ℕ) → (cpu_at t.machine k).halted ≡ (cpu_at s.machine k).halted
  pub seat : (k : ℕ) → (seat_at t k).left ≡ (seat_at s k).left
  pub meet : t.machine.meet ≡ s.machine.meet
  pub pause : t.machine.pause ≡ s.machine.pause

pub alike_rest : (s t : State) → Alike s t → (k : ℕ) → rest_at t k ≡ rest_at s k
unfolding rest_at
alike_rest s t a k =
    let st = a.stage k in
    let h = a.halted k in
    let x = a.seat k in
    let m = a.meet in
    ap (λ (y : Owned). if is_run_stage y && not (cpu_at t.machine k).halted && nat_lt 0 (seat_at t k).left && is_none t.machine.meet then 0 else 1) st
    ∙ ap (λ (y : Bool). if is_run_stage (cpu_at s.machine k).stage && not y && nat_lt 0 (seat_at t k).left && is_none t.machine.meet then 0 else 1) h
    ∙ ap (λ (y : ℕ). if is_run_stage (cpu_at s.machine k).stage && not (cpu_at s.machine k).halted && nat_lt 0 y && is_none t.machine.meet then 0 else 1) x
    ∙ ap (λ (y : Option Meeting). if is_run_stage (cpu_at s.machine k).stage && not (cpu_at s.machine k).halted && nat_lt 0 (seat_at s k).left && is_none y then 0 else 1) m

pub alike_calm : (s t : State) → Alike s t → t.executed ≡ s.executed → t.limit ≡ s.limit → Calm s t
alike_calm s t a e l = record {
  count = a.count;
  pause = a.pause;
  rest = λ k. (let x = alike_rest s t a k in omega (arith, x));
  left = omega (arith, e, l);
}

pub then_alike : (s t u : State) → Alike s t → Alike t u → Alike s u
then_alike s t u a b = record {
  count = b.count ∙ a.count;
  stage = λ k. b.stage k ∙ a.stage k;
  halted = λ k. b.halted k ∙ a.halted k;
  seat = λ k. b.seat k ∙ a.seat k;
  meet = b.meet ∙ a.meet;
  pause = b.pause ∙ a.pause;
}

-- ---- another vCPU i, in another seat

other_rest : (s : State) (i k : ℕ) (c : Cpu) (x : Seat) (n : ℕ) → k ≢ i → rest_at (record (with_seat (with_machine s (with_cpu s.machine i c)) i x) { executed = n }) k ≡ rest_at s k
unfolding rest_at
other_rest s i k c x n ne = rw (get_or-set_other s.machine.cpus i k c (unstarted_cpu k) ne, get_or-set_other s.seats i k x empty_seat ne) refl

pub set_calm : (s : State) (i : ℕ) (c : Cpu) (x : Seat) (n : ℕ) → rest_at s i ≡ 1 → s.executed ≤ n → Calm s (record (with_seat (with_machine s (with_cpu s.machine i c)) i x) { executed = n })
set_calm s i c x n full l =
    let t : State = record (with_seat (with_machine s (with_cpu s.machine i c)) i x) { executed = n } in
    record {
      count = length-set s.machine.cpus i c;
      pause = refl;
      rest = λ k. elim (cases_eq k i) [
        | inl same ↦ (let a = rest_most t k in let b : rest_at s k ≡ 1 = ap (λ (j : ℕ). rest_at s j) same ∙ full in omega (arith, a, b))
        | inr ne ↦ (let a = other_rest s i k c x n ne in omega (arith, a))
      ];
      left = omega (arith, l);
    }

-- the same where the seat stays
alone_other : (s : State) (i k : ℕ) (c : Cpu) → k ≢ i → rest_at (with_machine s (with_cpu s.machine i c)) k ≡ rest_at s k
unfolding rest_at
alone_other s i k c ne = rw (get_or-set_other s.machine.cpus i k c (unstarted_cpu k) ne) refl

pub alone_calm : (s : State) (i : ℕ) (c : Cpu) → rest_at s i ≡ 1 → Calm s (with_machine s (with_cpu s.machine i c))
alone_calm s i c full =
    let t : State = with_machine s (with_cpu s.machine i c) in
    record {
      count = length-set s.machine.cpus i c;
      pause = refl;
      rest = λ k. elim (cases_eq k i) [
        | inl same ↦ (let a = rest_most t k in let b : rest_at s k ≡ 1 = ap (λ (j : ℕ). rest_at s j) same ∙ full in omega (arith, a, b))
        | inr ne ↦ (let a = alone_other s i k c ne in omega (arith, a))
      ];
      left = omega arith;
    }

-- instructions of vCPU i were executed
pub spent_busy : (s : State) (i : ℕ) (c : Cpu) (x : Seat) (n : ℕ) → 1 ≤ n → s.executed + n ≤ s.limit → busy (record (with_seat (with_machine s (with_cpu s.machine i c)) i x) { executed = s.executed + n }) ≤ busy s
unfolding busy
spent_busy s i c x n some room =
    let t : State = record (with_seat (with_machine s (with_cpu s.machine i c)) i x) { executed = s.executed + n } in
    let m = cpu_count s.machine in
    let a = sum_le (rest_at t) (λ k. rest_at s k + one_if (i == k)) m (λ k l. elim (cases_eq k i) [
      | inl same ↦ (let z : (i == k) ≡ true = grind (arith, nat_tests, same) in let b = rest_most t k in let d : one_if (i == k) ≡ 1 = ap one_if z in omega (arith, b, d))
      | inr ne ↦ (let b = other_rest s i k c x (s.executed + n) ne in omega (arith, b))
    ]) in
    let b = sum_add (rest_at s) (λ k. one_if (i == k)) m in
    let d = point_most i m in
    let e : sum_below (rest_at t) (length (set s.machine.cpus i c)) ≡ sum_below (rest_at t) m = ap (λ (w : ℕ). sum_below (rest_at t) w) (length-set s.machine.cpus i c) in
    omega (arith, a, b, d, e, some, room)

-- an instruction was executed, whatever rests then
pub stepped_busy : (s t : State) → cpu_count t.machine ≡ cpu_count s.machine → cpu_count s.machine ≤ 16 → s.executed < s.limit → t.limit ≡ s.limit → t.executed ≡ s.executed + 1 → busy t ≤ busy s
unfolding busy
stepped_busy s t count most room limit executed =
    let a = rests_most t (cpu_count t.machine) in
    omega (arith, a, count, most, room, limit, executed)
