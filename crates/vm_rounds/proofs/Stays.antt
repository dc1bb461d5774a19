-- What Slice, Step and Enter do to the instructions and stays that are left.
use Rattle.std.specs.Prelude.{Option, Some, None, Result, Ok, Err, nat_lt, if◌then◌else◌, is_none, is_some}
use Rattle.std.proofs.Common.{◌≡◌, ◌⊎◌, ℕ, ◌+◌, ◌<◌, ◌≤◌, Bool, true, false, not, List, length, get_or, set, refl, sym, ap, subst, ◌∙◌, inl, inr, arith}
use Rattle.std.proofs.Math.ListN.{length-set}
use Rattle.std.proofs.lemmas.Bool.{and_parts, cases_eq, cases_lt, true≢false, lt-ltb}
use Rattle.std.proofs.lemmas.Bool.Decides.{nat_tests}
use Rattle.std.proofs.lemmas.Grind.{common_steps}
use Rattle.std.proofs.lemmas.List.{get_or-set_same, get_or-set_other, set_past}
use Rattle.std.proofs.lemmas.List.Sums.{get_or-le-sum_by}
use Rattle.vm_law.specs.declared.context.Ctx.{Ctx}
use Rattle.vm_law.specs.declared.context.Stop.{Stop}
use Rattle.vm_law.specs.declared.insn.Insn.{Insn}
use Rattle.vm_law.specs.declared.stage.Owned.TheVariants.{Running}
use Rattle.x86_exec.specs.declared.effect.Effect.{Effect}
use Rattle.x86_exec.specs.declared.effect.Effect.TheVariants as effect
use Rattle.x86_exec.specs.Shared as exec
use Rattle.x86_fetch.specs.declared.fetching.Next.{Next}
use Rattle.x86_fetch.specs.declared.fetching.Next.TheVariants.{Local, Shared, Undefined, OutOfCode}
use Rattle.x86_trap.specs.Delivery.{delivered, Delivered}
use Rattle.vm_lapic.specs.Apic.{ready}
use Rattle.vm_state.specs.declared.cpu.Cpu.{Cpu}
use Rattle.vm_state.specs.declared.cpu.Seat.{Seat}
use Rattle.vm_state.specs.Machine.{MachineState, cpu_at, cpu_count, is_frozen, takes_nmi, takes_vector, unstarted_cpu}
use Rattle.vm_state.specs.Sound.{IsSoundState}
use Rattle.vm_state.specs.State.{State, empty_seat, open_grants, seat_at, with_machine}
use Rattle.x86_fetch.specs.Fetching.{is_local_next}
use Rattle.vm_devices.specs.Ports.{port_written}
use Rattle.vm_running.specs.Enter.{may_enter, stopped_at, entered, taken, settled, delivered_in, nmi_taken, vector_taken, interrupt_taken, after_enter}
use Rattle.vm_running.specs.Slice.{has_slice, may_slice, spent, after_slice}
use Rattle.vm_running.specs.Step.{has_step, is_allowed, may_step, next_at, stepped_to, stored_in, after_trap, trapped, performed_as, performed, after_step, printed, port_in, port_out, window_load, window_store}
use Rattle.vm_laws.proofs.Accesses.{Accessed, accessed_window, accessed_read, accessed_written}
use Rattle.vm_laws.proofs.Heard.{cpu_set}
use Rattle.vm_rounds.proofs.Busy.{Alike, Calm, alike_calm, busy, calm_busy, calm_less, rest_at, rest_frozen, set_calm, spent_busy, stepped_busy, then_alike}

-- ---- what is left of a grant is within the limit

left_le_open : (seats : List Seat) (i : ℕ) → i < length seats → (get_or seats i empty_seat).left ≤ open_grants seats
unfolding open_grants
left_le_open seats i l = get_or-le-sum_by (λ (x : Seat). x.left) seats i empty_seat l

left_within : (s : State) (i n : ℕ) → IsSoundState s → i < cpu_count s.machine → n ≤ (seat_at s i).left → s.executed + n ≤ s.limit
left_within s i n h l few =
    let long = h.seats.count in
    let g = h.counts.granted in
    let a = left_le_open s.seats i (omega (arith, long, l)) in
    omega (arith, a, g, few)

-- ---- Slice

slice_tells : (s : State) (p i n : ℕ) → may_slice s p i n ≡ true → (i < cpu_count s.machine) × (1 ≤ n) × (n ≤ (seat_at s i).left)
unfolding may_slice has_slice
slice_tells s p i n m = (grind (arith, nat_tests, common_steps, and_parts), grind (arith, nat_tests, common_steps, and_parts), grind (arith, nat_tests, common_steps, and_parts))

pub slice_busy : (s : State) (p i n : ℕ) → IsSoundState s → may_slice s p i n ≡ true → busy (after_slice s i n) ≤ busy s
unfolding after_slice spent
slice_busy s p i n h m = let t = slice_tells s p i n m in spent_busy s i _ _ n t.1 (left_within s i n h t.0 t.2)

pub slice_pause : (s : State) (i n : ℕ) → (after_slice s i n).machine.pause ≡ s.machine.pause
unfolding after_slice spent
slice_pause s i n = refl

-- ---- Step

record Did (s t : State) : Type 0 where
  count : cpu_count t.machine ≡ cpu_count s.machine
  pause : t.machine.pause ≡ s.machine.pause
  limit : t.limit ≡ s.limit
  went : (t.executed ≡ s.executed + 1) ⊎ (is_some t.ended ≡ true)

stepped_did : (s t : State) (i : ℕ) (c : Ctx) (halted : Bool) → cpu_count t.machine ≡ cpu_count s.machine → t.machine.pause ≡ s.machine.pause → t.limit ≡ s.limit → t.executed ≡ s.executed → Did s (stepped_to t i c halted)
unfolding stepped_to spent
stepped_did s t i c halted n p l e = record { count = length-set t.machine.cpus i _ ∙ n; pause = p; limit = l; went = inl (ap (λ (k : ℕ). k + 1) e) }

access_did : (s t : State) (i : ℕ) (c : Ctx) (halted : Bool) → Accessed s t → Did s (stepped_to t i c halted)
access_did s t i c halted a = stepped_did s t i c halted a.machine.count a.machine.pause a.limit a.executed

stop_did : (s : State) (i : ℕ) (why : Stop) → Did s (stopped_at s i why)
unfolding stopped_at
stop_did s i why = record { count = refl; pause = refl; limit = refl; went = inr refl }

trap_did : (s : State) (i : ℕ) (d : Delivered) (r : Result (Unit {0}) Stop) → Did s (after_trap s i d r)
trap_did s i d (Ok u) = stepped_did s _ i d.ctx false refl refl refl refl
trap_did s i d (Err why) = stop_did s i why

trapped_did : (s : State) (i rip v : ℕ) (error : Option ℕ) → Did s (trapped s i rip v error)
unfolding trapped
trapped_did s i rip v error = let d = delivered (record (cpu_at s.machine i).ctx { rip = rip }) s.machine.ram v error false in trap_did s i d d.answer

printed_accessed : (s : State) (m : MachineState) (byte : Option ℕ) → Accessed s (with_machine s m) → Accessed s (printed (with_machine s m) byte)
printed_accessed s m byte a = record { machine = a.machine; seats = a.seats; images = a.images; image = a.image; versions = a.versions; executed = a.executed; seen = a.seen; limit = a.limit; input = a.input; ended = a.ended; closed = a.closed }

performed_as_did : (s : State) (p i : ℕ) (insn : Insn) (len : ℕ) (x : exec.Shared) (e : Effect) → Did s (performed_as s p i insn len x e)
unfolding performed_as port_in port_out window_load window_store
performed_as_did s p i insn len x effect.Done = stepped_did s (stored_in s x) i x.ctx false refl refl refl refl
performed_as_did s p i insn len x effect.Halt = stepped_did s s i x.ctx true refl refl refl refl
performed_as_did s p i insn len x (effect.Trap v error) = trapped_did s i _ v error
performed_as_did s p i insn len x (effect.Stop why) = stop_did s i why
performed_as_did s p i insn len x (effect.PortIn port w) = access_did s _ i _ false (accessed_read s port w)
performed_as_did s p i insn len x (effect.PortOut port w value) = access_did s _ i x.ctx false (printed_accessed s (port_written s.machine port w value) _ (accessed_written s port w value))
performed_as_did s p i insn len x (effect.Load a) = stepped_did s s i _ false refl refl refl refl
performed_as_did s p i insn len x (effect.Store a value) = access_did s _ i x.ctx false (accessed_window s p i a value)

not_local : (b : Bool) → not b ≡ true → b ≡ true → ⊥
not_local true h e = true≢false (sym h)
not_local false h e = true≢false (sym e)

performed_did : (s : State) (p i : ℕ) (n : Next) → is_local_next n ≡ false → Did s (performed s p i n)
unfolding performed
performed_did s p i (Local insn len) h = absurd (true≢false h)
performed_did s p i (Shared insn len) h = let x = exec.shared (cpu_at s.machine i).ctx insn len s.machine.ram in performed_as_did s p i insn len x x.effect
performed_did s p i Undefined h = trapped_did s i _ 6 None
performed_did s p i OutOfCode h = stop_did s i _

false_of : (b : Bool) → not b ≡ true → b ≡ false
false_of true h = absurd (true≢false (sym h))
false_of false h = refl

step_tells : (s : State) (p i : ℕ) → may_step s p i ≡ true → (i < cpu_count s.machine) × (1 ≤ (seat_at s i).left)
unfolding may_step has_step
step_tells s p i m = (grind (arith, nat_tests, common_steps, and_parts), grind (arith, nat_tests, common_steps, and_parts))

step_no_local : (s : State) (p i : ℕ) → may_step s p i ≡ true → is_local_next (next_at s i) ≡ false
unfolding may_step
step_no_local s p i m = false_of _ (and_parts _ _ (and_parts (has_step s p i) (is_allowed s i) m).1).0

step_did : (s : State) (p i : ℕ) → may_step s p i ≡ true → Did s (after_step s p i)
unfolding after_step
step_did s p i m = performed_did s p i (next_at s i) (step_no_local s p i m)

pub step_pause : (s : State) (p i : ℕ) → may_step s p i ≡ true → (after_step s p i).machine.pause ≡ s.machine.pause
step_pause s p i m = (step_did s p i m).pause

pub step_busy : (s : State) (p i : ℕ) → IsSoundState s → may_step s p i ≡ true → (is_some (after_step s p i).ended ≡ true) ⊎ (busy (after_step s p i) ≤ busy s)
step_busy s p i h m =
    let d = step_did s p i m in
    let t = step_tells s p i m in
    elim d.went [
      | inr over ↦ inl over
      | inl one ↦ inr (let r = left_within s i 1 h t.0 t.1 in stepped_busy s (after_step s p i) d.count h.machine.cpus (omega (arith, r)) d.limit one)
    ]

-- ---- Enter

-- what is taken leaves these, or it ends the run
record Took (t u : State) : Type 0 where
  alike : Alike t u
  executed : u.executed ≡ t.executed
  limit : u.limit ≡ t.limit

abbrev Takes : State → State → Type 0
Takes t u = Took t u ⊎ (is_some u.ended ≡ true)

took_itself : (t : State) → Took t t
took_itself t = record { alike = record { count = refl; stage = λ k. refl; halted = λ k. refl; seat = λ k. refl; meet = refl; pause = refl }; executed = refl; limit = refl }

seat_set : (s : State) (i : ℕ) (x : Seat) → x.left ≡ (seat_at s i).left → (k : ℕ) → (get_or (set s.seats i x) k empty_seat).left ≡ (seat_at s k).left
seat_set s i x e k =
    elim (cases_eq k i) [
      | inr ne ↦ ap (λ (y : Seat). y.left) (get_or-set_other s.seats i k x empty_seat ne)
      | inl same ↦ (elim (cases_lt i (length s.seats)) [
        | inl l ↦ subst (λ (j : ℕ). (get_or (set s.seats i x) j empty_seat).left ≡ (seat_at s j).left) (sym same) (ap (λ (y : Seat). y.left) (get_or-set_same s.seats i x empty_seat l) ∙ e)
        | inr past ↦ ap (λ (ys : List Seat). (get_or ys k empty_seat).left) (set_past s.seats i x past)
      ])
    ]

taken_alike : (t : State) (i : ℕ) (c : Cpu) → c.stage ≡ (cpu_at t.machine i).stage → c.halted ≡ (cpu_at t.machine i).halted → Took t (taken t i c)
taken_alike t i c st h = record {
  alike = record {
    count = length-set t.machine.cpus i c;
    stage = cpu_set (λ x y. y.stage ≡ x.stage) t.machine i c (λ k. refl) st;
    halted = cpu_set (λ x y. y.halted ≡ x.halted) t.machine i c (λ k. refl) h;
    seat = seat_set t i (record (seat_at t i) { stayed = true }) refl;
    meet = refl;
    pause = refl;
  };
  executed = refl;
  limit = refl;
}

settled_takes : (t : State) (i : ℕ) (d : Delivered) (r : Result (Unit {0}) Stop) → Takes t (settled t i d r)
unfolding settled stopped_at
settled_takes t i d (Ok u) = inl (record {
  alike = record {
    count = length-set t.machine.cpus i _;
    stage = cpu_set (λ x y. y.stage ≡ x.stage) t.machine i (record (cpu_at t.machine i) { ctx = d.ctx }) (λ k. refl) refl;
    halted = cpu_set (λ x y. y.halted ≡ x.halted) t.machine i (record (cpu_at t.machine i) { ctx = d.ctx }) (λ k. refl) refl;
    seat = λ k. refl;
    meet = refl;
    pause = refl;
  };
  executed = refl;
  limit = refl;
})
settled_takes t i d (Err why) = inr refl

then_takes : (s t u : State) → Took s t → Takes t u → Takes s u
then_takes s t u a (inl b) = inl (record { alike = then_alike s t u a.alike b.alike; executed = b.executed ∙ a.executed; limit = b.limit ∙ a.limit })
then_takes s t u a (inr over) = inr over

delivered_takes : (t : State) (i v : ℕ) (nmi : Bool) → Takes t (delivered_in t i v nmi)
delivered_takes t i v nmi = let d = delivered (cpu_at t.machine i).ctx t.machine.ram v None nmi in settled_takes t i d d.answer

nmi_takes : (t : State) (i : ℕ) → Takes t (nmi_taken t i)
unfolding nmi_taken
nmi_takes t i = then_takes t (taken t i (record (cpu_at t.machine i) { nmi = false })) _ (taken_alike t i _ refl refl) (delivered_takes _ i 2 true)

vector_takes : (t : State) (i : ℕ) (o : Option ℕ) → Takes t (vector_taken t i o)
unfolding vector_taken
vector_takes t i None = inl (took_itself t)
vector_takes t i (Some v) = then_takes t (taken t i _) _ (taken_alike t i _ refl refl) (delivered_takes _ i v false)

interrupt_if : (t : State) (i : ℕ) (a b : Bool) → Takes t (if a then nmi_taken t i else if b then vector_taken t i (ready (cpu_at t.machine i).lapic) else t)
interrupt_if t i true b = nmi_takes t i
interrupt_if t i false true = vector_takes t i _
interrupt_if t i false false = inl (took_itself t)

interrupt_takes : (t : State) (i : ℕ) → Takes t (interrupt_taken t i)
unfolding interrupt_taken
interrupt_takes t i = interrupt_if t i (takes_nmi (cpu_at t.machine i)) (takes_vector (cpu_at t.machine i))

record EnterTells (s : State) (p i grant : ℕ) : Type 0 where
  cpu : i < cpu_count s.machine
  frozen : is_frozen (cpu_at s.machine i).stage p ≡ true
  some : 1 ≤ grant
  meet : is_none s.machine.meet ≡ true

enter_tells : (s : State) (p i grant : ℕ) → may_enter s p i grant ≡ true → EnterTells s p i grant
unfolding may_enter
enter_tells s p i grant m = record {
  cpu = grind (arith, nat_tests, common_steps, and_parts);
  frozen = grind (arith, nat_tests, common_steps, and_parts);
  some = grind (arith, nat_tests, common_steps, and_parts);
  meet = grind (arith, nat_tests, common_steps, and_parts);
}

entered_calm : (s : State) (p i grant : ℕ) → EnterTells s p i grant → Calm s (entered s p i grant)
unfolding entered
entered_calm s p i grant t = set_calm s i _ _ s.executed (rest_frozen s i p t.frozen) (omega arith)

entered_runs : (s : State) (p i grant : ℕ) → IsSoundState s → EnterTells s p i grant → rest_at (entered s p i grant) i ≡ 0
unfolding entered rest_at
entered_runs s p i grant h t =
    let c : Cpu = record (cpu_at s.machine i) { stage = Running p; halted = false } in
    let x : Seat = record (seat_at s i) { left = grant; stayed = false } in
    let l : i < length s.seats = (let a = h.seats.count in let b = t.cpu in omega (arith, a, b)) in
    let at : get_or (set s.machine.cpus i c) i (unstarted_cpu i) ≡ c = get_or-set_same s.machine.cpus i c (unstarted_cpu i) t.cpu in
    let seat : get_or (set s.seats i x) i empty_seat ≡ x = get_or-set_same s.seats i x empty_seat l in
    let some : nat_lt 0 grant ≡ true = lt-ltb 0 grant (let a = t.some in omega (arith, a)) in
    rw (at, seat, some, t.meet) refl

pub enter_busy : (s : State) (p i grant : ℕ) → IsSoundState s → may_enter s p i grant ≡ true → (is_some (after_enter s p i grant).ended ≡ true) ⊎ ((busy (after_enter s p i grant) < busy s) × ((after_enter s p i grant).machine.pause ≡ s.machine.pause))
unfolding after_enter
enter_busy s p i grant h m =
    let t = enter_tells s p i grant m in
    let mid = entered s p i grant in
    let c = entered_calm s p i grant t in
    let one : rest_at s i ≡ 1 = rest_frozen s i p t.frozen in
    let zero_now = entered_runs s p i grant h t in
    let less = calm_less s mid i c t.cpu (omega (arith, one, zero_now)) in
    elim (interrupt_takes mid i) [
      | inr over ↦ inl over
      | inl k ↦ (let a = calm_busy mid (interrupt_taken mid i) (alike_calm mid (interrupt_taken mid i) k.alike k.executed k.limit) in inr (omega (arith, a, less), k.alike.pause ∙ c.pause))
    ]
