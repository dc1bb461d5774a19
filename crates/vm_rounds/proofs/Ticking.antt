-- A Tick brings the end nearer: so many instructions were executed since the last one, or a vector is requested that wasn't.
use Rattle.std.specs.Prelude.{Option, Some, None, ◌&&◌, nat_le, if◌then◌else◌, unwrap_or}
use Rattle.std.proofs.Common.{◌≡◌, ◌⊎◌, ℕ, zero, suc, ◌+◌, ◌-◌, ◌<◌, ◌≤◌, Bool, true, false, not, length, add-one, refl, sym, ap, subst, ◌∙◌, inl, inr, arith}
use Rattle.std.proofs.lemmas.Bool.{and_parts, or_cases, cases_lt, true≢false, leb-true}
use Rattle.std.proofs.lemmas.Bool.Decides.{nat_tests}
use Rattle.std.proofs.lemmas.Grind.{common_steps}
use Rattle.vm_law.specs.declared.journal.Entry.TheVariants.{Tick}
use Rattle.vm_law.specs.declared.journal.Signed.{Signed}
use Rattle.vm_law.specs.declared.stage.Owned.{Owned}
use Rattle.vm_meet.specs.declared.meeting.Meeting.{Meeting}
use Rattle.vm_meet.specs.Meeting.{awaits}
use Rattle.vm_vectors.specs.Vectors.{has}
use Rattle.vm_state.specs.Machine.{MachineState, cpu_at, cpu_count}
use Rattle.vm_state.specs.Sound.{IsSoundState}
use Rattle.vm_state.specs.State.{State, lag_of}
use Rattle.vm_devices.specs.Timers.{any_live, is_armed, is_heard, is_live, least_live, left_at, smaller, vector_of}
use Rattle.vm_devices.proofs.Live.{least_all, least_below, least_more, least_none}
use Rattle.vm_orders.specs.Duties.{after_tick, may_tick, tick_of}
use Rattle.vm_orders.specs.Quiet.{is_still}
use Rattle.vm_table.specs.Table.{after, allowed, counted, effect, lawful}
use Rattle.vm_table.proofs.Plan.{after_limit}
use Rattle.vm_laws.specs.Timers.{fires_in}
use Rattle.vm_laws.specs.Vectors.{is_requested}
use Rattle.vm_laws.specs.Waiting.{before_end, take_at, to_take, turn_at}
use Rattle.vm_laws.proofs.Lists.{some_below}
use Rattle.vm_laws.proofs.Timing.{firing_posts}
use Rattle.vm_laws.proofs.Waiting.{Eases, eases_le}
use Rattle.vm_rounds.proofs.Passing.{lawful_tells}
use Rattle.vm_rounds.proofs.Bits.{below_vectors, bits, bits_le, bits_less}
use Rattle.vm_rounds.proofs.Busy.{busy, calm_busy, rest_at}
use Rattle.vm_rounds.proofs.Calming.{tick_alike, tick_calm}
use Rattle.vm_rounds.proofs.Lasting.{before_last, ticks_left}

-- ---- the live timer of which least is left

abbrev HasLeast : MachineState → ℕ → Option ℕ → Type 0
HasLeast m n None = (i : ℕ) → i < n → is_live m i ≡ false
HasLeast m n (Some k) = (i : ℕ) × (i < n) × (is_live m i ≡ true) × (left_at m i ≤ k)

one_more_live : (m : MachineState) (n : ℕ) (o : Option ℕ) (b : Bool) → is_live m n ≡ b → HasLeast m n o → HasLeast m (n + 1) (if b then smaller o (left_at m n) else o)
one_more_live m n None true e h = (n, omega arith, e, omega arith)
one_more_live m n (Some k) true e h =
    elim (cases_lt k (left_at m n)) [
      | inl l ↦ (h.0, (let a = h.1 in omega (arith, a)), h.2, (let a = h.3 in omega (arith, a, l)))
      | inr r ↦ (n, omega arith, e, omega (arith, r))
    ]
one_more_live m n None false e h = λ i l. elim (cases_lt i n) [ inl a ↦ h i a | inr b ↦ (let z : n ≡ i = omega (arith, l, b) in subst (λ (k : ℕ). is_live m k ≡ false) z e) ]
one_more_live m n (Some k) false e h = (h.0, (let a = h.1 in omega (arith, a)), h.2, h.3)

has_least : (m : MachineState) (n : ℕ) → HasLeast m n (least_below m n)
has_least m zero = subst (λ (o : Option ℕ). HasLeast m 0 o) (sym (least_none m)) (λ i l. absurd (omega (arith, l)))
has_least m (suc n) =
    let a = one_more_live m n (least_below m n) (is_live m n) refl (has_least m n) in
    subst (λ (k : ℕ). HasLeast m k (least_below m k)) (add-one n) (subst (λ (o : Option ℕ). HasLeast m (n + 1) o) (sym (least_more m n)) a)

record LeastLive (m : MachineState) : Type 0 where
  cpu : ℕ
  within : cpu < cpu_count m
  live : is_live m cpu ≡ true
  reached : left_at m cpu ≤ least_live m

least_as : (m : MachineState) (o : Option ℕ) → unwrap_or o 0 ≡ least_live m → HasLeast m (cpu_count m) o → any_live m ≡ true → LeastLive m
least_as m None e h a = let w = some_below (is_live m) (cpu_count m) a in absurd (true≢false (sym w.2 ∙ h w.0 w.1))
least_as m (Some k) e h a = record { cpu = h.0; within = h.1; live = h.2; reached = (let b = h.3 in omega (arith, b, e)) }

least_live_is : (m : MachineState) → any_live m ≡ true → LeastLive m
least_live_is m a = least_as m (least_below m (cpu_count m)) (least_all m) (has_least m (cpu_count m)) a

live_parts : (m : MachineState) (i : ℕ) → is_live m i ≡ true → (0 < left_at m i) × (is_heard (cpu_at m i).lapic ≡ true)
unfolding is_live
live_parts m i h =
    let t = and_parts (is_armed m i) (is_heard (cpu_at m i).lapic) h in
    let a = t.0 in
    (grind (arith, nat_tests), t.1)

heard_clear : (s : State) (i : ℕ) → is_heard (cpu_at s.machine i).lapic ≡ true → is_requested s.machine i (vector_of (cpu_at s.machine i).lapic) ≡ false
heard_clear s i h = not_of _ (and_parts _ (not (has (cpu_at s.machine i).lapic.irr (vector_of (cpu_at s.machine i).lapic))) h).1
  where
    not_of : (b : Bool) → not b ≡ true → b ≡ false
    not_of true e = absurd (true≢false (sym e))
    not_of false e = refl

-- ---- what a Tick does

record TickTells (s : State) (n : ℕ) : Type 0 where
  pause : s.machine.pause ≡ false
  amount : n ≡ tick_of s
  why : (nat_le 1024 (lag_of s) ≡ true) ⊎ (any_live s.machine ≡ true)

tick_tells : (s : State) (p n : ℕ) → may_tick s p n ≡ true → TickTells s n
unfolding may_tick
tick_tells s p n m = record {
  pause = grind (arith, nat_tests, common_steps, and_parts);
  amount = grind (arith, nat_tests, common_steps, and_parts);
  why = elim (or_cases (nat_le 1024 (lag_of s)) (any_live s.machine && is_still s) (and_parts _ _ m).1) [ inl a ↦ inl a | inr b ↦ inr (and_parts (any_live s.machine) (is_still s) b).0 ];
}

tick_less_amount : (s : State) (n : ℕ) → nat_le 1024 (lag_of s) ≡ false → n ≡ tick_of s → n ≡ least_live s.machine
unfolding tick_of
tick_less_amount s n h e = e ∙ ap (λ b. if b then lag_of s else least_live s.machine) h

abbrev ticked_by : ℕ → ℕ → Signed
ticked_by p n = record { by = p; entry = Tick n }

tick_is : (s : State) (p n : ℕ) → after s (ticked_by p n) ≡ counted (after_tick s n)
unfolding after effect
tick_is s p n = refl

tick_fires : (s : State) (p n i : ℕ) → 0 < left_at s.machine i → left_at s.machine i ≤ n → fires_in i s (ticked_by p n) ≡ true
unfolding fires_in
tick_fires s p n i some reached = grind (arith, nat_tests, common_steps)

tick_bits : (s : State) (p n : ℕ) → lawful s p (Tick n) ≡ true → any_live s.machine ≡ true → n ≡ least_live s.machine → bits (after s (ticked_by p n)) < bits s
tick_bits s p n m live e =
    let w = least_live_is s.machine live in
    let t = live_parts s.machine w.cpu w.live in
    let reach = w.reached in
    let fire = tick_fires s p n w.cpu t.0 (omega (arith, reach, e)) in
    bits_less s (ticked_by p n) w.cpu (vector_of (cpu_at s.machine w.cpu).lapic) m refl w.within (below_vectors _ (omega arith)) (heard_clear s w.cpu t.1)
    (firing_posts s (ticked_by p n) w.cpu w.within m fire t.1)

tick_busy : (s : State) (p n : ℕ) → busy (after s (ticked_by p n)) ≤ busy s
unfolding after effect counted busy rest_at
tick_busy s p n = calm_busy s (after_tick s n) (tick_calm s n)

tick_seen : (s : State) (p n : ℕ) → (after s (ticked_by p n)).seen ≡ s.executed
unfolding after effect counted after_tick
tick_seen s p n = refl

rest_input : (s : State) (n : ℕ) → length (after_tick s n).input ≤ length s.input
unfolding after_tick
rest_input s n = omega arith

rest_left : (s : State) (n : ℕ) → (after_tick s n).limit - (after_tick s n).executed ≤ s.limit - s.executed
unfolding after_tick
rest_left s n = omega arith

tick_eases : (s : State) (n : ℕ) → Eases s (after_tick s n)
unfolding take_at turn_at
tick_eases s n =
    let a = tick_alike s n in
    record {
      count = a.count;
      take = λ k. (let x = ap (λ b. to_take b (cpu_at (after_tick s n).machine k).stage) a.pause ∙ ap (λ (st : Owned). to_take s.machine.pause st) (a.stage k) in omega (arith, x));
      turn = λ k. (let x = ap {B = ℕ} (λ (o : Option Meeting). if awaits o k then 1 else 0) a.meet in omega (arith, x));
      input = rest_input s n;
      left = rest_left s n;
    }

tick_ends : (s : State) (p n : ℕ) → before_end (after s (ticked_by p n)) ≤ before_end s
unfolding after effect counted before_end take_at turn_at
tick_ends s p n = eases_le s (after_tick s n) (tick_eases s n)

tick_by_why : (s : State) (p n : ℕ) → IsSoundState s → lawful s p (Tick n) ≡ true → n ≡ tick_of s → (b : Bool) → nat_le 1024 (lag_of s) ≡ b → (b ≡ false → any_live s.machine ≡ true) → ticks_left (after s (ticked_by p n)) < ticks_left s
unfolding ticks_left
tick_by_why s p n h m e true f live =
    let lag : 1024 ≤ s.executed - s.seen = leb-true _ _ f in
    let a = tick_busy s p n in
    let b = bits_le s (ticked_by p n) m in
    let c = tick_seen s p n in
    let d = after_limit s (ticked_by p n) in
    let g = h.counts.granted in
    omega (arith, lag, a, b, c, d, g)
tick_by_why s p n h m e false f live =
    let a = tick_busy s p n in
    let b = tick_bits s p n m (live refl) (tick_less_amount s n f e) in
    let c = tick_seen s p n in
    let d = after_limit s (ticked_by p n) in
    let g = h.counts.seen in
    omega (arith, a, b, c, d, g)

live_if : (s : State) → (nat_le 1024 (lag_of s) ≡ true) ⊎ (any_live s.machine ≡ true) → nat_le 1024 (lag_of s) ≡ false → any_live s.machine ≡ true
live_if s (inl a) f = absurd (true≢false (sym a ∙ f))
live_if s (inr b) f = b

tick_paused : (s : State) (p n : ℕ) → (after s (ticked_by p n)).machine.pause ≡ s.machine.pause
unfolding after effect counted
tick_paused s p n = (tick_alike s n).pause

allowed_tick : (s : State) (p n : ℕ) → allowed s p (Tick n) ≡ true → may_tick s p n ≡ true
unfolding allowed
allowed_tick s p n m = m

pub tick_last : (s : State) (p n : ℕ) → IsSoundState s → lawful s p (Tick n) ≡ true → before_last (after s (ticked_by p n)) < before_last s
unfolding before_last
tick_last s p n h m =
    let t = tick_tells s p n (allowed_tick s p n (lawful_tells s (ticked_by p n) m).1) in
    let a = tick_ends s p n in
    let b = tick_by_why s p n h m t.amount (nat_le 1024 (lag_of s)) refl (live_if s t.why) in
    let c : (if (after s (ticked_by p n)).machine.pause then 0 else ticks_left (after s (ticked_by p n))) ≡ ticks_left (after s (ticked_by p n)) = ap (λ b. if b then 0 else ticks_left (after s (ticked_by p n))) (tick_paused s p n ∙ t.pause) in
    let d : (if s.machine.pause then 0 else ticks_left s) ≡ ticks_left s = ap (λ b. if b then 0 else ticks_left s) t.pause in
    omega (arith, a, b, c, d)
