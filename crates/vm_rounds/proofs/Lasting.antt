-- Before the end, from 40,000,000 entries on: what is left of instructions, stays, vectors and time falls with each Tick.
use Rattle.std.specs.Prelude.{None, if◌then◌else◌, is_some}
use Rattle.std.proofs.Common.{◌≡◌, ◌⊎◌, ℕ, ◌+◌, ◌-◌, ◌*◌, ◌<◌, ◌≤◌, Bool, true, false, refl, sym, ap, ◌∙◌, inl, inr, arith}
use Rattle.std.proofs.lemmas.Bool.{and_parts, true≢false}
use Rattle.std.proofs.lemmas.Bool.Decides.{nat_tests}
use Rattle.std.proofs.lemmas.Grind.{common_steps}
use Rattle.vm_law.specs.declared.journal.EndCause.{EndCause}
use Rattle.vm_law.specs.declared.journal.Entry.{Entry}
use Rattle.vm_law.specs.declared.journal.Entry.TheVariants.{Claim, Start, Enter, Slice, Step, Exit, Sleep, Wake, Yield, Turn, Meet, Pull, Begin, Move, Hold, Put, Finish, Feed, Wish, Done, End, Close, Tick}
use Rattle.vm_law.specs.declared.journal.Signed.{Signed}
use Rattle.vm_state.specs.Sound.{IsSoundState}
use Rattle.vm_state.specs.State.{State}
use Rattle.vm_owners.specs.Owners.{after_exit}
use Rattle.vm_running.specs.Enter.{may_enter}
use Rattle.vm_orders.specs.Duties.{may_meet, may_tick, may_wish}
use Rattle.vm_orders.specs.Done.{may_done}
use Rattle.vm_orders.specs.Ending.{may_close, may_end}
use Rattle.vm_table.specs.Table.{after, allowed, counted, effect, lawful}
use Rattle.vm_table.proofs.Plan.{after_limit}
use Rattle.vm_laws.specs.Counting.{one_if}
use Rattle.vm_laws.specs.Entries.{is_enter}
use Rattle.vm_laws.specs.Waiting.{before_end, IsEarly}
use Rattle.vm_laws.proofs.Waiting.{control_falls, others_ease}
use Rattle.vm_rounds.proofs.Staying.{effect_stays}
use Rattle.vm_rounds.proofs.Walking.{Good, IsDue}
use Rattle.vm_rounds.proofs.Passing.{lawful_tells}
use Rattle.vm_rounds.proofs.Bits.{bits, bits_le}
use Rattle.vm_rounds.proofs.Busy.{Calm, busy, calm_busy, rest_at}
use Rattle.vm_rounds.proofs.Calming.{claim_calm, start_calm, exit_calm, sleep_calm, wake_calm, yield_calm, turn_calm, pull_calm, begin_calm, move_calm, hold_calm, put_calm, finish_calm, feed_calm}
use Rattle.vm_rounds.proofs.Stays.{enter_busy, slice_busy, slice_pause, step_busy, step_pause}

-- ---- what a pass but control adds, and what control adds before the end

abbrev pub IsPlain : Entry → Type 0
IsPlain Meet = ⊥
IsPlain Wish = ⊥
IsPlain (Done k) = ⊥
IsPlain (End c) = ⊥
IsPlain Close = ⊥
IsPlain (Tick n) = ⊥
IsPlain e = Unit {0}

-- it ends the run, or it leaves the wish to pause and no more is left of instructions and stays; an Enter takes a stay
abbrev Leaves : State → State → Bool → Type 0
Leaves s t enter = (is_some t.ended ≡ true) ⊎ ((busy t + one_if enter ≤ busy s) × (t.machine.pause ≡ s.machine.pause))

by_calm : (s t : State) → Calm s t → Leaves s t false
by_calm s t c = inr (let a = calm_busy s t c in omega (arith, a), c.pause)

enter_leaves : (s t : State) → (is_some t.ended ≡ true) ⊎ ((busy t < busy s) × (t.machine.pause ≡ s.machine.pause)) → Leaves s t true
enter_leaves s t (inl over) = inl over
enter_leaves s t (inr h) = inr (let a = h.0 in omega (arith, a), h.1)

step_leaves : (s t : State) → (is_some t.ended ≡ true) ⊎ (busy t ≤ busy s) → t.machine.pause ≡ s.machine.pause → Leaves s t false
step_leaves s t (inl over) p = inl over
step_leaves s t (inr h) p = inr (omega (arith, h), p)

effect_leaves : (s : State) (p : ℕ) (e : Entry) → IsSoundState s → s.machine.pause ≡ false → s.ended ≡ None → allowed s p e ≡ true → IsDue s e → IsPlain e → Leaves s (effect s p e) (is_enter e)
unfolding allowed effect
effect_leaves s p (Claim i) h w n m d q = by_calm s _ (claim_calm s p i m)
effect_leaves s p (Start i) h w n m d q = by_calm s _ (start_calm s p i m)
effect_leaves s p (Enter i grant) h w n m d q = enter_leaves s _ (enter_busy s p i grant h m)
effect_leaves s p (Slice i k) h w n m d q = step_leaves s _ (inr (slice_busy s p i k h m)) (slice_pause s i k)
effect_leaves s p (Step i) h w n m d q = step_leaves s _ (step_busy s p i h m) (step_pause s p i m)
effect_leaves s p (Exit i) h w n m d q = by_calm s _ (exit_calm s p i w n d)
effect_leaves s p (Sleep i) h w n m d q = by_calm s _ (sleep_calm s p i m)
effect_leaves s p (Wake i) h w n m d q = by_calm s _ (wake_calm s p i m)
effect_leaves s p (Yield i) h w n m d q = by_calm s _ (yield_calm s p i m)
effect_leaves s p (Turn i) h w n m d q = by_calm s _ (turn_calm s p i m)
effect_leaves s p Meet h w n m d q = absurd q
effect_leaves s p (Pull c) h w n m d q = by_calm s _ (pull_calm s c)
effect_leaves s p (Begin c id) h w n m d q = by_calm s _ (begin_calm s p c)
effect_leaves s p (Move c id) h w n m d q = by_calm s _ (move_calm s c id)
effect_leaves s p (Hold c id) h w n m d q = by_calm s _ (hold_calm s p c id)
effect_leaves s p (Put c id ok) h w n m d q = by_calm s _ (put_calm s c id ok)
effect_leaves s p (Finish c id) h w n m d q = by_calm s _ (finish_calm s c id)
effect_leaves s p Feed h w n m d q = by_calm s _ (feed_calm s)
effect_leaves s p Wish h w n m d q = absurd q
effect_leaves s p (Done k) h w n m d q = absurd q
effect_leaves s p (End c) h w n m d q = absurd q
effect_leaves s p Close h w n m d q = absurd q
effect_leaves s p (Tick k) h w n m d q = absurd q

counted_leaves : (s t : State) (b : Bool) → Leaves s t b → Leaves s (counted t) b
unfolding counted busy rest_at
counted_leaves s t b (inl over) = inl over
counted_leaves s t b (inr h) = inr (h.0, h.1)

after_leaves : (s : State) (x : Signed) → IsSoundState s → s.machine.pause ≡ false → s.ended ≡ None → Good s x → IsPlain x.entry → Leaves s (after s x) (is_enter x.entry)
unfolding after
after_leaves s x h w n g q = counted_leaves s (effect s x.by x.entry) (is_enter x.entry) (effect_leaves s x.by x.entry h w n (lawful_tells s x g.may).1 g.due q)

-- while a pause is wished it stays wished
no_enter : (s : State) (p i grant : ℕ) → s.machine.pause ≡ true → may_enter s p i grant ≡ true → ⊥
unfolding may_enter
no_enter s p i grant w m = let z : s.machine.pause ≡ false = grind (arith, nat_tests, common_steps, and_parts) in true≢false (sym w ∙ z)

effect_paused : (s : State) (p : ℕ) (e : Entry) → s.machine.pause ≡ true → allowed s p e ≡ true → IsPlain e → (effect s p e).machine.pause ≡ true
unfolding allowed effect after_exit
effect_paused s p (Claim i) w m q = (claim_calm s p i m).pause ∙ w
effect_paused s p (Start i) w m q = (start_calm s p i m).pause ∙ w
effect_paused s p (Enter i grant) w m q = absurd (no_enter s p i grant w m)
effect_paused s p (Slice i k) w m q = slice_pause s i k ∙ w
effect_paused s p (Step i) w m q = step_pause s p i m ∙ w
effect_paused s p (Exit i) w m q = w
effect_paused s p (Sleep i) w m q = (sleep_calm s p i m).pause ∙ w
effect_paused s p (Wake i) w m q = (wake_calm s p i m).pause ∙ w
effect_paused s p (Yield i) w m q = (yield_calm s p i m).pause ∙ w
effect_paused s p (Turn i) w m q = (turn_calm s p i m).pause ∙ w
effect_paused s p Meet w m q = absurd q
effect_paused s p (Pull c) w m q = (pull_calm s c).pause ∙ w
effect_paused s p (Begin c id) w m q = (begin_calm s p c).pause ∙ w
effect_paused s p (Move c id) w m q = (move_calm s c id).pause ∙ w
effect_paused s p (Hold c id) w m q = (hold_calm s p c id).pause ∙ w
effect_paused s p (Put c id ok) w m q = (put_calm s c id ok).pause ∙ w
effect_paused s p (Finish c id) w m q = (finish_calm s c id).pause ∙ w
effect_paused s p Feed w m q = (feed_calm s).pause ∙ w
effect_paused s p Wish w m q = absurd q
effect_paused s p (Done k) w m q = absurd q
effect_paused s p (End c) w m q = absurd q
effect_paused s p Close w m q = absurd q
effect_paused s p (Tick k) w m q = absurd q

after_paused : (s : State) (x : Signed) → s.machine.pause ≡ true → lawful s x.by x.entry ≡ true → IsPlain x.entry → (after s x).machine.pause ≡ true
unfolding after counted
after_paused s x w m q = effect_paused s x.by x.entry w (lawful_tells s x m).1 q

-- ---- time

effect_seen : (s : State) (p : ℕ) (e : Entry) → s.seen ≤ s.executed → IsPlain e → s.seen ≤ (effect s p e).seen
unfolding effect
effect_seen s p Close l q = absurd q
effect_seen s p e l q = elim (effect_stays s p e) [ inr c ↦ absurd c | inl k ↦ (elim k.seen [ inl same ↦ omega (arith, same) | inr now ↦ omega (arith, now, l) ]) ]

after_seen : (s : State) (x : Signed) → s.seen ≤ s.executed → IsPlain x.entry → s.seen ≤ (after s x).seen
unfolding after counted
after_seen s x l q = effect_seen s x.by x.entry l q

-- ---- all that is left

unfoldable pub ticks_left : State → ℕ
ticks_left s = (s.limit - s.seen) + 2 * busy s + bits s

abbrev ticks_if : State → Bool → ℕ
ticks_if s paused = if paused then 0 else ticks_left s

unfoldable pub before_last : State → ℕ
before_last s = before_end s + ticks_if s s.machine.pause

-- no entry but a Tick raises it
plain_left : (s : State) (x : Signed) → IsSoundState s → s.machine.pause ≡ false → s.ended ≡ None → Good s x → IsPlain x.entry → (is_some (after s x).ended ≡ true) ⊎ ((ticks_left (after s x) ≤ ticks_left s) × ((after s x).machine.pause ≡ false))
unfolding ticks_left
plain_left s x h w n g q = elim (after_leaves s x h w n g q) [
  | inl over ↦ inl over
  | inr k ↦ inr (
    let a = k.0 in
        let b = bits_le s x g.may in
        let c = after_seen s x h.counts.seen q in
        let d = after_limit s x in
        omega (arith, a, b, c, d),
    k.1 ∙ w,
  )
]

plain_by : (s : State) (x : Signed) (b : Bool) → s.machine.pause ≡ b → IsSoundState s → s.ended ≡ None → Good s x → IsPlain x.entry → (is_some (after s x).ended ≡ true) ⊎ (ticks_if (after s x) (after s x).machine.pause ≤ ticks_if s s.machine.pause)
plain_by s x true w h n g q = inr (let a : ticks_if (after s x) (after s x).machine.pause ≡ 0 = ap (λ b. ticks_if (after s x) b) (after_paused s x w g.may q) in omega (arith, a))
plain_by s x false w h n g q = elim (plain_left s x h w n g q) [
  | inl over ↦ inl over
  | inr k ↦ inr (
      let a : ticks_if (after s x) (after s x).machine.pause ≡ ticks_left (after s x) = ap (λ b. ticks_if (after s x) b) k.1 in
      let b : ticks_if s s.machine.pause ≡ ticks_left s = ap (λ b. ticks_if s b) w in
      let c = k.0 in
      omega (arith, a, b, c))
]

plain_ticks : (s : State) (x : Signed) → IsSoundState s → s.ended ≡ None → Good s x → IsPlain x.entry → (is_some (after s x).ended ≡ true) ⊎ (ticks_if (after s x) (after s x).machine.pause ≤ ticks_if s s.machine.pause)
plain_ticks s x h n g q = plain_by s x s.machine.pause refl h n g q

-- ---- entries of other passes

meet_by : (s : State) (p : ℕ) → may_meet s p ≡ true → p ≡ 0
unfolding may_meet
meet_by s p m = grind (arith, nat_tests, common_steps, and_parts)

wish_by : (s : State) (p : ℕ) → may_wish s p ≡ true → p ≡ 0
unfolding may_wish
wish_by s p m = grind (arith, nat_tests, common_steps, and_parts)

done_by : (s : State) (p k : ℕ) → may_done s p k ≡ true → p ≡ 0
unfolding may_done
done_by s p k m = grind (arith, nat_tests, common_steps, and_parts)

end_by : (s : State) (p : ℕ) (c : EndCause) → may_end s p c ≡ true → p ≡ 0
unfolding may_end
end_by s p c m = grind (arith, nat_tests, common_steps, and_parts)

close_by : (s : State) (p : ℕ) → may_close s p ≡ true → p ≡ 0
unfolding may_close
close_by s p m = grind (arith, nat_tests, common_steps, and_parts)

tick_by : (s : State) (p n : ℕ) → may_tick s p n ≡ true → p ≡ 0
unfolding may_tick
tick_by s p n m = grind (arith, nat_tests, common_steps, and_parts)

others_plain : (s : State) (p : ℕ) (e : Entry) → 0 < p → allowed s p e ≡ true → IsPlain e
unfolding allowed
others_plain s p Meet l m = absurd (let z = meet_by s p m in omega (arith, z, l))
others_plain s p Wish l m = absurd (let z = wish_by s p m in omega (arith, z, l))
others_plain s p (Done k) l m = absurd (let z = done_by s p k m in omega (arith, z, l))
others_plain s p (End c) l m = absurd (let z = end_by s p c m in omega (arith, z, l))
others_plain s p Close l m = absurd (let z = close_by s p m in omega (arith, z, l))
others_plain s p (Tick n) l m = absurd (let z = tick_by s p n m in omega (arith, z, l))
others_plain s p e l m = tt

pub others_last : (s : State) (x : Signed) → IsSoundState s → s.ended ≡ None → 0 < x.by → Good s x → (is_some (after s x).ended ≡ true) ⊎ (before_last (after s x) ≤ before_last s)
unfolding before_last
others_last s x h n l g =
    let a = others_ease s x h l g.may in
    elim (plain_ticks s x h n g (others_plain s x.by x.entry l (lawful_tells s x g.may).1)) [
      | inl over ↦ inl over
      | inr b ↦ inr (omega (arith, a, b))
    ]

-- ---- control's

early_plain : (e : Entry) → IsEarly e → IsPlain e
early_plain (Turn i) h = tt
early_plain (Yield i) h = tt
early_plain (Claim i) h = tt
early_plain Feed h = tt
early_plain e h = absurd h

pub early_last : (s : State) (e : Entry) → IsSoundState s → s.ended ≡ None → IsEarly e → Good s (record { by = 0; entry = e }) → (is_some (after s (record { by = 0; entry = e })).ended ≡ true) ⊎ (before_last (after s (record { by = 0; entry = e })) < before_last s)
unfolding before_last
early_last s e h n y g =
    let a = control_falls s e n y g.may in
    elim (plain_ticks s (record { by = 0; entry = e }) h n g (early_plain e y)) [
      | inl over ↦ inl over
      | inr b ↦ inr (omega (arith, a, b))
    ]
