-- After the end each lawful entry brings Close nearer.
use Rattle.std.proofs.Common.{◌≡◌, ℕ, ◌<◌, Bool, true, false, not, length, refl, sym, arith}
use Rattle.std.specs.Prelude.{is_some}
use Rattle.std.proofs.lemmas.Bool.{and_parts, true≢false}
use Rattle.std.proofs.lemmas.Bool.Decides.{nat_tests}
use Rattle.std.proofs.lemmas.Grind.{common_steps}
use Rattle.vm_law.specs.declared.journal.EndCause.{EndCause}
use Rattle.vm_law.specs.declared.journal.Entry.{Entry}
use Rattle.vm_law.specs.declared.journal.Entry.TheVariants.{Claim, Start, Enter, Slice, Step, Exit, Sleep, Wake, Yield, Turn, Meet, Pull, Begin, Move, Hold, Put, Finish, Feed, Wish, Done, End, Close, Tick}
use Rattle.vm_law.specs.declared.journal.Signed.{Signed}
use Rattle.vm_state.specs.Machine.{cpu_count, drive_at, drive_count}
use Rattle.vm_state.specs.Sound.{IsHeld, IsSoundState}
use Rattle.vm_state.specs.State.{State, image_at}
use Rattle.vm_owners.specs.Owners.{may_start, may_sleep}
use Rattle.vm_running.specs.Enter.{may_enter}
use Rattle.vm_running.specs.Step.{may_step, has_step}
use Rattle.vm_disks.specs.Queueing.{may_pull, may_begin}
use Rattle.vm_orders.specs.Duties.{may_meet, may_feed, may_wish, may_tick}
use Rattle.vm_orders.specs.Done.{may_done}
use Rattle.vm_orders.specs.Ending.{may_end}
use Rattle.vm_table.specs.Table.{allowed, lawful, effect, counted, after}
use Rattle.vm_laws.specs.Ending.{cpu_need, disk_need, need}
use Rattle.vm_laws.proofs.Needs.{claim_falls, wake_falls, yield_falls, exit_falls, slice_falls, turn_falls, close_falls}
use Rattle.vm_laws.proofs.NeedsDisks.{move_falls, hold_falls, put_falls, finish_falls}

-- ---- what isn't lawful after the end

module _ (s : State) (e : is_some s.ended ≡ true) where
  no_start : (p i : ℕ) → may_start s p i ≡ true → ⊥
  unfolding may_start
  no_start p i m = grind (arith, nat_tests, common_steps, and_parts)

  no_enter : (p i g : ℕ) → may_enter s p i g ≡ true → ⊥
  unfolding may_enter
  no_enter p i g m = grind (arith, nat_tests, common_steps, and_parts)

  no_step : (p i : ℕ) → may_step s p i ≡ true → ⊥
  unfolding may_step has_step
  no_step p i m = grind (arith, nat_tests, common_steps, and_parts)

  no_sleep : (p i : ℕ) → may_sleep s p i ≡ true → ⊥
  unfolding may_sleep
  no_sleep p i m = grind (arith, nat_tests, common_steps, and_parts)

  no_meet : (p : ℕ) → may_meet s p ≡ true → ⊥
  unfolding may_meet
  no_meet p m = grind (arith, nat_tests, common_steps, and_parts)

  no_pull : (p d : ℕ) → may_pull s p d ≡ true → ⊥
  unfolding may_pull
  no_pull p d m = grind (arith, nat_tests, common_steps, and_parts)

  no_begin : (p d id : ℕ) → may_begin s p d id ≡ true → ⊥
  unfolding may_begin
  no_begin p d id m = grind (arith, nat_tests, common_steps, and_parts)

  no_feed : (p : ℕ) → may_feed s p ≡ true → ⊥
  unfolding may_feed
  no_feed p m = grind (arith, nat_tests, common_steps, and_parts)

  no_wish : (p : ℕ) → may_wish s p ≡ true → ⊥
  unfolding may_wish
  no_wish p m = grind (arith, nat_tests, common_steps, and_parts)

  no_tick : (p n : ℕ) → may_tick s p n ≡ true → ⊥
  unfolding may_tick
  no_tick p n m = grind (arith, nat_tests, common_steps, and_parts)

  no_done : (p k : ℕ) → may_done s p k ≡ true → ⊥
  unfolding may_done
  no_done p k m = grind (arith, nat_tests, common_steps, and_parts)

  no_end : (p : ℕ) (c : EndCause) → may_end s p c ≡ true → ⊥
  unfolding may_end
  no_end p c m = grind (arith, nat_tests, common_steps, and_parts)

-- ---- all of it

effect_falls : (s : State) (p : ℕ) (e : Entry) → length s.seats ≡ cpu_count s.machine → length s.images ≡ drive_count s.machine
    → ((d : ℕ) → d < drive_count s.machine → IsHeld (drive_at s.machine d).queue.requests (image_at s d).holder)
    → is_some s.ended ≡ true → s.closed ≡ false → allowed s p e ≡ true → need (effect s p e) < need s
unfolding allowed effect
effect_falls s p (Claim i) seats images held e g m = claim_falls s p i e m
effect_falls s p (Start i) seats images held e g m = absurd (no_start s e p i m)
effect_falls s p (Enter i grant) seats images held e g m = absurd (no_enter s e p i grant m)
effect_falls s p (Slice i n) seats images held e g m = slice_falls s p i n seats m
effect_falls s p (Step i) seats images held e g m = absurd (no_step s e p i m)
effect_falls s p (Exit i) seats images held e g m = exit_falls s p i seats m
effect_falls s p (Sleep i) seats images held e g m = absurd (no_sleep s e p i m)
effect_falls s p (Wake i) seats images held e g m = wake_falls s p i m
effect_falls s p (Yield i) seats images held e g m = yield_falls s p i m
effect_falls s p (Turn i) seats images held e g m = turn_falls s p i m
effect_falls s p Meet seats images held e g m = absurd (no_meet s e p m)
effect_falls s p (Pull d) seats images held e g m = absurd (no_pull s e p d m)
effect_falls s p (Begin d id) seats images held e g m = absurd (no_begin s e p d id m)
effect_falls s p (Move d id) seats images held e g m = move_falls s p d id images m
effect_falls s p (Hold d id) seats images held e g m = hold_falls s p d id images m
effect_falls s p (Put d id ok) seats images held e g m = put_falls s p d id ok images (held d) m
effect_falls s p (Finish d id) seats images held e g m = finish_falls s p d id images m
effect_falls s p Feed seats images held e g m = absurd (no_feed s e p m)
effect_falls s p Wish seats images held e g m = absurd (no_wish s e p m)
effect_falls s p (Done k) seats images held e g m = absurd (no_done s e p k m)
effect_falls s p (End c) seats images held e g m = absurd (no_end s e p c m)
effect_falls s p Close seats images held e g m = close_falls s g
effect_falls s p (Tick n) seats images held e g m = absurd (no_tick s e p n m)

counted_same : (s : State) → need (counted s) ≡ need s
unfolding counted need cpu_need disk_need
counted_same s = refl

not_true : (b : Bool) → not b ≡ true → b ≡ false
not_true true h = absurd (true≢false (sym h))
not_true false h = refl

lawful_tells : (s : State) (p : ℕ) (e : Entry) → lawful s p e ≡ true → (s.closed ≡ false) × (allowed s p e ≡ true)
unfolding lawful
lawful_tells s p e m = let t = and_parts (not s.closed) (allowed s p e) m in (not_true s.closed t.0, t.1)

pub closing : (s : State) (x : Signed) → IsSoundState s → is_some s.ended ≡ true → lawful s x.by x.entry ≡ true → need (after s x) < need s
unfolding after
closing s x h e m =
    let t = lawful_tells s x.by x.entry m in
    let f = effect_falls s x.by x.entry h.seats.count h.images.count (λ d l. (h.images.each d l).held) e t.0 t.1 in
    let c = counted_same (effect s x.by x.entry) in
    omega (arith, f, c)
