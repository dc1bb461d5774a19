-- Where it is told at sight that control rests, no entry of its list is lawful.
use Rattle.std.specs.List.{find}
use Rattle.std.specs.Prelude.{Option, None, nat_le, nat_lt, length, is_none}
use Rattle.std.proofs.lemmas.Bool.{and_parts}
use Rattle.std.proofs.lemmas.Bool.Decides.{nat_tests}
use Rattle.std.proofs.Common.{◌≡◌, ℕ, ◌==◌, arith, Bool, true, false, not, ◌&&◌, ◌||◌, cond, List, [], ◌∷◌, Some, refl, ap, sym, ◌∙◌}
use Rattle.vm_law.specs.declared.journal.EndCause.TheVariants.{Budget}
use Rattle.vm_law.specs.declared.journal.Entry.{Entry}
use Rattle.vm_law.specs.declared.journal.Entry.TheVariants.{Close, Done, End, Feed, Meet, Tick, Wish}
use Rattle.vm_law.specs.declared.script.Order.{Order}
use Rattle.vm_law.specs.declared.script.Order.TheVariants.{WaitQuiet, WaitConsole, WaitExecuted, Input, Nmi, Rendezvous, Pause, Resume, Checkpoint, Set, Get, Cancel, Against, Send}
use Rattle.vm_devices.specs.Timers.{any_armed, any_live}
use Rattle.vm_state.specs.Machine.{any_eager}
use Rattle.vm_state.specs.State.{State, lag_of, next_order}
use Rattle.vm_orders.specs.Done.{has_come, is_met, is_ready, may_done}
use Rattle.vm_orders.specs.Duties.{is_pause, is_rendezvous, may_feed, may_meet, may_tick, may_wish, tick_of}
use Rattle.vm_orders.specs.Ending.{entry_limit, is_used_up, is_waiting, may_close, may_end}
use Rattle.vm_orders.specs.Quiet.{is_quiet, is_still}
use Rattle.vm_orders.specs.Resting.{moved_lately, rests_at_sight, waits_on}
use Rattle.vm_table.proofs.Stages.{control_last, for_all, not_lawful, pair_false}
use Rattle.vm_table.specs.Choosing.{NoneIsFree}
use Rattle.vm_table.specs.Table.{allowed, lawful}
use Rattle.vm_table.specs.Turns.{first_lawful, list_of}

is_absent : {A : Type 0} (o : Option A) → is_none o ≡ true → o ≡ None
is_absent None h = refl
is_absent (Some x) h = absurd (cc)

not_true : (b : Bool) → not b ≡ true → b ≡ false
not_true true h = absurd (cc)
not_true false h = refl

neither : (a b : Bool) → a ≡ false → b ≡ false → (a || b) ≡ false
neither true b h k = absurd (cc)
neither false b h k = k

left_true : (a b : Bool) → (a || b) ≡ true → b ≡ false → a ≡ true
left_true true b h k = refl
left_true false b h k = let g : true ≡ false = sym h ∙ k in absurd (cc)

-- an order that isn't there, or is a wait, asks for no entry but Done, and for that one only once it is over
record AsksNothing (s : State) (o : Option Order) : Type 0 where
  ready : is_ready s o ≡ false
  meets : is_rendezvous o ≡ false
  pauses : is_pause o ≡ false

asks_nothing : (s : State) (o : Option Order) → is_quiet s ≡ false → waits_on s o ≡ true → AsksNothing s o
asks_nothing s None q h = record { ready = refl; meets = refl; pauses = refl }
asks_nothing s (Some WaitQuiet) q h = record { ready = q; meets = refl; pauses = refl }
asks_nothing s (Some (WaitConsole n)) q h = record { ready = neither (has_come s (WaitConsole n)) (is_quiet s) (not_true (has_come s (WaitConsole n)) h) q; meets = refl; pauses = refl }
asks_nothing s (Some (WaitExecuted n)) q h = record { ready = neither (has_come s (WaitExecuted n)) (is_quiet s) (not_true (has_come s (WaitExecuted n)) h) q; meets = refl; pauses = refl }
asks_nothing s (Some (Input bytes)) q h = absurd (cc)
asks_nothing s (Some (Nmi i)) q h = absurd (cc)
asks_nothing s (Some (Cancel d id)) q h = absurd (cc)
asks_nothing s (Some Rendezvous) q h = absurd (cc)
asks_nothing s (Some Pause) q h = absurd (cc)
asks_nothing s (Some (Checkpoint name)) q h = absurd (cc)
asks_nothing s (Some (Against name base)) q h = absurd (cc)
asks_nothing s (Some (Send name)) q h = absurd (cc)
asks_nothing s (Some (Set i reg value)) q h = absurd (cc)
asks_nothing s (Some (Get i reg)) q h = absurd (cc)
asks_nothing s (Some Resume) q h = absurd (cc)

-- the parts of the test, up to each
abbrev to_order : State → Bool
to_order s = is_none s.ended && waits_on s (next_order s)

abbrev to_input : State → Bool
to_input s = to_order s && not (nat_lt 0 (length s.input))

abbrev to_lag : State → Bool
to_lag s = to_input s && moved_lately s

abbrev to_entries : State → Bool
to_entries s = to_lag s && nat_lt s.entries entry_limit

abbrev to_limit : State → Bool
to_limit s = to_entries s && not (s.executed == s.limit)

module _ (s : State) (rests : rests_at_sight s ≡ true) where
  all : (to_limit s && any_eager s.machine) ≡ true
  unfolding rests_at_sight
  all = rests

  at_limit : to_limit s ≡ true
  at_limit = (and_parts (to_limit s) (any_eager s.machine) all).0

  at_entries : to_entries s ≡ true
  at_entries = (and_parts (to_entries s) (not (s.executed == s.limit)) at_limit).0

  at_lag : to_lag s ≡ true
  at_lag = (and_parts (to_lag s) (nat_lt s.entries entry_limit) at_entries).0

  at_input : to_input s ≡ true
  at_input = (and_parts (to_input s) (moved_lately s) at_lag).0

  at_order : to_order s ≡ true
  at_order = (and_parts (to_order s) (not (nat_lt 0 (length s.input))) at_input).0

  goes_on : s.ended ≡ None
  goes_on = is_absent s.ended (and_parts (is_none s.ended) (waits_on s (next_order s)) at_order).0

  no_input : nat_lt 0 (length s.input) ≡ false
  no_input = not_true (nat_lt 0 (length s.input)) (and_parts (to_order s) (not (nat_lt 0 (length s.input))) at_input).1

  lately : moved_lately s ≡ true
  lately = (and_parts (to_input s) (moved_lately s) at_lag).1

  in_time : any_armed s.machine ≡ true → nat_le 1024 (lag_of s) ≡ false
  in_time armed =
      let few = left_true (nat_lt (lag_of s) 1024) (not (any_armed s.machine)) lately (ap not armed) in grind (arith, nat_tests, few)

  few_entries : nat_le entry_limit s.entries ≡ false
  few_entries = let few = (and_parts (to_lag s) (nat_lt s.entries entry_limit) at_entries).1 in grind (arith, nat_tests, few)

  below_limit : (s.executed == s.limit) ≡ false
  below_limit = not_true (s.executed == s.limit) (and_parts (to_entries s) (not (s.executed == s.limit)) at_limit).1

  some_eager : any_eager s.machine ≡ true
  some_eager = (and_parts (to_limit s) (any_eager s.machine) all).1

  not_still : is_still s ≡ false
  unfolding is_still
  not_still = rw some_eager refl

  not_quiet : is_quiet s ≡ false
  unfolding is_quiet
  not_quiet = rw not_still refl

  order : AsksNothing s (next_order s)
  order = asks_nothing s (next_order s) not_quiet (and_parts (is_none s.ended) (waits_on s (next_order s)) at_order).1

  no_feed : allowed s 0 Feed ≡ false
  unfolding allowed may_feed
  no_feed = rw no_input refl

  no_tick_by : (n : ℕ) (armed : Bool) → any_armed s.machine ≡ armed → allowed s 0 (Tick n) ≡ false
  unfolding allowed may_tick
  no_tick_by n false e = rw e refl
  no_tick_by n true e =
      pair_false (any_armed s.machine && not s.machine.pause && is_none s.ended && (n == tick_of s)) _
      (rw (in_time e, not_still) (pair_false (any_live s.machine) false refl))

  no_tick : (n : ℕ) → allowed s 0 (Tick n) ≡ false
  no_tick n = no_tick_by n (any_armed s.machine) refl

  no_end : allowed s 0 (End Budget) ≡ false
  unfolding allowed may_end is_used_up
  no_end =
      rw (few_entries, below_limit) (pair_false (is_none s.ended) _ (rw (pair_false (is_waiting s (next_order s)) false refl) refl))

  no_wish : allowed s 0 Wish ≡ false
  unfolding allowed may_wish
  no_wish = rw order.pauses refl

  no_meet : allowed s 0 Meet ≡ false
  unfolding allowed may_meet
  no_meet = rw order.meets refl

  no_done : (k : ℕ) → allowed s 0 (Done k) ≡ false
  unfolding allowed may_done
  no_done k = rw order.ready (pair_false ((k == s.place) && is_none s.ended) false refl)

  no_close : allowed s 0 Close ≡ false
  unfolding allowed may_close
  no_close = rw goes_on refl

  skipped : (e : Entry) (xs : List Entry) → allowed s 0 e ≡ false → find (λ x. lawful s 0 x) (e ∷ xs) ≡ find (λ x. lawful s 0 x) xs
  skipped e xs h = ap (λ (b : Bool). cond b (Some e) (find (λ x. lawful s 0 x) xs)) (not_lawful s 0 e h)

  nothing_for_all : find (λ e. lawful s 0 e) (for_all s) ≡ None
  nothing_for_all =
      skipped Feed (Tick (tick_of s) ∷ End Budget ∷ Wish ∷ Meet ∷ Done s.place ∷ Close ∷ []) no_feed
      ∙ skipped (Tick (tick_of s)) (End Budget ∷ Wish ∷ Meet ∷ Done s.place ∷ Close ∷ []) (no_tick (tick_of s))
      ∙ skipped (End Budget) (Wish ∷ Meet ∷ Done s.place ∷ Close ∷ []) no_end
      ∙ skipped Wish (Meet ∷ Done s.place ∷ Close ∷ []) no_wish
      ∙ skipped Meet (Done s.place ∷ Close ∷ []) no_meet
      ∙ skipped (Done s.place) (Close ∷ []) (no_done s.place)
      ∙ skipped Close [] no_close

  pub nothing_at_all : NoneIsFree s → first_lawful s 0 ≡ None
  unfolding list_of
  nothing_at_all none = control_last s none ∙ nothing_for_all
