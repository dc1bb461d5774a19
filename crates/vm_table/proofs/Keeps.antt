-- Each lawful entry keeps what holds of every run.
use Rattle.std.proofs.Common.{◌≡◌, ℕ, true, not}
use Rattle.std.proofs.lemmas.Bool.{and_parts}
use Rattle.vm_law.specs.declared.journal.Entry.{Entry}
use Rattle.vm_law.specs.declared.journal.Entry.TheVariants.{Claim, Start, Enter, Slice, Step, Exit, Sleep, Wake, Yield, Turn, Meet, Pull, Begin, Move, Hold, Put, Finish, Feed, Wish, Done, End, Close, Tick}
use Rattle.vm_law.specs.declared.journal.Signed.{Signed}
use Rattle.vm_state.specs.Sound.{IsSoundState}
use Rattle.vm_state.specs.State.{State, next_order}
use Rattle.vm_owners.proofs.Owning.{keeps_claim, keeps_start, keeps_exit, keeps_sleep, keeps_wake, keeps_yield}
use Rattle.vm_owners.proofs.Turning.{keeps_turn}
use Rattle.vm_running.proofs.KeepsEnter.{keeps_enter}
use Rattle.vm_running.proofs.KeepsSlice.{keeps_slice}
use Rattle.vm_running.proofs.KeepsStep.{keeps_step}
use Rattle.vm_disks.proofs.Keeps.{keeps_begin, keeps_move, keeps_hold, keeps_put}
use Rattle.vm_disks.proofs.KeepsFinish.{keeps_finish}
use Rattle.vm_disks.proofs.KeepsPull.{keeps_pull}
use Rattle.vm_orders.proofs.Keeps.{keeps_meet, keeps_feed, keeps_wish, keeps_end, keeps_close, keeps_tick}
use Rattle.vm_orders.proofs.KeepsDone.{keeps_done}
use Rattle.vm_table.specs.Table.{allowed, lawful, effect, counted, after}

pub effect_keeps : (s : State) (p : ℕ) (e : Entry) → IsSoundState s → allowed s p e ≡ true → IsSoundState (effect s p e)
unfolding allowed effect
effect_keeps s p (Claim i) h m = keeps_claim s p i h m
effect_keeps s p (Start i) h m = keeps_start s p i h m
effect_keeps s p (Enter i grant) h m = keeps_enter s p i grant h m
effect_keeps s p (Slice i n) h m = keeps_slice s p i n h m
effect_keeps s p (Step i) h m = keeps_step s p i h m
effect_keeps s p (Exit i) h m = keeps_exit s p i h m
effect_keeps s p (Sleep i) h m = keeps_sleep s p i h m
effect_keeps s p (Wake i) h m = keeps_wake s p i h m
effect_keeps s p (Yield i) h m = keeps_yield s p i h m
effect_keeps s p (Turn i) h m = keeps_turn s p i h m
effect_keeps s p Meet h m = keeps_meet s p h m
effect_keeps s p (Pull d) h m = keeps_pull s p d h m
effect_keeps s p (Begin d id) h m = keeps_begin s p d id h m
effect_keeps s p (Move d id) h m = keeps_move s p d id h m
effect_keeps s p (Hold d id) h m = keeps_hold s p d id h m
effect_keeps s p (Put d id ok) h m = keeps_put s p d id ok h m
effect_keeps s p (Finish d id) h m = keeps_finish s p d id h m
effect_keeps s p Feed h m = keeps_feed s p h m
effect_keeps s p Wish h m = keeps_wish s p h m
effect_keeps s p (Done k) h m = keeps_done s p k h m
effect_keeps s p (End cause) h m = keeps_end s cause h
effect_keeps s p Close h m = keeps_close s h
effect_keeps s p (Tick n) h m = keeps_tick s n h

-- how many entries there were is in none of it
pub counted_keeps : (s : State) → IsSoundState s → IsSoundState (counted s)
unfolding counted next_order
counted_keeps s h = record {
  machine = h.machine;
  seats = h.seats;
  meet = h.meet;
  images = h.images;
  counts = (let c = h.counts in record { granted = c.granted; limit = c.limit; seen = c.seen; pages = c.pages; versions = c.versions; script = c.script; answers = c.answers });
  samples = (let c = h.samples in record { opened = c.opened; asked = c.asked; few = c.few; none = c.none });
  script = h.script;
}

pub after_keeps : (s : State) (x : Signed) → IsSoundState s → lawful s x.by x.entry ≡ true → IsSoundState (after s x)
unfolding after lawful
after_keeps s x h m = counted_keeps (effect s x.by x.entry) (effect_keeps s x.by x.entry h (and_parts (not s.closed) (allowed s x.by x.entry) m).1)
