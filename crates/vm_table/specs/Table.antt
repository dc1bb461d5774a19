-- The table of entries: which is lawful, and what it does.
use Rattle.std.specs.Prelude.{ℕ, ◌+◌, ◌-◌, ◌^◌, min, Bool, not, ◌&&◌}
use Rattle.vm_law.specs.declared.journal.Entry.{Entry}
use Rattle.vm_law.specs.declared.journal.Entry.TheVariants.{Claim, Start, Enter, Slice, Step, Exit, Sleep, Wake, Yield, Turn, Meet, Pull, Begin, Move, Hold, Put, Finish, Feed, Wish, Done, End, Close, Tick}
use Rattle.vm_law.specs.declared.journal.Signed.{Signed}
use Rattle.vm_state.specs.State.{State}
use Rattle.vm_owners.specs.Owners.{may_claim, after_claim, may_start, after_start, may_exit, after_exit, may_sleep, after_sleep, may_wake, after_wake, may_yield, after_yield}
use Rattle.vm_owners.specs.Turn.{may_turn, after_turn}
use Rattle.vm_running.specs.Enter.{may_enter, after_enter}
use Rattle.vm_running.specs.Slice.{may_slice, after_slice}
use Rattle.vm_running.specs.Step.{may_step, after_step}
use Rattle.vm_disks.specs.Queueing.{may_pull, after_pull, may_begin, after_begin}
use Rattle.vm_disks.specs.Moving.{may_move, after_move, may_finish, after_finish}
use Rattle.vm_disks.specs.Images.{may_hold, after_hold, may_put, after_put}
use Rattle.vm_orders.specs.Duties.{may_meet, after_meet, may_feed, after_feed, may_wish, after_wish, may_tick, after_tick}
use Rattle.vm_orders.specs.Done.{may_done, after_done}
use Rattle.vm_orders.specs.Ending.{may_end, after_end, may_close, after_close}

-- the entry's row allows it
unfoldable pub allowed : State → ℕ → Entry → Bool
allowed s p (Claim i) = may_claim s p i
allowed s p (Start i) = may_start s p i
allowed s p (Enter i grant) = may_enter s p i grant
allowed s p (Slice i n) = may_slice s p i n
allowed s p (Step i) = may_step s p i
allowed s p (Exit i) = may_exit s p i
allowed s p (Sleep i) = may_sleep s p i
allowed s p (Wake i) = may_wake s p i
allowed s p (Yield i) = may_yield s p i
allowed s p (Turn i) = may_turn s p i
allowed s p Meet = may_meet s p
allowed s p (Pull d) = may_pull s p d
allowed s p (Begin d id) = may_begin s p d id
allowed s p (Move d id) = may_move s p d id
allowed s p (Hold d id) = may_hold s p d id
allowed s p (Put d id ok) = may_put s p d id
allowed s p (Finish d id) = may_finish s p d id
allowed s p Feed = may_feed s p
allowed s p Wish = may_wish s p
allowed s p (Done k) = may_done s p k
allowed s p (End cause) = may_end s p cause
allowed s p Close = may_close s p
allowed s p (Tick n) = may_tick s p n

-- nothing is lawful after Close
unfoldable pub lawful : State → ℕ → Entry → Bool
lawful s p e = not s.closed && allowed s p e

-- the run after the entry, which isn't counted yet
unfoldable pub effect : State → ℕ → Entry → State
effect s p (Claim i) = after_claim s p i
effect s p (Start i) = after_start s i
effect s p (Enter i grant) = after_enter s p i grant
effect s p (Slice i n) = after_slice s i n
effect s p (Step i) = after_step s p i
effect s p (Exit i) = after_exit s p i
effect s p (Sleep i) = after_sleep s p i
effect s p (Wake i) = after_wake s p i
effect s p (Yield i) = after_yield s i
effect s p (Turn i) = after_turn s i
effect s p Meet = after_meet s
effect s p (Pull d) = after_pull s d
effect s p (Begin d id) = after_begin s p d
effect s p (Move d id) = after_move s d id
effect s p (Hold d id) = after_hold s p d id
effect s p (Put d id ok) = after_put s d id ok
effect s p (Finish d id) = after_finish s d id
effect s p Feed = after_feed s
effect s p Wish = after_wish s
effect s p (Done k) = after_done s
effect s p (End cause) = after_end s cause
effect s p Close = after_close s
effect s p (Tick n) = after_tick s n

-- one entry more, of which no more than 2^64 - 1 are counted
unfoldable pub counted : State → State
counted s = record s { entries = min (s.entries + 1) (2 ^ 64 - 1) }

-- the run after the entry
unfoldable pub after : State → Signed → State
after s x = counted (effect s x.by x.entry)
