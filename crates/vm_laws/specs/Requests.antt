-- Each block request is completed once, or was cancelled untouched, or is queued still.
-- Source: OASIS virtio 1.2, sections 2.7.13, 2.7.14 and 5.2.6; FreeBSD usr.sbin/bhyve/block_if.c.
use Rattle.std.specs.Prelude.{◌≡◌, ℕ, ◌+◌, ◌≤◌, ◌⊎◌, Bool, true, false, not, ◌&&◌, ◌==◌, List, Option, Some, None}
use Rattle.vm_law.specs.declared.journal.Entry.{Entry}
use Rattle.vm_law.specs.declared.journal.Entry.TheVariants.{Pull, Finish, Hold}
use Rattle.vm_law.specs.declared.journal.Signed.{Signed}
use Rattle.blk_queue.specs.declared.progress.Unfinished.{Unfinished}
use Rattle.blk_queue.specs.Progress.{has_failed, is_dropped, is_flush, is_waiting, moved_of}
use Rattle.blk_queue.specs.Queue.{Queue, has_request, request_of, some_request}
use Rattle.vm_vblk.specs.Queue.{pull_of}
use Rattle.vm_vblk.specs.declared.pulled.Pulled.{Pulled}
use Rattle.vm_vblk.specs.declared.pulled.Pulled.TheVariants as pulled
use Rattle.vm_state.specs.declared.start.Start as start_type
use Rattle.vm_state.specs.Machine.{MachineState, drive_at}
use Rattle.vm_state.specs.Sound.{IsSoundState}
use Rattle.vm_state.specs.Start.{IsSound, boot}
use Rattle.vm_state.specs.State.{State}
use Rattle.vm_table.specs.History.{IsLegal, last_state}
use Rattle.vm_table.specs.Table.{after, lawful}
use Rattle.vm_laws.specs.Counting.{count_of, one_if}
use Rattle.vm_laws.specs.Entries.{is_finish_of, is_unit_of, is_work_on}

-- the unfinished requests of disk d
abbrev pub queue_of : MachineState → ℕ → Queue
queue_of m d = (drive_at m d).queue

abbrev pub is_request : Pulled → Bool
is_request (pulled.Request r) = true
is_request pulled.Answered = false
is_request pulled.Broken = false

abbrev pub takes_in : State → ℕ → Entry → Bool
takes_in s d (Pull c) = (c == d) && is_request (pull_of s.machine.ram (drive_at s.machine d).window).answer
takes_in s d e = false

-- the entry accepts a request of disk d
unfoldable pub accepts : ℕ → State → Signed → Bool
accepts d s x = takes_in s d x.entry

-- and gives it this id, which is the next one
unfoldable pub accepts_as : ℕ → ℕ → State → Signed → Bool
accepts_as d id s x = accepts d s x && ((queue_of s.machine d).next == id)

-- it cancels a request: one that no worker has is gone
unfoldable pub cancels : ℕ → ℕ → State → Signed → Bool
cancels d id s x = some_request (queue_of s.machine d) id is_waiting && not (has_request (queue_of (after s x).machine d) id)

-- ids follow each other by 1; a request that was there at the start or was accepted since then is there now, was finished, or
-- was cancelled, once each; and of one that was cancelled nothing was begun
pub record IsDoneOnce (start : start_type.Start) (history : List Signed) (d id : ℕ) : Type 0 where
  pub follow : (queue_of (last_state start history).machine d).next ≡ (queue_of (boot start).machine d).next + count_of (accepts d) (boot start) history
  pub known : one_if (has_request (queue_of (boot start).machine d) id) + count_of (accepts_as d id) (boot start) history ≤ 1
  pub balance :
      one_if (has_request (queue_of (boot start).machine d) id) + count_of (accepts_as d id) (boot start) history
      ≡ one_if (has_request (queue_of (last_state start history).machine d) id) + count_of (λ s x. is_finish_of d id x.entry) (boot start) history
      + count_of (cancels d id) (boot start) history
  pub untouched : (count_of (cancels d id) (boot start) history ≡ 0) ⊎ (count_of (λ s x. is_work_on d id x.entry) (boot start) history ≡ 0)

abbrev pub RequestsAreDoneOnce : Type 0
RequestsAreDoneOnce = (start : start_type.Start) (history : List Signed) (d id : ℕ) → IsSound start → IsLegal start history → IsDoneOnce start history d id

-- so many units of an unfinished request are moved as entries moved one, so the sectors follow each other
abbrev pub moved_in : Option Unfinished → ℕ
moved_in None = 0
moved_in (Some x) = moved_of x.progress

abbrev pub UnitsAreCounted : Type 0
UnitsAreCounted =
    (start : start_type.Start) (history : List Signed) (d id : ℕ) → IsSound start → IsLegal start history
    → has_request (queue_of (last_state start history).machine d) id ≡ true
    → moved_in (request_of (queue_of (last_state start history).machine d) id) ≡ count_of (λ s x. is_unit_of d id x.entry) (boot start) history

-- a request that is finished and neither failed nor was dropped was moved whole
abbrev pub IsWholeOrNot : Option Unfinished → Type 0
IsWholeOrNot None = ⊥
IsWholeOrNot (Some x) = has_failed x ≡ false → is_dropped x ≡ false → moved_of x.progress ≡ x.request.count

abbrev pub FinishedRequestsAreWhole : Type 0
FinishedRequestsAreWhole =
    (s : State) (p d id : ℕ) → IsSoundState s → lawful s p (Finish d id) ≡ true → IsWholeOrNot (request_of (queue_of s.machine d) id)

-- the entry holds the image of disk d for a write
abbrev pub writes_for : Option Unfinished → Bool
writes_for None = false
writes_for (Some x) = not (is_flush x.request)

abbrev pub is_write_of : State → ℕ → Entry → Bool
is_write_of s d (Hold c id) = (c == d) && writes_for (request_of (queue_of s.machine d) id)
is_write_of s d e = false

-- disks as the guest sees them change by Hold of a write alone
abbrev pub DisksChangeByHold : Type 0
DisksChangeByHold =
    (s : State) (x : Signed) (d : ℕ) → lawful s x.by x.entry ≡ true → is_write_of s d x.entry ≡ false
    → (drive_at (after s x).machine d).bytes ≡ (drive_at s.machine d).bytes
