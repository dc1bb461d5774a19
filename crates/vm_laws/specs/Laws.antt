-- The laws of one history of the machine: its entries from its start on, of which any may be the one that is spoken of.
use Rattle.std.specs.Prelude.{◌≡◌, ℕ, ◌<◌, true, false, ◌==◌, List, [], ◌∷◌, ◌++◌, Option, Some, None}
use Rattle.std.specs.FinSet as set
use Rattle.vm_law.specs.declared.journal.Entry.TheVariants.{Finish}
use Rattle.vm_law.specs.declared.journal.Signed.{Signed}
use Rattle.blk_queue.specs.declared.progress.Unfinished.{Unfinished}
use Rattle.blk_queue.specs.Progress.{has_failed, is_dropped}
use Rattle.blk_queue.specs.Queue.{has_request, request_of}
use Rattle.vm_meet.specs.declared.meeting.Meeting.{Meeting}
use Rattle.vm_state.specs.declared.start.Origin.TheVariants.{Saved}
use Rattle.vm_state.specs.declared.start.Start as start_type
use Rattle.vm_state.specs.Machine.{MachineState, cpu_at, cpu_count, drive_at, drive_count}
use Rattle.vm_state.specs.Start.{IsSound, boot}
use Rattle.vm_state.specs.State.{image_at}
use Rattle.vm_state.specs.View.{MachineView}
use Rattle.vm_devices.specs.Timers.{left_at, is_periodic, vector_of, is_heard}
use Rattle.vm_table.specs.History.{IsCut, IsLegal, last_state}
use Rattle.vm_table.specs.Table.{after}
use Rattle.vm_laws.specs.Counting.{count_of}
use Rattle.vm_laws.specs.Cuts.{IsAtRest}
use Rattle.vm_laws.specs.Entries.{is_unit_of}
use Rattle.vm_laws.specs.Meetings.{Excludes, IsOpened, is_open_along}
use Rattle.vm_laws.specs.Owned.{KeepsCpu, KeepsImage, code_page, is_had_by, is_put_of, version_of}
use Rattle.vm_laws.specs.Requests.{IsDoneOnce, is_write_of, moved_in, queue_of}
use Rattle.vm_laws.specs.Timers.{RunsDown, arms, fires_in}
use Rattle.vm_laws.specs.Vectors.{IsBalanced, is_requested}

-- the history begins with these entries
abbrev pub BeginsWith : List Signed → List Signed → Type 0
BeginsWith history front = (rest : List Signed) × (history ≡ front ++ rest)

-- each vector that a local APIC accepts is serviced once, or is requested still
abbrev pub VectorLaw : start_type.Start → List Signed → Type 0
VectorLaw start history = (i v : ℕ) → IsBalanced start history i v

-- a rendezvous excludes; x opens it, and xs are the entries since then, up to the one that closes it
abbrev pub MeetingLaw : start_type.Start → List Signed → Type 0
MeetingLaw start history =
    (before : List Signed) (x : Signed) (m : Meeting) (xs : List Signed) → BeginsWith history (before ++ x ∷ xs)
    → IsOpened (last_state start before) x m → is_open_along (after (last_state start before) x) xs ≡ true
    → (m.done ≡ set.empty) × Excludes (after (last_state start before) x) m xs

-- so many units as the request has, unless it failed or was dropped
abbrev pub IsMovedWhole : ℕ → Option Unfinished → Type 0
IsMovedWhole n None = ⊥
IsMovedWhole n (Some x) = has_failed x ≡ false → is_dropped x ≡ false → n ≡ x.request.count

-- each block request is completed once, or was cancelled untouched, or is unfinished still; at any place so many of its
-- units are moved as entries moved one; where it is finished they are all moved; and disks change by Hold of a write alone
pub record RequestLaw (start : start_type.Start) (history : List Signed) : Type 0 where
  pub once : (d id : ℕ) → IsDoneOnce start history d id
  pub units : (before : List Signed) (d id : ℕ) → BeginsWith history before → has_request (queue_of (last_state start before).machine d) id ≡ true
      → moved_in (request_of (queue_of (last_state start before).machine d) id) ≡ count_of (λ s x. is_unit_of d id x.entry) (boot start) before
  pub whole : (before : List Signed) (x : Signed) (d id : ℕ) → BeginsWith history (before ++ x ∷ []) → x.entry ≡ Finish d id
      → IsMovedWhole (count_of (λ s y. is_unit_of d id y.entry) (boot start) before) (request_of (queue_of (last_state start before).machine d) id)
  pub disks : (before : List Signed) (x : Signed) (d : ℕ) → BeginsWith history (before ++ x ∷ []) → is_write_of (last_state start before) d x.entry ≡ false
      → (drive_at (after (last_state start before) x).machine d).bytes ≡ (drive_at (last_state start before).machine d).bytes

-- where a machine is saved everything is at rest, and a run on it begins with exactly it
pub record CutLaw (start : start_type.Start) (history : List Signed) : Type 0 where
  pub rest : (k : ℕ) (m : MachineState) → (c : IsCut start history k m) → IsAtRest (last_state start c.before)
  pub begins : (m : MachineView) → start.origin ≡ Saved m → (boot start).machine ≡ m.state

-- while a pass has a vCPU, or holds the image of a disk for a request, entries of other passes leave these; and a page of
-- the code that has the same version at two places has the same bytes
pub record OwnerLaw (start : start_type.Start) (history : List Signed) : Type 0 where
  pub vcpus : (before : List Signed) (x : Signed) (i p : ℕ) → BeginsWith history (before ++ x ∷ [])
      → is_had_by (cpu_at (last_state start before).machine i).stage p ≡ true → (x.by == p) ≡ false
      → KeepsCpu (last_state start before) (after (last_state start before) x) i
  pub images : (before : List Signed) (x : Signed) (d p id : ℕ) → BeginsWith history (before ++ x ∷ [])
      → d < drive_count (last_state start before).machine → (image_at (last_state start before) d).holder ≡ Some (record { by = p; id = id }) → (x.by == p) ≡ false
      → KeepsImage (last_state start before) (after (last_state start before) x) d id × (is_put_of d x.entry ≡ false)
  pub pages : (shorter between : List Signed) (k : ℕ) → BeginsWith history (shorter ++ between)
      → version_of (last_state start (shorter ++ between)) k ≡ version_of (last_state start shorter) k
      → code_page (last_state start (shorter ++ between)).machine k ≡ code_page (last_state start shorter).machine k

-- a timer fires at the first Tick that reaches what is left of it; one that fires once fires once each time that it is
-- armed; and a firing requests the timer's vector, where a post of it is accepted
pub record TimerLaw (start : start_type.Start) (history : List Signed) : Type 0 where
  pub down : (before xs : List Signed) (i : ℕ) → BeginsWith history (before ++ xs) → i < 16
      → count_of (arms i) (last_state start before) xs ≡ 0 → 0 < left_at (last_state start before).machine i
      → RunsDown (last_state start before) i xs
  pub once : (before : List Signed) (x : Signed) (xs : List Signed) (i : ℕ) → BeginsWith history (before ++ x ∷ xs) → i < 16
      → is_periodic (cpu_at (last_state start before).machine i).lapic ≡ false → fires_in i (last_state start before) x ≡ true
      → count_of (arms i) (after (last_state start before) x) xs ≡ 0 → count_of (fires_in i) (after (last_state start before) x) xs ≡ 0
  pub posts : (before : List Signed) (x : Signed) (i : ℕ) → BeginsWith history (before ++ x ∷ []) → i < cpu_count (last_state start before).machine
      → fires_in i (last_state start before) x ≡ true → is_heard (cpu_at (last_state start before).machine i).lapic ≡ true
      → is_requested (after (last_state start before) x).machine i (vector_of (cpu_at (last_state start before).machine i).lapic) ≡ true

-- all of them
pub record Laws (start : start_type.Start) (history : List Signed) : Type 0 where
  pub vectors : VectorLaw start history
  pub meetings : MeetingLaw start history
  pub requests : RequestLaw start history
  pub cuts : CutLaw start history
  pub owners : OwnerLaw start history
  pub timers : TimerLaw start history

-- they hold of every legal history from a sound start
abbrev pub LawsHold : Type 0
LawsHold = (start : start_type.Start) (history : List Signed) → IsSound start → IsLegal start history → Laws start history
