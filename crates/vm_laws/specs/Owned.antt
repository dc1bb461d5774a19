-- What a pass owns no other pass changes.
use Rattle.std.specs.Prelude.{◌≡◌, ℕ, ◌*◌, ◌<◌, Bool, true, false, ◌==◌, List, ◌++◌, take, drop, slice_index, Option, Some, None}
use Rattle.vm_law.specs.declared.journal.Entry.{Entry}
use Rattle.vm_law.specs.declared.journal.Entry.TheVariants.{Put}
use Rattle.vm_law.specs.declared.journal.Signed.{Signed}
use Rattle.vm_law.specs.declared.stage.Owned.{Owned}
use Rattle.vm_law.specs.declared.stage.Owned.TheVariants.{Idle, Frozen, Running, Sleeping}
use Rattle.blk_queue.specs.declared.progress.Unfinished.{Unfinished}
use Rattle.blk_queue.specs.Progress.{moved_of}
use Rattle.blk_queue.specs.Queue.{request_of}
use Rattle.vm_state.specs.declared.start.Start as start_type
use Rattle.vm_state.specs.Machine.{MachineState, code_of, cpu_at, drive_at, drive_count}
use Rattle.vm_state.specs.Sound.{IsSoundState}
use Rattle.vm_state.specs.Start.{IsSound}
use Rattle.vm_state.specs.State.{State, image_at, seat_at}
use Rattle.vm_table.specs.History.{IsLegal, last_state}
use Rattle.vm_table.specs.Table.{after, lawful}

-- ---- a vCPU

-- the pass has the vCPU: it is frozen by it or runs by it
abbrev pub is_had_by : Owned → ℕ → Bool
is_had_by Idle p = false
is_had_by (Frozen q) p = q == p
is_had_by (Running q) p = q == p
is_had_by (Sleeping q) p = false

-- its stage, whether it is halted, its context, what is left of its grant, and whether it did something in its stay
pub record KeepsCpu (s t : State) (i : ℕ) : Type 0 where
  pub stage : (cpu_at t.machine i).stage ≡ (cpu_at s.machine i).stage
  pub halted : (cpu_at t.machine i).halted ≡ (cpu_at s.machine i).halted
  pub ctx : (cpu_at t.machine i).ctx ≡ (cpu_at s.machine i).ctx
  pub left : (seat_at t i).left ≡ (seat_at s i).left
  pub stayed : (seat_at t i).stayed ≡ (seat_at s i).stayed

-- while a pass has a vCPU, entries of other passes leave it
abbrev pub VcpusAreOwned : Type 0
VcpusAreOwned =
    (s : State) (x : Signed) (i p : ℕ) → lawful s x.by x.entry ≡ true → is_had_by (cpu_at s.machine i).stage p ≡ true → (x.by == p) ≡ false
    → KeepsCpu s (after s x) i

-- ---- an image

-- a request's kind, sectors and moved units, which no other request's work changes
abbrev pub SameWork : Option Unfinished → Option Unfinished → Type 0
SameWork None now = now ≡ None
SameWork (Some x) None = ⊥
SameWork (Some x) (Some now) = (now.request ≡ x.request) × (moved_of now.progress ≡ moved_of x.progress)

-- the image with its sectors in doubt and its holder, the disk as the guest sees it, and the request for which it is held
pub record KeepsImage (s t : State) (d id : ℕ) : Type 0 where
  pub bytes : (image_at t d).bytes ≡ (image_at s d).bytes
  pub doubt : (image_at t d).doubt ≡ (image_at s d).doubt
  pub holder : (image_at t d).holder ≡ (image_at s d).holder
  pub disk : (drive_at t.machine d).bytes ≡ (drive_at s.machine d).bytes
  pub work : SameWork (request_of (drive_at s.machine d).queue id) (request_of (drive_at t.machine d).queue id)

-- the entry brings the image of disk d back
abbrev pub is_put_of : ℕ → Entry → Bool
is_put_of d (Put c id ok) = c == d
is_put_of d e = false

-- while a pass holds the image of a disk for a request, entries of other passes leave these, and none brings it back
abbrev pub ImagesAreOwned : Type 0
ImagesAreOwned =
    (s : State) (x : Signed) (d p id : ℕ) → IsSoundState s → d < drive_count s.machine → lawful s x.by x.entry ≡ true
    → (image_at s d).holder ≡ Some (record { by = p; id = id }) → (x.by == p) ≡ false → KeepsImage s (after s x) d id × (is_put_of d x.entry ≡ false)

-- ---- the code

-- page k of the code, of 4,096 bytes
abbrev pub code_page : MachineState → ℕ → List ℕ
code_page m k = take 4096 (drop (4096 * k) (code_of m))

abbrev pub version_of : State → ℕ → ℕ
version_of s k = slice_index s.versions k

-- a page that has the same version after two parts of a history has the same bytes
abbrev pub PagesHaveVersions : Type 0
PagesHaveVersions =
    (start : start_type.Start) (shorter longer : List Signed) (k : ℕ) → IsSound start → IsLegal start (shorter ++ longer)
    → version_of (last_state start (shorter ++ longer)) k ≡ version_of (last_state start shorter) k
    → code_page (last_state start (shorter ++ longer)).machine k ≡ code_page (last_state start shorter).machine k
