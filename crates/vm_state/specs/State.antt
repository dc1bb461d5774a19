-- What a run consists of, and words on it.
use Rattle.std.specs.Prelude.{ℕ, ◌+◌, ◌/◌, ◌-◌, min, Bool, false, ◌==◌, nat_le, List, [], slice_get, slice_index, slice_index_or, slice_set, Option, Some, None, is_none, if◌then◌else◌}
use Rattle.std.specs.List.{list_all, sum_by}
use Rattle.vm_law.specs.declared.script.Order.{Order}
use Rattle.x86_exec.specs.declared.effect.Stored.{Stored}
use Rattle.vm_state.specs.declared.cpu.Seat.{Seat}
use Rattle.vm_state.specs.declared.image.DiskImage.{DiskImage}
use Rattle.vm_state.specs.declared.run_state.Answer.{Answer}
use Rattle.vm_state.specs.declared.run_state.Sample.{Sample}
use Rattle.vm_state.specs.declared.run_state.Why.{Why}
use Rattle.vm_state.specs.Machine.{MachineState}

-- a run: the machine; per vCPU a seat, per drive an image, per page of the code a version; how many instructions were
-- executed, how many when the timers moved on last, and how many may be; how many entries there were; the script, how many
-- orders are done, and whether the rendezvous that is next was opened; the input that isn't fed; the orders that are done
-- with what was said, and what the vCPUs noted in the rendezvous that is next; and what the console received
pub record State : Type 0 where
  pub machine : MachineState
  pub seats : List Seat
  pub images : List DiskImage
  pub versions : List ℕ
  pub executed : ℕ
  pub seen : ℕ
  pub limit : ℕ
  pub entries : ℕ
  pub script : List Order
  pub place : ℕ
  pub begun : Bool
  pub input : List ℕ
  pub answers : List Answer
  pub samples : List Sample
  pub console : List ℕ
  pub ended : Option Why
  pub closed : Bool

-- the run with another machine
abbrev pub with_machine : State → MachineState → State
with_machine s m = record s { machine = m }

-- ---- seats

abbrev pub empty_seat : Seat
empty_seat = record { left = 0; stayed = false; ran = 0 }

abbrev pub seat_at : State → ℕ → Seat
seat_at s i = slice_index_or s.seats i empty_seat

-- the run with another seat i
abbrev pub with_seat : State → ℕ → Seat → State
with_seat s i seat = record s { seats = slice_set s.seats i seat }

-- what is left of the grants of all vCPUs
unfoldable pub open_grants : List Seat → ℕ
open_grants seats = sum_by (λ (seat : Seat). seat.left) seats

-- how many instructions may be granted yet
abbrev pub room_of : State → ℕ
room_of s = s.limit - s.executed - open_grants s.seats

-- how many instructions were executed since the timers moved on last
abbrev pub lag_of : State → ℕ
lag_of s = s.executed - s.seen

-- ---- images

-- what is read past the last image
unfoldable pub no_image : DiskImage
no_image = record { bytes = []; doubt = []; holder = None; finished = 0; cancelled = 0 }

abbrev pub image_at : State → ℕ → DiskImage
image_at s d = slice_index_or s.images d no_image

-- the run with another image d
abbrev pub with_image : State → ℕ → DiskImage → State
with_image s d image = record s { images = slice_set s.images d image }

-- every image is at home
abbrev pub none_held : State → Bool
none_held s = list_all (λ (x : DiskImage). is_none x.holder) s.images

-- ---- the script

-- the order that comes next
unfoldable pub next_order : State → Option Order
next_order s = slice_get s.script s.place

-- ---- pages of code

-- a code part of so many bytes has so many pages of 4,096 bytes, of which the last may be cut by the code's end
abbrev pub page_count : ℕ → ℕ
page_count code = (code + 4095) / 4096

-- the page with one version more
abbrev pub one_more : List ℕ → ℕ → List ℕ
one_more versions page = slice_set versions page (slice_index versions page + 1)

-- the pages of the code that a store touches: that of its first byte, and that of its last byte in the code where it is
-- another. No store is longer than a page
unfoldable pub touched : List ℕ → ℕ → Stored → List ℕ
touched versions code r =
    let first = r.at / 4096 in
    let last = (min (r.at + r.len) code - 1) / 4096 in
    if nat_le code r.at then versions
    else if first == last then one_more versions first
    else one_more (one_more versions first) last

-- the versions after an instruction
abbrev pub versions_after : List ℕ → ℕ → Option Stored → List ℕ
versions_after versions code None = versions
versions_after versions code (Some r) = touched versions code r
