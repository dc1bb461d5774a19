-- What a chain asks of a block device. ds are its descriptors, and capacity the disk's sectors, of 512 bytes.
-- Source: OASIS virtio 1.2, section 5.2.6.
use Rattle.std.specs.Prelude.{◌≡◌, ◌≢◌, ℕ, ◌+◌, ◌-◌, ◌*◌, ◌/◌, ◌%◌, ◌<◌, ◌≤◌, Bool, true, false, not, ◌&&◌, ◌||◌, ◌==◌, nat_lt, nat_le, List, [], map, length, drop, take, slice_index_or, if◌then◌else◌, bit_and}
use Rattle.std.specs.List.{list_all, sum_by}
use Rattle.byteorder.specs.Endian.{little_number}
use Rattle.vm_law.specs.declared.block.Descriptor.{Descriptor}
use Rattle.vm_law.specs.declared.block.Segment.{Segment}
use Rattle.vm_law.specs.declared.block.Request.{Request}
use Rattle.vm_law.specs.declared.block.Kind.TheVariants.{Read, Write, Flush}
use Rattle.vblk_req.specs.declared.ask.Ask.{Ask}
use Rattle.vblk_req.specs.declared.ask.Ask.TheVariants as ask

-- ---- the parts of a chain: the header, the data, the status byte

-- the flag WRITE: the device writes the buffer, and else reads it
abbrev pub is_writable : Descriptor → Bool
is_writable d = not (bit_and d.flags 2 == 0)

abbrev pub goes : Bool → Descriptor → Bool
goes writable d = if writable then is_writable d else not (is_writable d)

abbrev pub none : Descriptor
none = record { addr = 0; len = 0; flags = 0 }

abbrev pub header_of : List Descriptor → Descriptor
header_of ds = slice_index_or ds 0 none

abbrev pub status_of : List Descriptor → Descriptor
status_of ds = slice_index_or ds (length ds - 1) none

abbrev pub data_of : List Descriptor → List Descriptor
data_of ds = drop 1 (take (length ds - 1) ds)

-- the first descriptor is 16 bytes that the device reads, and the last one a byte that it writes
unfoldable pub is_request : List Descriptor → Bool
is_request ds =
    nat_le 2 (length ds)
    && not (is_writable (header_of ds)) && ((header_of ds).len == 16)
    && is_writable (status_of ds) && ((status_of ds).len == 1)

-- the header: the type, four bytes that are reserved, the first sector
abbrev pub type_of : List ℕ → ℕ
type_of header = little_number 4 header

abbrev pub sector_of : List ℕ → ℕ
sector_of header = little_number 8 (drop 8 header)

-- ---- the data, in its buffers

abbrev pub len_of : Descriptor → ℕ
len_of d = d.len

abbrev pub is_whole : Descriptor → Bool
is_whole d = d.len % 512 == 0

abbrev pub sectors_of : List Descriptor → ℕ
sectors_of buffers = sum_by len_of buffers / 512

abbrev pub segment_of : Descriptor → Segment
segment_of d = record { addr = d.addr; len = d.len }

-- the data does not all go the right way, is not whole sectors, is too much, or is not inside the disk, or the disk is read-only
unfoldable pub is_refused : Bool → ℕ → List Descriptor → ℕ → Bool → Bool
is_refused writes sector buffers capacity ro =
    not (list_all (goes (not writes)) buffers)
    || not (list_all is_whole buffers)
    || nat_lt 8192 (sectors_of buffers)
    || nat_lt capacity (sector + sectors_of buffers)
    || (writes && ro)

-- ---- requests

abbrev pub flush : ℕ → ℕ → Request
flush head status_at = record { kind = Flush; head = head; status_at = status_at; start = 0; count = 1; segments = record { items = [] } }

-- a read, or a write
abbrev pub transfer_of : ℕ → ℕ → Bool → ℕ → List Descriptor → Request
transfer_of head status_at writes sector buffers = record {
  kind = (if writes then Write else Read);
  head = head;
  status_at = status_at;
  start = sector;
  count = sectors_of buffers;
  segments = record { items = map segment_of buffers };
}

-- status 1: it is refused, 0: it asks for nothing
unfoldable pub transfer : ℕ → ℕ → Bool → ℕ → List Descriptor → ℕ → Bool → Ask
transfer head status_at writes sector buffers capacity ro =
    if is_refused writes sector buffers capacity ro then ask.Answer 1 status_at
    else if sectors_of buffers == 0 then ask.Answer 0 status_at
    else ask.Accept (transfer_of head status_at writes sector buffers)

-- type 0: in, 1: out, 4: flush, and else status 2, unsupported
unfoldable pub asked : ℕ → List Descriptor → List ℕ → ℕ → Bool → Ask
asked head ds header capacity ro =
    if not (is_request ds) then ask.Bad
    else if type_of header == 0 then transfer head (status_of ds).addr false (sector_of header) (data_of ds) capacity ro
    else if type_of header == 1 then transfer head (status_of ds).addr true (sector_of header) (data_of ds) capacity ro
    else if type_of header == 4 then ask.Accept (flush head (status_of ds).addr)
    else ask.Answer 2 (status_of ds).addr

-- ---- what an accepted request keeps, for those who carry it out

pub record IsSound (capacity : ℕ) (q : Request) : Type 0 where
  pub some : 0 < q.count
  pub few : q.count ≤ 8192
  pub inside : q.kind ≢ Flush → q.start + q.count ≤ capacity
  pub filled : q.kind ≢ Flush → sum_by (λ (s : Segment). s.len) q.segments.items ≡ 512 * q.count

abbrev pub IfAccept : Ask → (Request → Type 0) → Type 0
IfAccept (ask.Accept q) P = P q
IfAccept _ P = Unit {0}
