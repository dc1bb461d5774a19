-- Chains of descriptors. m is guest memory, and r a queue whose tables lie in it.
-- Source: OASIS virtio 1.2, sections 2.7.5 (the descriptor table) and 2.7.6 (the available ring).
use Rattle.std.specs.Prelude.{◌≡◌, ◌≢◌, ℕ, zero, suc, ◌+◌, ◌*◌, ◌%◌, ◌^◌, ◌-◌, ◌<◌, ◌≤◌, Bool, true, not, ◌&&◌, ◌||◌, ◌==◌, nat_lt, nat_le, List, [], ◌∷◌, map, length, drop, slice_get, slice_index, Option, Some, None, if◌then◌else◌, bit_and}
use Rattle.std.specs.List.{All}
use Rattle.std.specs.Option.{option_map}
use Rattle.vm_law.specs.declared.block.ChainList.{ChainList}
use Rattle.byteorder.specs.Endian.{little_number}
use Rattle.vm_law.specs.Memory.{Memory, read_of}
use Rattle.vm_law.specs.declared.block.Descriptor.{Descriptor}
use Rattle.vq_ring.specs.declared.ring.Ring.{Ring}
use Rattle.vq_ring.specs.declared.chain.Chain.{Chain}
use Rattle.vq_ring.specs.declared.chain.Chain.TheVariants as chain

-- ---- a descriptor

-- its flags: NEXT 1, WRITE 2, INDIRECT 4
abbrev pub has : ℕ → ℕ → Bool
has bits flag = not (bit_and bits flag == 0)

abbrev pub has_next : Descriptor → Bool
has_next d = has d.flags 1

abbrev pub is_writable : Descriptor → Bool
is_writable d = has d.flags 2

abbrev pub is_indirect : Descriptor → Bool
is_indirect d = has d.flags 4

-- the 16 bytes at place k of the descriptor table
abbrev pub entry_at : Memory → Ring → ℕ → List ℕ
entry_at m r k = read_of m (r.desc + 16 * k) 16

-- address, length, flags, next
abbrev pub descriptor_in : List ℕ → Descriptor
descriptor_in bytes = record { addr = little_number 8 bytes; len = little_number 4 (drop 8 bytes); flags = little_number 2 (drop 12 bytes) }

abbrev pub next_in : List ℕ → ℕ
next_in bytes = little_number 2 (drop 14 bytes)

unfoldable pub descriptor_at : Memory → Ring → ℕ → Descriptor
descriptor_at m r k = descriptor_in (entry_at m r k)

unfoldable pub next_of : Memory → Ring → ℕ → ℕ
next_of m r k = next_in (entry_at m r k)

-- its buffer is wholly in RAM, and touches no code where the device is to write it; it is not a table of descriptors
unfoldable pub is_usable : ℕ → ℕ → Descriptor → Bool
is_usable code ram d = not (is_indirect d) && nat_le (d.addr + d.len) ram && (not (is_writable d) || (d.len == 0) || nat_le code d.addr)

-- ---- a chain: the descriptors to which the next links lead from the head

-- these places of the table begin at the head; each has the flag NEXT exactly where another follows, which is then the
-- one that its link names; each is in the table, and its descriptor can be used
pub record IsPath (m : Memory) (r : Ring) (head : ℕ) (places : List ℕ) : Type 0 where
  pub begins : slice_get places 0 ≡ Some head
  pub goes_on : (i : ℕ) → i < length places → has_next (descriptor_at m r (slice_index places i)) ≡ nat_lt (suc i) (length places)
  pub links : (i : ℕ) → suc i < length places → slice_index places (suc i) ≡ next_of m r (slice_index places i)
  pub within : (i : ℕ) → i < length places → slice_index places i < r.size
  pub usable : (i : ℕ) → i < length places → is_usable m.code (length m.bytes) (descriptor_at m r (slice_index places i)) ≡ true

-- the descriptors of such places, of which there are no more than the queue has
pub record IsChain (m : Memory) (r : Ring) (head : ℕ) (descriptors : List Descriptor) : Type 0 where
  pub places : List ℕ
  pub path : IsPath m r head places
  pub short : length places ≤ r.size
  pub listed : descriptors ≡ map (descriptor_at m r) places

-- ---- what stands next on the available ring

-- a number of two bytes
abbrev pub word_at : Memory → ℕ → ℕ
word_at m at = little_number 2 (read_of m at 2)

-- the flags and the index of the available ring, and its entry for the chain number `last`
abbrev pub avail_flags : Memory → Ring → ℕ
avail_flags m r = word_at m r.avail

abbrev pub avail_index : Memory → Ring → ℕ
avail_index m r = word_at m (r.avail + 2)

abbrev pub avail_entry : Memory → Ring → ℕ → ℕ
avail_entry m r last = word_at m (r.avail + 4 + 2 * (last % r.size))

-- how many chains wait, of which `last` were taken: both are counted modulo 2 ^ 16
abbrev pub waiting : Memory → Ring → ℕ → ℕ
waiting m r last = (avail_index m r + (2 ^ 16 - last)) % 2 ^ 16

-- a chain that stands next
pub record IsNext (m : Memory) (r : Ring) (last head : ℕ) (descriptors : List Descriptor) : Type 0 where
  pub waits : avail_index m r ≢ last
  pub ahead : waiting m r last ≤ r.size
  pub entry : head ≡ avail_entry m r last
  pub chain : IsChain m r head descriptors

-- what next_chain gives is right: nothing where nothing waits, a chain that stands next, or Bad where something waits and
-- no chain stands next
abbrev pub Tells : Memory → Ring → ℕ → Chain → Type 0
Tells m r last chain.None = avail_index m r ≡ last
Tells m r last (chain.Good c) = IsNext m r last c.head c.descriptors.items
Tells m r last chain.Bad = (avail_index m r ≢ last) × ((head : ℕ) (descriptors : List Descriptor) → IsNext m r last head descriptors → ⊥)

abbrev pub IfGood : Chain → (ChainList → Type 0) → Type 0
IfGood (chain.Good c) P = P c
IfGood _ P = Unit {0}

-- each of these descriptors can be used
abbrev pub AllUsable : Memory → List Descriptor → Type 0
AllUsable m ds = All (λ d. is_usable m.code (length m.bytes) d ≡ true) ds

-- ---- the same as a plain program, for those that go on from it: follow the links, no more than n of them

-- place k is in the table, and its descriptor can be used
abbrev pub is_link : Memory → Ring → ℕ → Bool
is_link m r k = nat_lt k r.size && is_usable m.code (length m.bytes) (descriptor_at m r k)

unfoldable pub chain_from : Memory → Ring → ℕ → ℕ → Option (List Descriptor)
chain_from m r zero k = None
chain_from m r (suc n) k =
    if is_link m r k then
    (if has_next (descriptor_at m r k) then option_map (λ ds. descriptor_at m r k ∷ ds) (chain_from m r n (next_of m r k)) else Some (descriptor_at m r k ∷ []))
    else None

abbrev pub chain_of : ℕ → Option (List Descriptor) → Chain
chain_of head None = chain.Bad
chain_of head (Some ds) = chain.Good (record { head = head; descriptors = record { items = ds } })

unfoldable pub next_chain : Memory → Ring → ℕ → Chain
next_chain m r last =
    if avail_index m r == last then chain.None
    else if nat_lt r.size (waiting m r last) then chain.Bad
    else chain_of (avail_entry m r last) (chain_from m r r.size (avail_entry m r last))
