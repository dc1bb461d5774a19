-- What a chain's usable descriptors tell of its header, its status byte and its data.
use Rattle.std.specs.Prelude.{slice_index_or, if◌then◌else◌, ◌==◌, nat_le, nat_lt, ◌⊎◌}
use Rattle.std.specs.List.{All, list_all}
use Rattle.std.proofs.Common.{◌≡◌, ℕ, suc, ◌+◌, ◌-◌, ◌<◌, ◌≤◌, Bool, true, false, not, ◌&&◌, ◌||◌, List, map, length, refl, inl, inr, arith}
use Rattle.std.proofs.lemmas.Bool.{and_parts, leb-true, eqb-true, eqb-false}
use Rattle.std.proofs.lemmas.Bool.Decides.{nat_tests}
use Rattle.std.proofs.lemmas.Grind.{common_steps}
use Rattle.std.proofs.lemmas.List.{get_or-map, length-map}
use Rattle.std.proofs.lemmas.List.Sums.{AllPass-from_list_all}
use Rattle.vm_law.specs.declared.block.Descriptor.{Descriptor}
use Rattle.vm_law.specs.declared.block.Segment.{Segment}
use Rattle.vm_law.specs.declared.block.Kind.TheVariants.{Read, Write}
use Rattle.vm_law.specs.Memory.{Memory}
use Rattle.vq_ring.specs.Chain as chain
use Rattle.vq_ring.specs.Chain.{AllUsable, is_usable}
use Rattle.vblk_req.specs.declared.ask.Ask.TheVariants as ask
use Rattle.vblk_req.specs.Request.{is_writable, goes, is_whole, sectors_of, segment_of, is_request, is_refused, transfer, transfer_of, flush, asked, type_of, sector_of, status_of, data_of, none}
use Rattle.vm_vblk.specs.Queue.{AskFits, Fits}

-- a buffer that can be used is in RAM; the first part gives the term at which this is used
usable_inside : (code ram : ℕ) (d : Descriptor) → is_usable code ram d ≡ true → (is_usable code ram d ≡ true) × (d.addr + d.len ≤ ram)
unfolding is_usable
usable_inside code ram d h = grind (arith, nat_tests)

pub header_inside : (m : Memory) (ds : List Descriptor) (k : ℕ) (d : Descriptor) → AllUsable m ds → k < length ds → (slice_index_or ds k d).addr + (slice_index_or ds k d).len ≤ length m.bytes
header_inside m ds k d all lt = let e = usable_inside m.code (length m.bytes) (slice_index_or ds k d) (all k d lt) in e.1

above : (code : ℕ) (d : Descriptor) → is_writable d ≡ true → (d.len ≡ 0 → ⊥) → (not (chain.is_writable d) || (d.len == 0) || nat_le code d.addr) ≡ true → code ≤ d.addr
above code d writes apart h = grind (arith, nat_tests)

-- a buffer that can be used and is to be written touches no code
usable_above : (code ram : ℕ) (d : Descriptor) → is_usable code ram d ≡ true → (not (chain.is_writable d) || (d.len == 0) || nat_le code d.addr) ≡ true
unfolding is_usable
usable_above code ram d h = (and_parts _ _ h).1

-- ---- the status byte

status_fits : (m : Memory) (ds : List Descriptor) → AllUsable m ds → is_request ds ≡ true → (m.code ≤ (status_of ds).addr) × ((status_of ds).addr < length m.bytes)
unfolding is_request
status_fits m ds all req =
    let one = and_parts _ _ req in
    let two = and_parts _ _ one.0 in
    let three = and_parts _ _ two.0 in
    let four = and_parts _ _ three.0 in
    let more : 2 ≤ length ds = leb-true _ _ four.0 in
    let len = eqb-true _ _ one.1 in
    let use_it = all (length ds - 1) none (omega arith) in
    let inside : (status_of ds).addr + (status_of ds).len ≤ length m.bytes = (usable_inside m.code (length m.bytes) (status_of ds) use_it).1 in
    (above m.code (status_of ds) two.1 (omega arith) (usable_above m.code (length m.bytes) (status_of ds) use_it), omega arith)

-- ---- the data

usable_data : (m : Memory) (ds : List Descriptor) → AllUsable m ds → AllUsable m (data_of ds)
usable_data m ds all = λ k d lt.
    let long : suc k < length ds = grind (arith, common_steps) in
    let read : slice_index_or (data_of ds) k d ≡ slice_index_or ds (suc k) d = grind (arith, common_steps) in
    rw read (all (suc k) d long)

-- ---- the same of what is asked for

abbrev WriteFits : Memory → Descriptor → Type 0
WriteFits m d = (d.len ≡ 0) ⊎ (m.code ≤ d.addr)

write_fits : (m : Memory) (d : Descriptor) → is_usable m.code (length m.bytes) d ≡ true → goes true d ≡ true → WriteFits m d
write_fits m d usable writes = elim (d.len == 0) as (λ (b : Bool). (d.len == 0) ≡ b → WriteFits m d) [
  | true ↦ λ same. inl (eqb-true _ _ same)
  | false ↦ λ apart. inr (above m.code d writes (eqb-false _ _ apart) (usable_above m.code (length m.bytes) d usable))
] refl

pieces_fit : (m : Memory) (bs : List Descriptor) → AllUsable m bs → All (λ (s : Segment). s.addr + s.len ≤ length m.bytes) (map segment_of bs)
pieces_fit m bs all = λ k d lt.
    let within : k < length bs = let long = length-map bs segment_of in omega arith in
    let read : slice_index_or (map segment_of bs) k d ≡ segment_of (slice_index_or bs k none) = get_or-map segment_of bs k none d within in
    rw read (usable_inside m.code (length m.bytes) (slice_index_or bs k none) (all k none within)).1

writes_fit : (m : Memory) (bs : List Descriptor) → AllUsable m bs → list_all (goes true) bs ≡ true → All (λ (s : Segment). (s.len ≡ 0) ⊎ (m.code ≤ s.addr)) (map segment_of bs)
writes_fit m bs all writes = λ k d lt.
    let within : k < length bs = let long = length-map bs segment_of in omega arith in
    let read : slice_index_or (map segment_of bs) k d ≡ segment_of (slice_index_or bs k none) = get_or-map segment_of bs k none d within in
    rw read (write_fits m (slice_index_or bs k none) (all k none within) (AllPass-from_list_all (goes true) bs writes k none within))

first_of : (a b c d e : Bool) → (not a || not b || c || d || e) ≡ false → a ≡ true
first_of true b c d e h = refl
first_of false b c d e h = absurd cc

goes_right : (writes : Bool) (sector : ℕ) (bs : List Descriptor) (capacity : ℕ) (ro : Bool) → is_refused writes sector bs capacity ro ≡ false → list_all (goes (not writes)) bs ≡ true
unfolding is_refused
goes_right writes sector bs capacity ro h = first_of (list_all (goes (not writes)) bs) (list_all is_whole bs) (nat_lt 8192 (sectors_of bs)) (nat_lt capacity (sector + sectors_of bs)) (writes && ro) h

reads_fit : (m : Memory) (bs : List Descriptor) (writes : Bool) → AllUsable m bs → list_all (goes (not writes)) bs ≡ true → (if writes then Write else Read) ≡ Read → All (λ (s : Segment). (s.len ≡ 0) ⊎ (m.code ≤ s.addr)) (map segment_of bs)
reads_fit m bs true all right kind = absurd cc
reads_fit m bs false all right kind = writes_fit m bs all right

transfer_fits : (m : Memory) (head at : ℕ) (writes : Bool) (sector : ℕ) (bs : List Descriptor) (capacity : ℕ) (ro : Bool) → m.code ≤ at → at < length m.bytes → AllUsable m bs → AskFits m (transfer head at writes sector bs capacity ro)
unfolding transfer
transfer_fits m head at writes sector bs capacity ro above_code in_ram all =
    elim (is_refused writes sector bs capacity ro) as (λ (b : Bool). is_refused writes sector bs capacity ro ≡ b → AskFits m (if b then ask.Answer 1 at else if sectors_of bs == 0 then ask.Answer 0 at else ask.Accept (transfer_of head at writes sector bs))) [
      | true ↦ λ _. (above_code, in_ram)
      | false ↦ λ e. elim (sectors_of bs == 0) as (λ (b : Bool). AskFits m (if b then ask.Answer 0 at else ask.Accept (transfer_of head at writes sector bs))) [
        | true ↦ (above_code, in_ram)
        | false ↦ record {
          above_code = above_code;
          in_ram = in_ram;
          pieces = pieces_fit m bs all;
          kept_code = reads_fit m bs writes all (goes_right writes sector bs capacity ro e);
        }
      ]
    ] refl

flush_fits : (m : Memory) (head at : ℕ) → m.code ≤ at → at < length m.bytes → Fits m (flush head at)
flush_fits m head at above_code in_ram = record {
  above_code = above_code;
  in_ram = in_ram;
  pieces = λ k d lt. absurd (omega arith);
  kept_code = λ kind. absurd cc;
}

request_fits : (m : Memory) (head : ℕ) (ds : List Descriptor) (header : List ℕ) (capacity : ℕ) (ro : Bool) → AllUsable m ds → is_request ds ≡ true
    → AskFits m (if type_of header == 0 then transfer head (status_of ds).addr false (sector_of header) (data_of ds) capacity ro
    else if type_of header == 1 then transfer head (status_of ds).addr true (sector_of header) (data_of ds) capacity ro
    else if type_of header == 4 then ask.Accept (flush head (status_of ds).addr)
    else ask.Answer 2 (status_of ds).addr)
request_fits m head ds header capacity ro all req =
    let status = status_fits m ds all req in
    let parts = usable_data m ds all in
    elim (type_of header == 0) as (λ (b : Bool). AskFits m (if b then transfer head (status_of ds).addr false (sector_of header) (data_of ds) capacity ro
    else if type_of header == 1 then transfer head (status_of ds).addr true (sector_of header) (data_of ds) capacity ro
    else if type_of header == 4 then ask.Accept (flush head (status_of ds).addr)
    else ask.Answer 2 (status_of ds).addr)) [
      | true ↦ transfer_fits m head (status_of ds).addr false (sector_of header) (data_of ds) capacity ro status.0 status.1 parts
      | false ↦ elim (type_of header == 1) as (λ (b : Bool). AskFits m (if b then transfer head (status_of ds).addr true (sector_of header) (data_of ds) capacity ro
          else if type_of header == 4 then ask.Accept (flush head (status_of ds).addr)
          else ask.Answer 2 (status_of ds).addr)) [
            | true ↦ transfer_fits m head (status_of ds).addr true (sector_of header) (data_of ds) capacity ro status.0 status.1 parts
            | false ↦ elim (type_of header == 4) as (λ (b : Bool). AskFits m (if b then ask.Accept (flush head (status_of ds).addr) else ask.Answer 2 (status_of ds).addr)) [
              | true ↦ flush_fits m head (status_of ds).addr status.0 status.1
              | false ↦ status
            ]
          ]
    ]

pub asked_fits : (m : Memory) (head : ℕ) (ds : List Descriptor) (header : List ℕ) (capacity : ℕ) (ro : Bool) → AllUsable m ds → AskFits m (asked head ds header capacity ro)
unfolding asked
asked_fits m head ds header capacity ro all =
    elim (is_request ds) as (λ (b : Bool). is_request ds ≡ b → AskFits m (if not b then ask.Bad
    else if type_of header == 0 then transfer head (status_of ds).addr false (sector_of header) (data_of ds) capacity ro
    else if type_of header == 1 then transfer head (status_of ds).addr true (sector_of header) (data_of ds) capacity ro
    else if type_of header == 4 then ask.Accept (flush head (status_of ds).addr)
    else ask.Answer 2 (status_of ds).addr)) [
      | false ↦ λ _. tt
      | true ↦ λ req. request_fits m head ds header capacity ro all req
    ] refl
