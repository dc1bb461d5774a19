-- What a chain that is taken off a ring asks for.
use Rattle.std.specs.Prelude.{◌==◌, ◌&&◌, ◌||◌, nat_lt, nat_le, if◌then◌else◌}
use Rattle.std.specs.List.{list_all}
use Rattle.std.proofs.Common.{◌≡◌, ℕ, ◌+◌, ◌%◌, ◌≤◌, Bool, true, false, not, List, length, refl, sym, ap, subst, ◌∙◌, arith}
use Rattle.std.proofs.lemmas.Bool.{and_parts, true≢false}
use Rattle.std.proofs.lemmas.Bool.Decides.{nat_tests}
use Rattle.std.proofs.lemmas.Grind.{common_steps}
use Rattle.std.proofs.lemmas.List.{length-map}
use Rattle.std.proofs.lemmas.List.Folds.{list_all-map}
use Rattle.vm_law.specs.Memory.{Memory, read_of}
use Rattle.vm_law.specs.declared.block.ChainList.{ChainList}
use Rattle.vm_law.specs.declared.block.Descriptor.{Descriptor}
use Rattle.vm_law.specs.declared.block.Kind.{Kind}
use Rattle.vm_law.specs.declared.block.Kind.TheVariants.{Read, Write, Flush}
use Rattle.vm_law.specs.declared.block.Request.{Request}
use Rattle.vm_law.specs.declared.block.Segment.{Segment}
use Rattle.vm_law.specs.declared.chips.WindowState.{WindowState}
use Rattle.vq_ring.specs.Chain.{next_chain}
use Rattle.vq_ring.specs.declared.chain.Chain.{Chain}
use Rattle.vq_ring.specs.declared.chain.Chain.TheVariants as chain
use Rattle.vblk_req.specs.Request.{IfAccept, asked, data_of, flush, goes, header_of, is_refused, is_request, is_whole, sector_of, sectors_of, segment_of, status_of, transfer, transfer_of, type_of}
use Rattle.vblk_req.specs.Request.{IsSound as IsAsked}
use Rattle.vblk_req.specs.declared.ask.Ask.{Ask}
use Rattle.vblk_req.specs.declared.ask.Ask.TheVariants as ask
use Rattle.vblk_req.proofs.Sound.{asked_sound}
use Rattle.vm_vblk.specs.declared.pulled.Pulled.TheVariants as pulled
use Rattle.vm_vblk.specs.Queue.{asked_by, pull_of, pulled_ask, pulled_chain}
use Rattle.vm_vblk.specs.Window.{ring_of}
use Rattle.blk_queue.specs.Progress.{HasItsData, IsRequest, is_flush_kind}
use Rattle.vm_state.specs.Sound.{FlushIsBare, IsWhole}
use Rattle.vm_disks.proofs.Segments.{not_flush}

-- ---- what an accepted request keeps beside its data

pub record IsTaken (head count : ℕ) (ro : Bool) (q : Request) : Type 0 where
  pub first : q.head ≡ head
  pub short : length q.segments.items + 2 ≤ count
  pub whole : IsWhole q
  pub bare : FlushIsBare q
  pub writable : ro ≡ true → q.kind ≡ Write → ⊥

refused_parts : (a b c d e : Bool) → (not a || not b || c || d || e) ≡ false → (b ≡ true) × (e ≡ false)
refused_parts a b c d e h = (grind (arith, common_steps), grind (arith, common_steps))

whole_tells : (writes : Bool) (sector : ℕ) (bs : List Descriptor) (capacity : ℕ) (ro : Bool) → is_refused writes sector bs capacity ro ≡ false → (list_all is_whole bs ≡ true) × ((writes && ro) ≡ false)
unfolding is_refused
whole_tells writes sector bs capacity ro h =
    refused_parts (list_all (goes (not writes)) bs) (list_all is_whole bs) (nat_lt 8192 (sectors_of bs)) (nat_lt capacity (sector + sectors_of bs)) (writes && ro) h

no_flush : (writes : Bool) → is_flush_kind (if writes then Write else Read) ≡ false
no_flush true = refl
no_flush false = refl

no_write : (writes ro : Bool) → (writes && ro) ≡ false → ro ≡ true → (if writes then Write else Read) ≡ Write → ⊥
no_write true ro e r k = true≢false (sym r ∙ e)
no_write false ro e r k = absurd (cc)

transfer_is : (head at : ℕ) (writes : Bool) (sector : ℕ) (bs : List Descriptor) (capacity : ℕ) (ro : Bool) (count : ℕ) → length bs + 2 ≤ count → is_refused writes sector bs capacity ro ≡ false
    → IsTaken head count ro (transfer_of head at writes sector bs)
transfer_is head at writes sector bs capacity ro count l e =
    let parts = whole_tells writes sector bs capacity ro e in
    let long = length-map bs segment_of in
    record {
      first = refl;
      short = omega (arith, l, long);
      whole = list_all-map (λ (x : Segment). x.len % 512 == 0) segment_of bs ∙ parts.0;
      bare = λ f. absurd (true≢false (sym f ∙ no_flush writes));
      writable = no_write writes ro parts.1;
    }

transfer_taken : (head at : ℕ) (writes : Bool) (sector : ℕ) (bs : List Descriptor) (capacity : ℕ) (ro : Bool) (count : ℕ) → length bs + 2 ≤ count → IfAccept (transfer head at writes sector bs capacity ro) (IsTaken head count ro)
unfolding transfer
transfer_taken head at writes sector bs capacity ro count l =
    elim (is_refused writes sector bs capacity ro) as (λ (b : Bool). is_refused writes sector bs capacity ro ≡ b
    → IfAccept (if b then ask.Answer 1 at else if sectors_of bs == 0 then ask.Answer 0 at else ask.Accept (transfer_of head at writes sector bs)) (IsTaken head count ro)) [
      | true ↦ λ e. tt
      | false ↦ λ e. elim (sectors_of bs == 0) as (λ (b : Bool). IfAccept (if b then ask.Answer 0 at else ask.Accept (transfer_of head at writes sector bs)) (IsTaken head count ro)) [
        | true ↦ tt
        | false ↦ transfer_is head at writes sector bs capacity ro count l e
      ]
    ] refl

length_data : (ds : List Descriptor) → 2 ≤ length ds → length (data_of ds) + 2 ≤ length ds
length_data ds l = grind (arith, common_steps)

flush_is : (head at count : ℕ) (ro : Bool) → 2 ≤ count → IsTaken head count ro (flush head at)
flush_is head at count ro l = record {
  first = refl;
  short = l;
  whole = refl;
  bare = λ f. (refl, refl, refl);
  writable = λ r k. absurd (cc);
}

many : (ds : List Descriptor) → is_request ds ≡ true → 2 ≤ length ds
unfolding is_request
many ds h = grind (arith, nat_tests, common_steps, and_parts)

request_taken : (head : ℕ) (ds : List Descriptor) (header : List ℕ) (capacity : ℕ) (ro a b c : Bool) → 2 ≤ length ds
    → IfAccept (if a then transfer head (status_of ds).addr false (sector_of header) (data_of ds) capacity ro
    else if b then transfer head (status_of ds).addr true (sector_of header) (data_of ds) capacity ro
    else if c then ask.Accept (flush head (status_of ds).addr)
    else ask.Answer 2 (status_of ds).addr) (IsTaken head (length ds) ro)
request_taken head ds header capacity ro true b c l = transfer_taken head (status_of ds).addr false (sector_of header) (data_of ds) capacity ro (length ds) (length_data ds l)
request_taken head ds header capacity ro false true c l = transfer_taken head (status_of ds).addr true (sector_of header) (data_of ds) capacity ro (length ds) (length_data ds l)
request_taken head ds header capacity ro false false true l = flush_is head (status_of ds).addr (length ds) ro l
request_taken head ds header capacity ro false false false l = tt

pub asked_taken : (head : ℕ) (ds : List Descriptor) (header : List ℕ) (capacity : ℕ) (ro : Bool) → IfAccept (asked head ds header capacity ro) (IsTaken head (length ds) ro)
unfolding asked
asked_taken head ds header capacity ro =
    elim (is_request ds) as (λ (b : Bool). is_request ds ≡ b → IfAccept (if not b then ask.Bad
    else if type_of header == 0 then transfer head (status_of ds).addr false (sector_of header) (data_of ds) capacity ro
    else if type_of header == 1 then transfer head (status_of ds).addr true (sector_of header) (data_of ds) capacity ro
    else if type_of header == 4 then ask.Accept (flush head (status_of ds).addr)
    else ask.Answer 2 (status_of ds).addr) (IsTaken head (length ds) ro)) [
      | false ↦ λ e. tt
      | true ↦ λ e. request_taken head ds header capacity ro (type_of header == 0) (type_of header == 1) (type_of header == 4) (many ds e)
    ] refl

its_data : (capacity count : ℕ) (ro : Bool) (head : ℕ) (q : Request) (k : Kind) → q.kind ≡ k → IsAsked capacity q → IsTaken head count ro q → HasItsData k q
its_data capacity count ro head q Read e h t = h.filled (not_flush q.kind (ap is_flush_kind e))
its_data capacity count ro head q Write e h t = h.filled (not_flush q.kind (ap is_flush_kind e))
its_data capacity count ro head q Flush e h t = (t.bare (ap is_flush_kind e)).1

pub asks_request : (capacity count : ℕ) (ro : Bool) (head : ℕ) (q : Request) → IsAsked capacity q → IsTaken head count ro q → IsRequest q
asks_request capacity count ro head q h t = record { sectors = h.few; bytes = its_data capacity count ro head q q.kind refl h t }

-- ---- what is pulled is a request that a queue takes

ask_pulled : (m : Memory) (w : WindowState) (head count : ℕ) (a : Ask) (q : Request) → IfAccept a (IsAsked w.sectors) → IfAccept a (IsTaken head count w.ro) → (pulled_ask m w head a).answer ≡ pulled.Request q → IsRequest q
unfolding pulled_ask
ask_pulled m w head count (ask.Accept r) q asked taken e =
    let same : r ≡ q = cc in
    subst (λ (x : Request). IsRequest x) same (asks_request w.sectors count w.ro head r asked taken)
ask_pulled m w head count (ask.Answer status at) q asked taken e = absurd (cc)
ask_pulled m w head count ask.Bad q asked taken e = absurd (cc)

chain_pulled : (m : Memory) (w : WindowState) (c : Chain) (q : Request) → (pulled_chain m w c).answer ≡ pulled.Request q → IsRequest q
unfolding pulled_chain asked_by
chain_pulled m w (chain.Good c) q e =
    let header : List ℕ = read_of m (header_of c.descriptors.items).addr 16 in
    ask_pulled m w c.head (length c.descriptors.items) (asked c.head c.descriptors.items header w.sectors w.ro) q (asked_sound c.head c.descriptors.items header w.sectors w.ro)
    (asked_taken c.head c.descriptors.items header w.sectors w.ro) e
chain_pulled m w chain.Bad q e = absurd (cc)
chain_pulled m w chain.None q e = absurd (cc)

pub pulled_request : (m : Memory) (w : WindowState) (q : Request) → pulled.Request q ≡ (pull_of m w).answer → IsRequest q
unfolding pull_of
pulled_request m w q e = chain_pulled m w (next_chain m (ring_of w) w.last_avail) q (sym e)
