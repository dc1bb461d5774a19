-- The plain program gives the chain that is reached, and none where none is.
use Rattle.std.specs.Prelude.{if◌then◌else◌, slice_get, slice_index, nat_lt, ◌==◌, ◌≢◌}
use Rattle.std.specs.Option.{option_map}
use Rattle.std.proofs.Common.{◌≡◌, ℕ, zero, suc, ◌<◌, ◌≤◌, Bool, true, false, List, [], ◌∷◌, Option, Some, None, map, length, get_or, refl, sym, ap, ◌∙◌, arith}
use Rattle.std.proofs.lemmas.Bool.{and_parts, ltb-true, lt-ltb, ltb-false, eqb-true, eqb-false}
use Rattle.std.proofs.lemmas.Bool.Decides.{nat_tests}
use Rattle.std.proofs.lemmas.List.{get_or-map, length-map}
use Rattle.vm_law.specs.Memory.{Memory}
use Rattle.vm_law.specs.declared.block.Descriptor.{Descriptor}
use Rattle.vq_ring.specs.declared.ring.Ring.{Ring}
use Rattle.vq_ring.specs.declared.chain.Chain.{Chain}
use Rattle.vq_ring.specs.declared.chain.Chain.TheVariants as chain
use Rattle.vq_ring.specs.Chain.{descriptor_at, next_of, has_next, is_usable, is_link, chain_from, chain_of, AllUsable, IfGood, IsChain, IsPath, Tells, next_chain, avail_index, avail_entry, waiting}

-- a chain that is reached through no more than n places
record Reached (m : Memory) (r : Ring) (n head : ℕ) (ds : List Descriptor) : Type 0 where
  places : List ℕ
  path : IsPath m r head places
  short : length places ≤ n
  listed : ds ≡ map (descriptor_at m r) places

-- ---- what is followed is reached

one_place : (m : Memory) (r : Ring) (k : ℕ) → is_link m r k ≡ true → has_next (descriptor_at m r k) ≡ false → IsPath m r k (k ∷ [])
one_place m r k link last =
    let parts = and_parts _ _ link in
    let within : k < r.size = ltb-true _ _ parts.0 in
    record {
      begins = refl;
      goes_on = λ i lt. elim i as (λ j. j < 1 → has_next (descriptor_at m r (slice_index (k ∷ []) j)) ≡ nat_lt (suc j) 1) [ zero ↦ λ _. last | suc j ↦ λ l. absurd (omega arith) ] lt;
      links = λ i lt. absurd (omega arith);
      within = λ i lt. elim i as (λ j. j < 1 → slice_index (k ∷ []) j < r.size) [ zero ↦ λ _. within | suc j ↦ λ l. absurd (omega arith) ] lt;
      usable = λ i lt. elim i as (λ j. j < 1 → is_usable m.code (length m.bytes) (descriptor_at m r (slice_index (k ∷ []) j)) ≡ true) [ zero ↦ λ _. parts.1 | suc j ↦ λ l. absurd (omega arith) ] lt;
    }

first_is : (q k : ℕ) (qs : List ℕ) → slice_get (q ∷ qs) 0 ≡ Some k → q ≡ k
first_is q k qs e = cc

more_places : (m : Memory) (r : Ring) (k : ℕ) (places : List ℕ) → is_link m r k ≡ true → has_next (descriptor_at m r k) ≡ true → IsPath m r (next_of m r k) places → IsPath m r k (k ∷ places)
more_places m r k [] link next path = absurd (let e = path.begins in cc)
more_places m r k (q ∷ qs) link next path =
    let parts = and_parts _ _ link in
    let within : k < r.size = ltb-true _ _ parts.0 in
    record {
      begins = refl;
      goes_on = λ i lt. elim i as (λ j. j < length (k ∷ q ∷ qs) → has_next (descriptor_at m r (slice_index (k ∷ q ∷ qs) j)) ≡ nat_lt (suc j) (length (k ∷ q ∷ qs))) [
        | zero ↦ λ _. next ∙ sym (lt-ltb 1 (length (k ∷ q ∷ qs)) (omega arith))
        | suc j ↦ λ l. path.goes_on j (omega arith) ∙ grind (arith, nat_tests)
      ] lt;
      links = λ i lt. elim i as (λ j. suc j < length (k ∷ q ∷ qs) → slice_index (k ∷ q ∷ qs) (suc j) ≡ next_of m r (slice_index (k ∷ q ∷ qs) j)) [
        | zero ↦ λ _. first_is q (next_of m r k) qs path.begins
        | suc j ↦ λ l. path.links j (omega arith)
      ] lt;
      within = λ i lt. elim i as (λ j. j < length (k ∷ q ∷ qs) → slice_index (k ∷ q ∷ qs) j < r.size) [
        | zero ↦ λ _. within
        | suc j ↦ λ l. path.within j (omega arith)
      ] lt;
      usable = λ i lt. elim i as (λ j. j < length (k ∷ q ∷ qs) → is_usable m.code (length m.bytes) (descriptor_at m r (slice_index (k ∷ q ∷ qs) j)) ≡ true) [
        | zero ↦ λ _. parts.1
        | suc j ↦ λ l. path.usable j (omega arith)
      ] lt;
    }

abbrev Found : Memory → Ring → ℕ → ℕ → Option (List Descriptor) → Type 0
Found m r n k None = Unit {0}
Found m r n k (Some ds) = Reached m r n k ds

found_more : (m : Memory) (r : Ring) (n k : ℕ) (o : Option (List Descriptor)) → is_link m r k ≡ true → has_next (descriptor_at m r k) ≡ true → Found m r n (next_of m r k) o
    → Found m r (suc n) k (option_map (λ ds. descriptor_at m r k ∷ ds) o)
found_more m r n k None link next h = tt
found_more m r n k (Some ds) link next h = record {
  places = k ∷ h.places;
  path = more_places m r k h.places link next h.path;
  short = let l = h.short in omega arith;
  listed = ap (λ (xs : List Descriptor). descriptor_at m r k ∷ xs) h.listed;
}

found : (m : Memory) (r : Ring) (n k : ℕ) → Found m r n k (chain_from m r n k)
unfolding chain_from
found m r zero k = tt
found m r (suc n) k =
    elim (is_link m r k) as (λ (b : Bool). is_link m r k ≡ b → Found m r (suc n) k (if b then (if has_next (descriptor_at m r k) then option_map (λ ds. descriptor_at m r k ∷ ds) (chain_from m r n (next_of m r k)) else Some (descriptor_at m r k ∷ [])) else None)) [
      | true ↦ λ link. elim (has_next (descriptor_at m r k)) as (λ (b : Bool). has_next (descriptor_at m r k) ≡ b → Found m r (suc n) k (if b then option_map (λ ds. descriptor_at m r k ∷ ds) (chain_from m r n (next_of m r k)) else Some (descriptor_at m r k ∷ []))) [
        | true ↦ λ next. found_more m r n k (chain_from m r n (next_of m r k)) link next (found m r n (next_of m r k))
        | false ↦ λ last. record { places = k ∷ []; path = one_place m r k link last; short = omega arith; listed = refl }
      ] refl
      | false ↦ λ _. tt
    ] refl

-- ---- what is reached is followed

link_of : (m : Memory) (r : Ring) (p : ℕ) → p < r.size → is_usable m.code (length m.bytes) (descriptor_at m r p) ≡ true → is_link m r p ≡ true
link_of m r p lt usable = rw (lt-ltb p r.size lt, usable) refl

rest_of : (m : Memory) (r : Ring) (p q : ℕ) (qs : List ℕ) (head : ℕ) → IsPath m r head (p ∷ q ∷ qs) → IsPath m r q (q ∷ qs)
rest_of m r p q qs head path = record {
  begins = refl;
  goes_on = λ i lt. path.goes_on (suc i) (omega arith) ∙ grind (arith, nat_tests);
  links = λ i lt. path.links (suc i) (omega arith);
  within = λ i lt. path.within (suc i) (omega arith);
  usable = λ i lt. path.usable (suc i) (omega arith);
}

followed : (m : Memory) (r : Ring) (n : ℕ) (places : List ℕ) (head : ℕ) → IsPath m r head places → length places ≤ n → chain_from m r n head ≡ Some (map (descriptor_at m r) places)
unfolding chain_from
followed m r n [] head path short = absurd (let e = path.begins in cc)
followed m r zero (p ∷ ps) head path short = absurd (omega arith)
followed m r (suc n) (p ∷ []) head path short =
    let same = first_is p head [] path.begins in
    let link = link_of m r p (path.within 0 (omega arith)) (path.usable 0 (omega arith)) in
    let last : has_next (descriptor_at m r p) ≡ false = path.goes_on 0 (omega arith) in
    rw (← same) (rw (link, last) refl)
followed m r (suc n) (p ∷ q ∷ qs) head path short =
    let same = first_is p head (q ∷ qs) path.begins in
    let link = link_of m r p (path.within 0 (omega arith)) (path.usable 0 (omega arith)) in
    let next : has_next (descriptor_at m r p) ≡ true = path.goes_on 0 (omega arith) ∙ lt-ltb 1 (length (p ∷ q ∷ qs)) (omega arith) in
    let to : q ≡ next_of m r p = path.links 0 (omega arith) in
    let later = followed m r n (q ∷ qs) q (rest_of m r p q qs head path) (omega arith) in
    rw (← same) (rw (link, next, ← to, later) refl)

-- ---- what next_chain gives is right

chain_is_next : (m : Memory) (r : Ring) (last : ℕ) (o : Option (List Descriptor)) → avail_index m r ≢ last → waiting m r last ≤ r.size
    → chain_from m r r.size (avail_entry m r last) ≡ o → Found m r r.size (avail_entry m r last) o → Tells m r last (chain_of (avail_entry m r last) o)
chain_is_next m r last None waits ahead is h = (
  waits,
  λ head ds next.
      let same = followed m r r.size next.chain.places head next.chain.path next.chain.short in
      let moved : chain_from m r r.size (avail_entry m r last) ≡ Some (map (descriptor_at m r) next.chain.places) = ap (λ (k : ℕ). chain_from m r r.size k) (sym next.entry) ∙ same in
      cc,
)
chain_is_next m r last (Some ds) waits ahead is h = record {
  waits = waits;
  ahead = ahead;
  entry = refl;
  chain = record { places = h.places; path = h.path; short = h.short; listed = h.listed };
}

ahead_tells : (m : Memory) (r : Ring) (last : ℕ) (b : Bool) → nat_lt r.size (waiting m r last) ≡ b → avail_index m r ≢ last
    → Tells m r last (if b then chain.Bad else chain_of (avail_entry m r last) (chain_from m r r.size (avail_entry m r last)))
ahead_tells m r last true e waits = (waits, λ head ds next. let lt = ltb-true _ _ e in let le = next.ahead in omega arith)
ahead_tells m r last false e waits = chain_is_next m r last (chain_from m r r.size (avail_entry m r last)) waits (ltb-false _ _ e) refl (found m r r.size (avail_entry m r last))

pub tells : (m : Memory) (r : Ring) (last : ℕ) → Tells m r last (next_chain m r last)
unfolding next_chain
tells m r last =
    elim (avail_index m r == last) as (λ (b : Bool). (avail_index m r == last) ≡ b → Tells m r last (if b then chain.None else if nat_lt r.size (waiting m r last) then chain.Bad else chain_of (avail_entry m r last) (chain_from m r r.size (avail_entry m r last)))) [
      | true ↦ λ e. eqb-true _ _ e
      | false ↦ λ e. ahead_tells m r last (nat_lt r.size (waiting m r last)) refl (λ same. eqb-false _ _ e same)
    ] refl

-- ---- the descriptors of a chain can be used

chain_usable : (m : Memory) (r : Ring) (head : ℕ) (ds : List Descriptor) → IsChain m r head ds → AllUsable m ds
chain_usable m r head ds h = λ k d lt.
    let within : k < length h.places = let same = ap length h.listed in let long = length-map h.places (descriptor_at m r) in omega arith in
    let read : get_or ds k d ≡ descriptor_at m r (get_or h.places k 0) = ap (λ (xs : List Descriptor). get_or xs k d) h.listed ∙ get_or-map (descriptor_at m r) h.places k 0 d within in
    rw read (h.path.usable k within)

pub usable : (m : Memory) (r : Ring) (last : ℕ) (c : Chain) → Tells m r last c → IfGood c (λ g. AllUsable m g.descriptors.items)
usable m r last chain.None h = tt
usable m r last (chain.Good c) h = chain_usable m r c.head c.descriptors.items h.chain
usable m r last chain.Bad h = tt
