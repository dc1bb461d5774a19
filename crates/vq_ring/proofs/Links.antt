-- Following links step by step gives the chain of the plain program, and that is the chain that is reached.
use Rattle.std.specs.Option.{option_map}
use Rattle.std.proofs.Common.{◌≡◌, ℕ, suc, ◌+◌, ◌-◌, ◌<◌, ◌≤◌, true, false, List, [], ◌∷◌, ◌++◌, Option, Some, None, refl, sym, ap, ◌∙◌, append_assoc, arith}
use Rattle.vm_law.specs.Memory.{Memory}
use Rattle.vm_law.specs.declared.block.Descriptor.{Descriptor}
use Rattle.vq_ring.specs.declared.ring.Ring.{Ring}
use Rattle.vq_ring.specs.Chain.{descriptor_at, next_of, has_next, is_link, chain_from}

-- ---- a loop over the links: what was found, and what is found from here on

abbrev pub with_front : List Descriptor → Option (List Descriptor) → Option (List Descriptor)
with_front front o = option_map (λ ds. front ++ ds) o

regroup : (front : List Descriptor) (d : Descriptor) (o : Option (List Descriptor)) → with_front front (option_map (λ ds. d ∷ ds) o) ≡ with_front (front ++ d ∷ []) o
regroup front d None = refl
regroup front d (Some ds) = ap (λ (xs : List Descriptor). Some xs) (simp append_assoc)

pub goes_on : (m : Memory) (r : Ring) (front : List Descriptor) (n k place : ℕ) (total : Option (List Descriptor)) → k < n → is_link m r place ≡ true → has_next (descriptor_at m r place) ≡ true
    → with_front front (chain_from m r (n - k) place) ≡ total → with_front (front ++ descriptor_at m r place ∷ []) (chain_from m r (n - (k + 1)) (next_of m r place)) ≡ total
unfolding chain_from
goes_on m r front n k place total lt link next so_far =
    let e : n - k ≡ suc (n - (k + 1)) = omega arith in
    let one : with_front front (chain_from m r (n - k) place) ≡ with_front (front ++ descriptor_at m r place ∷ []) (chain_from m r (n - (k + 1)) (next_of m r place)) = rw (e, link, next) (regroup front _ _) in
    sym one ∙ so_far

pub ends : (m : Memory) (r : Ring) (front : List Descriptor) (n k place : ℕ) (total : Option (List Descriptor)) → k < n → is_link m r place ≡ true → has_next (descriptor_at m r place) ≡ false
    → with_front front (chain_from m r (n - k) place) ≡ total → total ≡ Some (front ++ descriptor_at m r place ∷ [])
unfolding chain_from
ends m r front n k place total lt link next so_far =
    let e : n - k ≡ suc (n - (k + 1)) = omega arith in
    let one : with_front front (chain_from m r (n - k) place) ≡ Some (front ++ descriptor_at m r place ∷ []) = rw (e, link, next) refl in
    sym so_far ∙ one

pub fails : (m : Memory) (r : Ring) (front : List Descriptor) (n k place : ℕ) (total : Option (List Descriptor)) → k < n → is_link m r place ≡ false
    → with_front front (chain_from m r (n - k) place) ≡ total → total ≡ None
unfolding chain_from
fails m r front n k place total lt link so_far =
    let e : n - k ≡ suc (n - (k + 1)) = omega arith in
    let one : with_front front (chain_from m r (n - k) place) ≡ None = rw (e, link) refl in
    sym so_far ∙ one

pub is_done : (m : Memory) (r : Ring) (front : List Descriptor) (n k place : ℕ) (total : Option (List Descriptor)) → n ≤ k
    → with_front front (chain_from m r (n - k) place) ≡ total → total ≡ None
unfolding chain_from
is_done m r front n k place total le so_far =
    let e : n - k ≡ 0 = omega arith in
    let one : with_front front (chain_from m r (n - k) place) ≡ None = rw e refl in
    sym so_far ∙ one

-- ---- the same of an entry as it was read

pub goes_on_by : (m : Memory) (r : Ring) (front items : List Descriptor) (n k place to : ℕ) (d : Descriptor) (total : Option (List Descriptor)) → k < n → true ≡ is_link m r place → d ≡ descriptor_at m r place → to ≡ next_of m r place → has_next d ≡ true
    → items ≡ front ++ d ∷ [] → with_front front (chain_from m r (n - k) place) ≡ total → with_front items (chain_from m r (n - (k + 1)) to) ≡ total
goes_on_by m r front items n k place to d total lt link same next more listed so_far =
    let e = goes_on m r front n k place total lt (sym link) (ap has_next (sym same) ∙ more) so_far in
    rw (listed, same, next) e

pub ends_by : (m : Memory) (r : Ring) (front items : List Descriptor) (n k place : ℕ) (d : Descriptor) (total : Option (List Descriptor)) → k < n → true ≡ is_link m r place → d ≡ descriptor_at m r place → has_next d ≡ false
    → items ≡ front ++ d ∷ [] → with_front front (chain_from m r (n - k) place) ≡ total → total ≡ Some items
ends_by m r front items n k place d total lt link same last listed so_far =
    let e = ends m r front n k place total lt (sym link) (ap has_next (sym same) ∙ last) so_far in
    rw (listed, same) e
