-- What it tells that a queue's tables lie well.
use Rattle.std.proofs.Common.{◌≡◌, ℕ, ◌+◌, ◌*◌, ◌<◌, ◌≤◌, true, arith}
use Rattle.std.proofs.lemmas.Bool.Decides.{nat_tests}
use Rattle.std.proofs.lemmas.Bool.{and_parts}
use Rattle.vq_ring.specs.declared.ring.Ring.{Ring}
use Rattle.vq_ring.specs.Ring.{ring_ok, is_size, lies_well}

size_tells : (n : ℕ) → is_size n ≡ true → (0 < n) × (n ≤ 128)
size_tells n h = grind (arith, nat_tests)

table_tells : (code ram at len align : ℕ) → lies_well code ram at len align ≡ true → (code ≤ at) × (at + len ≤ ram)
table_tells code ram at len align h = grind (arith, nat_tests)

-- the first part gives the term at which this is used
pub lies : (r : Ring) (code ram : ℕ) → ring_ok r code ram ≡ true
    → (ring_ok r code ram ≡ true) × (0 < r.size) × (r.size ≤ 128) × (code ≤ r.desc) × (r.desc + 16 * r.size ≤ ram) × (code ≤ r.avail) × (r.avail + 6 + 2 * r.size ≤ ram) × (code ≤ r.used) × (r.used + 6 + 8 * r.size ≤ ram)
unfolding ring_ok
lies r code ram h =
    let one = and_parts _ _ h in
    let two = and_parts _ _ one.0 in
    let three = and_parts _ _ two.0 in
    let size = size_tells r.size three.0 in
    let desc = table_tells code ram r.desc (16 * r.size) 16 three.1 in
    let avail = table_tells code ram r.avail (6 + 2 * r.size) 2 two.1 in
    let used = table_tells code ram r.used (6 + 8 * r.size) 4 one.1 in
    (h, size.0, size.1, desc.0, desc.1, avail.0, omega arith, used.0, omega arith)

-- and its size is one that a queue can have
pub sized : (r : Ring) (code ram : ℕ) → ring_ok r code ram ≡ true → (ring_ok r code ram ≡ true) × (is_size r.size ≡ true)
unfolding ring_ok
sized r code ram h =
    let one = and_parts _ _ h in
    let two = and_parts _ _ one.0 in
    let three = and_parts _ _ two.0 in
    (h, three.0)
