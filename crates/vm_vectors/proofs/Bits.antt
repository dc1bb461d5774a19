-- Sets as numbers and bytes, and back.
use Rattle.std.specs.Prelude.{if◌then◌else◌}
use Rattle.std.proofs.Common.{◌≡◌, ℕ, zero, suc, ◌+◌, ◌*◌, ◌/◌, ◌%◌, ◌-◌, ◌^◌, ◌<◌, ◌≤◌, Bool, true, false, eqb, List, length, get_or, map, refl, sym, ap, add-one, arith, inl, inr, ◌∙◌}
use Rattle.std.proofs.lemmas.Bool.{cases_lt}
use Rattle.std.proofs.lemmas.Grind.{pow_more}
use Rattle.std.proofs.lemmas.Nat.{mod-pow-add, pow_below, one_shl}
use Rattle.std.proofs.lemmas.Nat.Bits.{bit_at_cat_low, bit_at_cat_high, bit_at-lt, bit_at-zero}
use Rattle.std.proofs.lemmas.List.FromFn.{fill_by_all, get_or-map-range_with_len, length-map-range_with_len}
use Rattle.std.specs.List.{range_with_len}
use Rattle.std.specs.Int.{bit_at}
use Rattle.std.specs.Cmp.{nat_cmp_total}
use Rattle.std.specs.FinSet.{same_set, nat_cmp-IsAntisymmetric}
use Rattle.vm_law.specs.BitSet.{set_of}
use Rattle.vm_law.proofs.BitSets.{has_set_of, past_the_end}
use Rattle.vm_vectors.specs.Vectors.{Vectors, has, number_of, bits_of, bytes_of, vectors_of}

one_bit : Bool → ℕ
one_bit true = 1
one_bit false = 0

as_product : (b : Bool) (w : ℕ) → (if b then w else 0) ≡ one_bit b * w
unfolding one_bit
as_product true w = omega arith
as_product false w = omega arith

one_bit_lt : (b : Bool) → one_bit b < 2
unfolding one_bit
one_bit_lt true = omega arith
one_bit_lt false = omega arith

bit_of_one : (b : Bool) → eqb (bit_at (one_bit b) 0) 1 ≡ b
unfolding one_bit
bit_of_one true = refl
bit_of_one false = refl

pub number_more : (p : ℕ → Bool) (n : ℕ) → number_of p (n + 1) ≡ number_of p n + (if p n then 2 ^ n else 0)
number_more p n = rw add-one refl

pub number_lt : (p : ℕ → Bool) (n : ℕ) → number_of p n < 2 ^ n
number_lt p zero = omega arith
number_lt p (suc n) =
    let twice : 2 ^ suc n ≡ 2 ^ n * 2 = (let e : suc n ≡ n + 1 = omega arith in ap (λ k. 2 ^ k) e ∙ pow_more 2 n) in
    elim (p n) as (λ b. number_of p n + (if b then 2 ^ n else 0) < 2 ^ suc n) [
      | true ↦ omega (arith, number_lt p n, twice)
      | false ↦ omega (arith, number_lt p n, twice)
    ]

number_split : (p : ℕ → Bool) (n : ℕ) → number_of p (suc n) ≡ one_bit (p n) * 2 ^ n + number_of p n
number_split p n = omega (arith, as_product (p n) (2 ^ n))

-- bit b of the number is what the test says of b
pub bit_of_number : (p : ℕ → Bool) (n b : ℕ) → b < n → eqb (bit_at (number_of p n) b) 1 ≡ p b
bit_of_number p zero b l = absurd (omega arith)
bit_of_number p (suc n) b l = elim (cases_lt b n) [
  | inl less ↦ ap (λ m. eqb (bit_at m b) 1) (number_split p n) ∙ ap (λ m. eqb m 1) (bit_at_cat_low (one_bit (p n)) n (number_of p n) b less) ∙ bit_of_number p n b less
  | inr more ↦
      let same : n ≡ b = omega arith in
      let none_left : b - n ≡ 0 = omega arith in
      ap (λ m. eqb (bit_at m b) 1) (number_split p n)
      ∙ ap (λ m. eqb m 1) (bit_at_cat_high (one_bit (p n)) n (number_of p n) b (number_lt p n) more)
      ∙ ap (λ k. eqb (bit_at (one_bit (p n)) k) 1) none_left
      ∙ bit_of_one (p n)
      ∙ ap p same
]

pub number_ext : (p q : ℕ → Bool) (n : ℕ) → ((b : ℕ) → b < n → p b ≡ q b) → number_of p n ≡ number_of q n
number_ext p q zero same = refl
number_ext p q (suc n) same =
    let rest : number_of p n ≡ number_of q n = number_ext p q n (λ b l. same b (omega arith)) in
    let here : p n ≡ q n = same n (omega arith) in
    ap (λ m. m + (if p n then 2 ^ n else 0)) rest ∙ ap (λ (b : Bool). number_of q n + (if b then 2 ^ n else 0)) here

below_two : (m : ℕ) → m < 2 → one_bit (eqb m 1) ≡ m
unfolding one_bit
below_two m l = elim (cases_lt m 1) [ inl a ↦ (let e : m ≡ 0 = omega arith in rw e refl) | inr a ↦ (let e : m ≡ 1 = omega arith in rw e refl) ]

-- the low bits of a number, one by one
pub number_of_bits : (n k : ℕ) → number_of (λ b. eqb (bit_at n b) 1) k ≡ n % 2 ^ k
number_of_bits n zero = omega arith
number_of_bits n (suc k) =
    let low = number_of_bits n k in
    let split : n % 2 ^ (1 + k) ≡ (n / 2 ^ k % 2 ^ 1) * 2 ^ k + n % 2 ^ k = mod-pow-add n 1 k in
    let width : 1 + k ≡ suc k = omega arith in
    let top : one_bit (eqb (bit_at n k) 1) ≡ bit_at n k = below_two (bit_at n k) (bit_at-lt n k) in
    number_split (λ b. eqb (bit_at n b) 1) k
    ∙ ap (λ m. one_bit (eqb (bit_at n k) 1) * 2 ^ k + m) low
    ∙ ap (λ m. m * 2 ^ k + n % 2 ^ k) top
    ∙ sym split
    ∙ ap (λ m. n % 2 ^ m) width

-- the tests of a saved form
abbrev pub bit_test : List ℕ → ℕ → Bool
bit_test bs v = eqb (bit_at (get_or bs (v / 8) 0) (v % 8)) 1

pub has_vectors_of : (bs : List ℕ) (v : ℕ) → v < 256 → has (vectors_of bs) v ≡ bit_test bs v
unfolding vectors_of
has_vectors_of bs v l = has_set_of (map (bit_test bs) (range_with_len 0 256)) v ∙ get_or-map-range_with_len (bit_test bs) 0 256 v v false l (omega arith)

byte_back : (bs : List ℕ) (k : ℕ) → k < 32 → get_or bs k 0 < 256 → get_or bs k 0 ≡ bits_of (vectors_of bs) (8 * k) 8
unfolding bits_of
byte_back bs k l small =
    sym (number_ext (λ b. has (vectors_of bs) (8 * k + b)) (λ b. eqb (bit_at (get_or bs k 0) b) 1) 8 (λ b less.
    let byte : (8 * k + b) / 8 ≡ k = omega arith in
    let bit : (8 * k + b) % 8 ≡ b = omega arith in
    has_vectors_of bs (8 * k + b) (omega arith)
    ∙ ap (λ j. eqb (bit_at (get_or bs j 0) ((8 * k + b) % 8)) 1) byte
    ∙ ap (λ j. eqb (bit_at (get_or bs k 0) j) 1) bit)
    ∙ number_of_bits (get_or bs k 0) 8
    ∙ (let whole : get_or bs k 0 % 256 ≡ get_or bs k 0 = omega arith in whole))

-- a saved form, read and written again
pub bytes_of-vectors_of : (bs : List ℕ) → length bs ≡ 32 → ((k : ℕ) → get_or bs k 0 < 256) → bytes_of (vectors_of bs) ≡ bs
unfolding bytes_of
bytes_of-vectors_of bs len small = sym (fill_by_all (λ k. bits_of (vectors_of bs) (8 * k) 8) bs 32 0 len (λ k l. byte_back bs k l (small k)))

bit_back : (s : Vectors) (v : ℕ) → v < 256 → bit_test (bytes_of s) v ≡ has s v
unfolding bytes_of bits_of
bit_back s v l =
    let place : 8 * (v / 8) + v % 8 ≡ v = omega arith in
    ap (λ m. eqb (bit_at m (v % 8)) 1) (get_or-map-range_with_len (λ k. bits_of s (8 * k) 8) 0 32 (v / 8) (v / 8) 0 (omega arith) (omega arith))
    ∙ bit_of_number (λ b. has s (8 * (v / 8) + b)) 8 (v % 8) (omega arith)
    ∙ ap (has s) place

pub none_past : (bs : List ℕ) (v : ℕ) → 256 ≤ v → has (vectors_of bs) v ≡ false
unfolding vectors_of
none_past bs v l = past_the_end (map (bit_test bs) (range_with_len 0 256)) v (let e = length-map-range_with_len (bit_test bs) 0 256 in omega arith)

-- a set, written and read again
pub vectors_of-bytes_of : (s : Vectors) → ((v : ℕ) → 256 ≤ v → has s v ≡ false) → vectors_of (bytes_of s) ≡ s
vectors_of-bytes_of s small =
    same_set nat_cmp_total nat_cmp-IsAntisymmetric (vectors_of (bytes_of s)) s (λ q. elim (cases_lt q 256) [
      | inl l ↦ has_vectors_of (bytes_of s) q l ∙ bit_back s q l
      | inr l ↦ none_past (bytes_of s) q l ∙ sym (small q l)
    ])

-- the first two bytes of a saved form, where no vector of theirs is a member
number_none : (p : ℕ → Bool) (n : ℕ) → ((b : ℕ) → b < n → p b ≡ false) → number_of p n ≡ 0
number_none p zero none = refl
number_none p (suc n) none = rw (none n (omega arith)) (omega (arith, number_none p n (λ b l. none b (omega arith))))

byte_of : (s : Vectors) (k : ℕ) → k < 32 → get_or (bytes_of s) k 0 ≡ number_of (λ b. has s (8 * k + b)) 8
unfolding bytes_of bits_of
byte_of s k l = get_or-map-range_with_len (λ j. bits_of s (8 * j) 8) 0 32 k k 0 l (omega arith)

pub first_byte-bytes_of : (s : Vectors) → ((b : ℕ) → b < 8 → has s b ≡ false) → get_or (bytes_of s) 0 0 ≡ 0
first_byte-bytes_of s none = byte_of s 0 (omega arith) ∙ number_none (λ b. has s (8 * 0 + b)) 8 (λ b l. let e : 8 * 0 + b ≡ b = omega arith in ap (has s) e ∙ none b l)

pub second_byte-bytes_of : (s : Vectors) → ((b : ℕ) → b < 8 → has s (8 + b) ≡ false) → get_or (bytes_of s) 1 0 ≡ 0
second_byte-bytes_of s none = byte_of s 1 (omega arith) ∙ number_none (λ b. has s (8 * 1 + b)) 8 none

-- no vector of a byte that is 0 is a member
pub no_bit-vectors_of : (bs : List ℕ) (k v : ℕ) → v < 256 → v / 8 ≡ k → get_or bs k 0 ≡ 0 → has (vectors_of bs) v ≡ false
no_bit-vectors_of bs k v l byte none =
    has_vectors_of bs v l
    ∙ ap (λ j. eqb (bit_at (get_or bs j 0) (v % 8)) 1) byte
    ∙ ap (λ n. eqb (bit_at n (v % 8)) 1) none
    ∙ ap (λ n. eqb n 1) (bit_at-zero (v % 8))

pub bits_more : (s : Vectors) (v n : ℕ) → bits_of s v (n + 1) ≡ bits_of s v n + (if has s (v + n) then 2 ^ n else 0)
unfolding bits_of
bits_more s v n = number_more (λ b. has s (v + b)) n

pub bits_none : (s : Vectors) (v : ℕ) → bits_of s v 0 ≡ 0
unfolding bits_of
bits_none s v = refl

pub bits_lt : (s : Vectors) (v n : ℕ) → bits_of s v n < 2 ^ n
unfolding bits_of
bits_lt s v n = number_lt (λ b. has s (v + b)) n

-- the bytes, once each of them is known
pub bytes_all : (s : Vectors) (bs : List ℕ) → length bs ≡ 32 → ((k : ℕ) → k < 32 → get_or bs k 0 ≡ bits_of s (8 * k) 8) → bs ≡ bytes_of s
unfolding bytes_of
bytes_all s bs len each = fill_by_all (λ k. bits_of s (8 * k) 8) bs 32 0 len each

-- the members, once each of them is known
pub members_all : (bs : List ℕ) (members : List Bool) → length members ≡ 256 → ((k : ℕ) → k < 256 → get_or members k false ≡ bit_test bs k) → set_of members ≡ vectors_of bs
unfolding vectors_of
members_all bs members len each = ap set_of (fill_by_all (bit_test bs) members 256 false len each)

-- one more bit fits a number of 32 bits
pub bit_fits : (n b : ℕ) → n < 2 ^ b → b < 32 → n + 1 * 2 ^ b % 4294967296 < 4294967296
bit_fits n b small l =
    let shifted : 1 * 2 ^ b % 4294967296 ≡ 2 ^ b = one_shl b 32 l in
    elim (cases_lt b 31) [
      | inl less ↦ (let half : 2 ^ b < 2147483648 = pow_below b 31 less in omega (arith, shifted))
      | inr more ↦ (let top : b ≡ 31 = omega arith in let half : 2 ^ b ≡ 2147483648 = ap (λ k. 2 ^ k) top in omega (arith, shifted))
    ]

pub ruleset bits_steps = (bits_more, bits_none, bits_lt)
