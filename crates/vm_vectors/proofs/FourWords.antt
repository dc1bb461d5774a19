-- Sets of vectors as four words of 64 bits.
use Rattle.std.specs.Prelude.{◌==◌, if◌then◌else◌, Option, Some, None, IfNone, IfSome, MatchOption}
use Rattle.std.proofs.Common.{◌≡◌, ◌≢◌, ℕ, suc, ◌+◌, ◌*◌, ◌/◌, ◌%◌, ◌-◌, ◌^◌, ◌<◌, ◌≤◌, Bool, true, false, List, length, get_or, set, map, sym, ap, arith, inl, inr, ◌∙◌, ◌⊎◌, bit_and}
use Rattle.std.proofs.lemmas.Bool.{cases_lt, false≢true}
use Rattle.std.proofs.lemmas.Bool.Decides.{nat_tests}
use Rattle.std.proofs.lemmas.Grind.{common_steps, pow_more}
use Rattle.std.proofs.lemmas.List.{get_or_past, get_or-set_same, get_or-set_other}
use Rattle.std.proofs.lemmas.List.FromFn.{get_or-map-range_with_len, length-map-range_with_len}
use Rattle.std.proofs.lemmas.Nat.{leading_top}
use Rattle.std.proofs.lemmas.Nat.Bits.{bit_at-zero, bit_at_above, bit_at_cat_high, bit_at_set_same, bit_at_set_other, bit_at_clear_same, bit_at_clear_other}
use Rattle.std.specs.List.{range_with_len}
use Rattle.std.specs.Int.{bit_at, bit_not, w64, leading_zeros}
use Rattle.std.specs.Int.RustNames.{bit_or}
use Rattle.std.specs.Cmp.{nat_cmp_total}
use Rattle.std.specs.FinSet.{insert, remove, empty, same_set, members, nat_cmp-IsAntisymmetric}
use Rattle.vm_law.proofs.BitSets.{has_set_of, past_the_end}
use Rattle.vm_vectors.specs.Vectors.{Vectors, has, highest, vectors_of}
use Rattle.vm_vectors.proofs.Bits.{bit_test, has_vectors_of, none_past}
use Rattle.vm_vectors.proofs.Highest.{highest_is, highest_none, no_member}
use Rattle.vm_vectors.specs.Words.{bit_in, set_in, IsTop}

pub has_in : (words : List ℕ) (v : ℕ) → v < 256 → has (set_in words) v ≡ bit_in words v
unfolding set_in
has_in words v l = has_set_of (map (bit_in words) (range_with_len 0 256)) v ∙ get_or-map-range_with_len (bit_in words) 0 256 v v false l (omega arith)

pub none_in : (words : List ℕ) (v : ℕ) → 256 ≤ v → has (set_in words) v ≡ false
unfolding set_in
none_in words v l = past_the_end (map (bit_in words) (range_with_len 0 256)) v (let e = length-map-range_with_len (bit_in words) 0 256 in omega arith)

pub no_bit_past : (words : List ℕ) (v : ℕ) → length words ≡ 4 → 256 ≤ v → bit_in words v ≡ false
no_bit_past words v four l =
    let none : get_or words (v / 64) 0 ≡ 0 = get_or_past words (v / 64) 0 (omega arith) in
    ap (λ (w : ℕ). bit_at w (v % 64) == 1) none ∙ ap (λ (b : ℕ). b == 1) (bit_at-zero (v % 64))

-- the bit at which a number begins
bit_of_top : (n j : ℕ) → 2 ^ j ≤ n → n < 2 ^ suc j → bit_at n j ≡ 1
bit_of_top n j low high =
    let twice : 2 ^ suc j ≡ 2 ^ j * 2 = (let e : suc j ≡ j + 1 = omega arith in ap (λ (k : ℕ). 2 ^ k) e ∙ pow_more 2 j) in
    let rest = n - 2 ^ j in
    let sum : n ≡ 1 * 2 ^ j + rest = omega arith in
    let none : j - j ≡ 0 = omega arith in
    ap (λ (x : ℕ). bit_at x j) sum ∙ bit_at_cat_high 1 j rest j (omega arith) (omega arith) ∙ ap (λ (k : ℕ). bit_at 1 k) none

-- sets of the same members are the same
pub same_members : (s t : Vectors) → ((q : ℕ) → has s q ≡ has t q) → s ≡ t
same_members s t same = same_set nat_cmp_total nat_cmp-IsAntisymmetric s t same

same_or_not : (a b : ℕ) → (a ≡ b) ⊎ (a ≢ b)
same_or_not a b =
    elim (cases_lt a b) [
      | inl lt ↦ inr (λ e. omega arith)
      | inr ge ↦ elim (cases_lt b a) [ inl lt ↦ inr (λ e. omega arith) | inr le ↦ inl (omega arith) ]
    ]

has_insert_same : (s : Vectors) (v : ℕ) → has (insert s v) v ≡ true
has_insert_same s v = grind (arith, members, nat_tests, common_steps)

has_insert_other : (s : Vectors) (v q : ℕ) → q ≢ v → has (insert s v) q ≡ has s q
has_insert_other s v q differs = grind (arith, members, nat_tests, common_steps)

has_remove_same : (s : Vectors) (v : ℕ) → has (remove s v) v ≡ false
has_remove_same s v = grind (arith, members, nat_tests, common_steps)

has_remove_other : (s : Vectors) (v q : ℕ) → q ≢ v → has (remove s v) q ≡ has s q
has_remove_other s v q differs = grind (arith, members, nat_tests, common_steps)

-- a word was replaced, which keeps every bit but one
pub others_keep : (words : List ℕ) (v word : ℕ) → length words ≡ 4 → v < 256
    → ((i : ℕ) → i < 64 → i ≢ v % 64 → bit_at word i ≡ bit_at (get_or words (v / 64) 0) i) → (q : ℕ) → q ≢ v → bit_in (set words (v / 64) word) q ≡ bit_in words q
others_keep words v word four lt keeps q differs =
    elim (same_or_not (q / 64) (v / 64)) [
      | inl same ↦
          let bit : q % 64 ≢ v % 64 = λ e. differs (omega arith) in
          ap (λ (k : ℕ). bit_at (get_or (set words (v / 64) word) k 0) (q % 64) == 1) same
          ∙ ap (λ (w : ℕ). bit_at w (q % 64) == 1) (get_or-set_same words (v / 64) word 0 (omega arith))
          ∙ ap (λ (b : ℕ). b == 1) (keeps (q % 64) (omega arith) bit)
          ∙ ap (λ (k : ℕ). bit_at (get_or words k 0) (q % 64) == 1) (sym same)
      | inr other ↦ ap (λ (w : ℕ). bit_at w (q % 64) == 1) (get_or-set_other words (v / 64) (q / 64) word 0 other)
    ]

bit_becomes : (words : List ℕ) (v word b : ℕ) → length words ≡ 4 → v < 256 → bit_at word (v % 64) ≡ b → bit_in (set words (v / 64) word) v ≡ (b == 1)
bit_becomes words v word b four lt is =
    ap (λ (w : ℕ). bit_at w (v % 64) == 1) (get_or-set_same words (v / 64) word 0 (omega arith)) ∙ ap (λ (b : ℕ). b == 1) is

pub inserted : (words : List ℕ) (v : ℕ) → length words ≡ 4 → v < 256
    → set_in (set words (v / 64) (bit_or (get_or words (v / 64) 0) (1 * 2 ^ (v % 64) % 2 ^ 64))) ≡ insert (set_in words) v
inserted words v four lt =
    let word = bit_or (get_or words (v / 64) 0) (1 * 2 ^ (v % 64) % 2 ^ 64) in
    let new = set words (v / 64) word in
    same_members (set_in new) (insert (set_in words) v) (λ q. elim (same_or_not q v) [
      | inl same ↦
          ap (λ (x : ℕ). has (set_in new) x) same ∙ has_in new v lt
          ∙ bit_becomes words v word 1 four lt (bit_at_set_same w64 (get_or words (v / 64) 0) (v % 64) (omega arith))
          ∙ sym (has_insert_same (set_in words) v) ∙ ap (λ (x : ℕ). has (insert (set_in words) v) x) (sym same)
      | inr differs ↦ elim (cases_lt q 256) [
        | inl small ↦
            has_in new q small
            ∙ others_keep words v word four lt (λ i l d. bit_at_set_other w64 (get_or words (v / 64) 0) (v % 64) (omega arith) i d) q differs
            ∙ sym (has_in words q small) ∙ sym (has_insert_other (set_in words) v q differs)
        | inr big ↦ none_in new q big ∙ sym (none_in words q big) ∙ sym (has_insert_other (set_in words) v q differs)
      ]
    ])

pub removed : (words : List ℕ) (v : ℕ) → length words ≡ 4 → v < 256
    → set_in (set words (v / 64) (bit_and (get_or words (v / 64) 0) (bit_not w64 (1 * 2 ^ (v % 64) % 2 ^ 64)))) ≡ remove (set_in words) v
removed words v four lt =
    let word = bit_and (get_or words (v / 64) 0) (bit_not w64 (1 * 2 ^ (v % 64) % 2 ^ 64)) in
    let new = set words (v / 64) word in
    same_members (set_in new) (remove (set_in words) v) (λ q. elim (same_or_not q v) [
      | inl same ↦
          ap (λ (x : ℕ). has (set_in new) x) same ∙ has_in new v lt
          ∙ bit_becomes words v word 0 four lt (bit_at_clear_same w64 (get_or words (v / 64) 0) (v % 64) (omega arith))
          ∙ sym (has_remove_same (set_in words) v) ∙ ap (λ (x : ℕ). has (remove (set_in words) v) x) (sym same)
      | inr differs ↦ elim (cases_lt q 256) [
        | inl small ↦
            has_in new q small
            ∙ others_keep words v word four lt (λ i l d. bit_at_clear_other w64 (get_or words (v / 64) 0) (v % 64) (omega arith) i l d) q differs
            ∙ sym (has_in words q small) ∙ sym (has_remove_other (set_in words) v q differs)
        | inr big ↦ none_in new q big ∙ sym (none_in words q big) ∙ sym (has_remove_other (set_in words) v q differs)
      ]
    ])

-- the highest bit of the highest word that isn't 0
pub top_is : (words : List ℕ) (k : ℕ) → length words ≡ 4 → k < 4 → 0 < get_or words k 0 → get_or words k 0 < 2 ^ 64 → ((j : ℕ) → k < j → get_or words j 0 ≡ 0)
    → IsTop words (64 * (k + 1) - 1 - leading_zeros w64 (get_or words k 0))
top_is words k four lt some small above =
    let word = get_or words k 0 in
    let t = leading_top 64 word some small in
    let j = t.0 in
    let sum : leading_zeros w64 word + suc j ≡ 64 = t.1 in
    let low : 2 ^ j ≤ word = t.2 in
    let high : word < 2 ^ suc j = t.3 in
    let v = 64 * (k + 1) - 1 - leading_zeros w64 word in
    let at : v ≡ 64 * k + j = omega arith in
    let place : v / 64 ≡ k = omega arith in
    let bit : v % 64 ≡ j = omega arith in
    let one : bit_at word j ≡ 1 = bit_of_top word j low high in
    record {
      is_set = ap (λ (i : ℕ). bit_at (get_or words i 0) (v % 64) == 1) place ∙ ap (λ (i : ℕ). bit_at word i == 1) bit ∙ ap (λ (b : ℕ). b == 1) one;
      above = λ w more. elim (cases_lt k (w / 64)) [
        | inl later ↦ ap (λ (x : ℕ). bit_at x (w % 64) == 1) (above (w / 64) later) ∙ ap (λ (b : ℕ). b == 1) (bit_at-zero (w % 64))
        | inr here ↦
            let same : w / 64 ≡ k = omega arith in
            ap (λ (i : ℕ). bit_at (get_or words i 0) (w % 64) == 1) same ∙ ap (λ (b : ℕ). b == 1) (bit_at_above word (suc j) (w % 64) high (omega arith))
      ];
    }

pub none_set : (words : List ℕ) → ((k : ℕ) → get_or words k 0 ≡ 0) → (v : ℕ) → bit_in words v ≡ false
none_set words none v = ap (λ (x : ℕ). bit_at x (v % 64) == 1) (none (v / 64)) ∙ ap (λ (b : ℕ). b == 1) (bit_at-zero (v % 64))

-- one vector more
pub put_below : (s : Vectors) (v : ℕ) (b : Bool) (p : ℕ → Bool) → b ≡ p v → ((q : ℕ) → q < v → has s q ≡ p q) → ((q : ℕ) → v ≤ q → has s q ≡ false)
    → (q : ℕ) → q < v + 1 → has (if b then insert s v else s) q ≡ p q
put_below s v true p is below above q lt = elim (same_or_not q v) [
  | inl same ↦ ap (λ (x : ℕ). has (insert s v) x) same ∙ has_insert_same s v ∙ is ∙ ap p (sym same)
  | inr differs ↦ has_insert_other s v q differs ∙ below q (omega arith)
]
put_below s v false p is below above q lt = elim (same_or_not q v) [
  | inl same ↦ above q (omega arith) ∙ is ∙ ap p (sym same)
  | inr differs ↦ below q (omega arith)
]

pub put_above : (s : Vectors) (v : ℕ) (b : Bool) → ((q : ℕ) → v ≤ q → has s q ≡ false) → (q : ℕ) → v + 1 ≤ q → has (if b then insert s v else s) q ≡ false
put_above s v true above q le = has_insert_other s v q (λ e. omega arith) ∙ above q (omega arith)
put_above s v false above q le = above q (omega arith)

-- what the highest bit tells of the set
pub record TellsHighest (s : Vectors) (r : Option ℕ) : Type 0 where
  pub value : r ≡ highest s
  pub none : IfNone r (s ≡ empty)
  pub member : IfSome r (λ v. has s v ≡ true)
  pub greatest : IfSome r (λ v. (w : ℕ) → v < w → has s w ≡ false)

not_in : (words : List ℕ) (w : ℕ) → bit_in words w ≡ false → has (set_in words) w ≡ false
not_in words w none = elim (cases_lt w 256) [ inl small ↦ has_in words w small ∙ none | inr big ↦ none_in words w big ]

pub top_tells : (words : List ℕ) (r : Option ℕ) → length words ≡ 4 → MatchOption r ((v : ℕ) → bit_in words v ≡ false) (IsTop words) → TellsHighest (set_in words) r
top_tells words None four none =
    let all : (w : ℕ) → has (set_in words) w ≡ false = λ w. not_in words w (none w) in
    record { value = sym (highest_none (set_in words) all); none = no_member (set_in words) all; member = tt; greatest = tt }
top_tells words (Some v) four top =
    let small : v < 256 = elim (cases_lt v 256) [ inl l ↦ l | inr big ↦ absurd (false≢true (sym (no_bit_past words v four big) ∙ top.is_set)) ] in
    let here : has (set_in words) v ≡ true = has_in words v small ∙ top.is_set in
    let above : (w : ℕ) → v < w → has (set_in words) w ≡ false = λ w l. not_in words w (top.above w l) in
    record { value = sym (highest_is (set_in words) v here above); none = tt; member = here; greatest = above }

-- the set whose members are the bits of a saved form
pub all_read : (bytes : List ℕ) (s : Vectors) (n : ℕ) → 256 ≤ n → n ≤ 256 → ((q : ℕ) → q < n → has s q ≡ bit_test bytes q) → ((q : ℕ) → n ≤ q → has s q ≡ false) → s ≡ vectors_of bytes
all_read bytes s n all most below above =
    same_members s (vectors_of bytes) (λ q. elim (cases_lt q 256) [
      | inl small ↦ below q (omega arith) ∙ sym (has_vectors_of bytes q small)
      | inr big ↦ above q (omega arith) ∙ sym (none_past bytes q big)
    ])
