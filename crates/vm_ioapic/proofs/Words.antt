-- Entries as words, and back.
use Rattle.std.proofs.Common.{◌≡◌, ℕ, zero, suc, ◌+◌, ◌*◌, ◌/◌, ◌%◌, ◌^◌, ◌<◌, Bool, true, false, eqb, refl, sym, ap, subst, arith, ◌∙◌}
use Rattle.std.proofs.lemmas.Nat.{mod-pow-add}
use Rattle.std.proofs.lemmas.Nat.Bits.{bit_at-lt}
use Rattle.std.specs.Int.{bit_at}
use Rattle.vm_ioapic.specs.declared.entry.DeliveryMode.{DeliveryMode}
use Rattle.vm_ioapic.specs.declared.entry.DeliveryMode.TheVariants.{Fixed, LowestPriority, Smi, Reserved3, Nmi, Init, Reserved6, ExtInt}
use Rattle.vm_ioapic.specs.declared.pin.Pin.{Pin}
use Rattle.vm_ioapic.specs.Entry.{bit, weight, mode_of, mode_number, low_half, with_low, with_high}
use Rattle.vm_ioapic.specs.Pin.{IsPin}
use Rattle.vm_ioapic.specs.Saved.{word_of, pin_of, IsEntry}

mode_back : (m : DeliveryMode) → mode_of (mode_number m) ≡ m
mode_back Fixed = refl
mode_back LowestPriority = refl
mode_back Smi = refl
mode_back Reserved3 = refl
mode_back Nmi = refl
mode_back Init = refl
mode_back Reserved6 = refl
mode_back ExtInt = refl

mode_small : (m : DeliveryMode) → mode_number m < 8
mode_small Fixed = omega arith
mode_small LowestPriority = omega arith
mode_small Smi = omega arith
mode_small Reserved3 = omega arith
mode_small Nmi = omega arith
mode_small Init = omega arith
mode_small Reserved6 = omega arith
mode_small ExtInt = omega arith

number_back : (n : ℕ) → n < 8 → mode_number (mode_of n) ≡ n
number_back zero l = refl
number_back (suc zero) l = refl
number_back (suc (suc zero)) l = refl
number_back (suc (suc (suc zero))) l = refl
number_back (suc (suc (suc (suc zero)))) l = refl
number_back (suc (suc (suc (suc (suc zero))))) l = refl
number_back (suc (suc (suc (suc (suc (suc zero)))))) l = refl
number_back (suc (suc (suc (suc (suc (suc (suc zero))))))) l = refl
number_back (suc (suc (suc (suc (suc (suc (suc (suc n)))))))) l = absurd (omega arith)

one : Bool → ℕ
one true = 1
one false = 0

one_lt : (b : Bool) → one b < 2
unfolding one
one_lt true = omega arith
one_lt false = omega arith

one_back : (b : Bool) → eqb (one b) 1 ≡ b
unfolding one
one_back true = refl
one_back false = refl

weight_one : (b : Bool) (k : ℕ) → weight b k ≡ one b * 2 ^ k
unfolding one
weight_one true k = omega arith
weight_one false k = omega arith

back_one : (n : ℕ) → n < 2 → one (eqb n 1) ≡ n
unfolding one
back_one zero l = refl
back_one (suc zero) l = refl
back_one (suc (suc n)) l = absurd (omega arith)

weight_bit : (n k : ℕ) → weight (bit n k) k ≡ bit_at n k * 2 ^ k
weight_bit n k = weight_one (bit n k) k ∙ ap (λ x. x * 2 ^ k) (back_one (bit_at n k) (bit_at-lt n k))

-- a word of eight fields
abbrev sum_of : ℕ → ℕ → ℕ → ℕ → ℕ → ℕ → ℕ → ℕ → ℕ
sum_of v m lo po re le ma d = v + 256 * m + lo * 2048 + po * 8192 + re * 16384 + le * 32768 + ma * 65536 + 4294967296 * (16777216 * d)

word_is : (p : Pin) → word_of p ≡ sum_of p.entry.vector (mode_number p.entry.mode) (one p.entry.logical) (one p.entry.active_low) (one p.remote_irr) (one p.entry.level) (one p.entry.masked) p.entry.destination
unfolding low_half
word_is p = omega (arith, weight_one p.entry.logical 11, weight_one p.entry.active_low 13, weight_one p.remote_irr 14, weight_one p.entry.level 15, weight_one p.entry.masked 16)

record Fields (w v m lo po re le ma d : ℕ) : Type 0 where
  vector : w % 4294967296 % 256 ≡ v
  mode : w % 4294967296 / 256 % 8 ≡ m
  logical : w % 4294967296 / 2048 % 2 ≡ lo
  active_low : w % 4294967296 / 8192 % 2 ≡ po
  remote : w % 4294967296 / 16384 % 2 ≡ re
  level : w % 4294967296 / 32768 % 2 ≡ le
  masked : w % 4294967296 / 65536 % 2 ≡ ma
  destination : w / 4294967296 / 16777216 % 256 ≡ d

fields_of : (v m lo po re le ma d : ℕ) → v < 256 → m < 8 → lo < 2 → po < 2 → re < 2 → le < 2 → ma < 2 → d < 256 → Fields (sum_of v m lo po re le ma d) v m lo po re le ma d
fields_of v m lo po re le ma d v_lt m_lt lo_lt po_lt re_lt le_lt ma_lt d_lt = record {
  vector = omega arith;
  mode = omega arith;
  logical = omega arith;
  active_low = omega arith;
  remote = omega arith;
  level = omega arith;
  masked = omega arith;
  destination = omega arith;
}

bit_is : (n k : ℕ) (b : Bool) → bit_at n k ≡ one b → bit n k ≡ b
bit_is n k b e = ap (λ x. eqb x 1) e ∙ one_back b

abbrev made : ℕ → DeliveryMode → Bool → Bool → Bool → Bool → Bool → ℕ → ℕ → Pin
made v m lo po re le ma d count = record { entry = record { vector = v; mode = m; logical = lo; active_low = po; level = le; masked = ma; destination = d }; count = count; remote_irr = re }

same_pin : (v v' d d' count : ℕ) (m m' : DeliveryMode) (lo lo' po po' re re' le le' ma ma' : Bool) → v ≡ v' → m ≡ m' → lo ≡ lo' → po ≡ po' → re ≡ re' → le ≡ le' → ma ≡ ma' → d ≡ d' → made v m lo po re le ma d count ≡ made v' m' lo' po' re' le' ma' d' count
same_pin v v' d d' count m m' lo lo' po po' re re' le le' ma ma' ve me loe poe ree lee mae de = cc

-- a pin, written and read again
pub pin_back : (p : Pin) → IsPin p → pin_of (word_of p) p.count ≡ p
unfolding with_low with_high
pin_back p ok =
    let sum = sum_of p.entry.vector (mode_number p.entry.mode) (one p.entry.logical) (one p.entry.active_low) (one p.remote_irr) (one p.entry.level) (one p.entry.masked) p.entry.destination in
    let f = fields_of p.entry.vector (mode_number p.entry.mode) (one p.entry.logical) (one p.entry.active_low) (one p.remote_irr) (one p.entry.level) (one p.entry.masked) p.entry.destination
    ok.vector (mode_small p.entry.mode) (one_lt p.entry.logical) (one_lt p.entry.active_low) (one_lt p.remote_irr) (one_lt p.entry.level) (one_lt p.entry.masked) ok.destination in
    ap (λ w. pin_of w p.count) (word_is p)
    ∙ same_pin _ _ _ _ p.count _ _ _ _ _ _ _ _ _ _ _ _
    f.vector
    (ap mode_of f.mode ∙ mode_back p.entry.mode)
    (bit_is (sum % 4294967296) 11 p.entry.logical f.logical)
    (bit_is (sum % 4294967296) 13 p.entry.active_low f.active_low)
    (bit_is (sum % 4294967296) 14 p.remote_irr f.remote)
    (bit_is (sum % 4294967296) 15 p.entry.level f.level)
    (bit_is (sum % 4294967296) 16 p.entry.masked f.masked)
    f.destination

-- the bits that the sum has and hasn't
record Gaps (w re le : ℕ) : Type 0 where
  status : w / 4096 % 2 ≡ 0
  unused : w / 131072 % 549755813888 ≡ 0
  remote : w / 16384 % 2 ≡ re
  level : w / 32768 % 2 ≡ le

gaps_of : (v m lo po re le ma d : ℕ) → v < 256 → m < 8 → lo < 2 → po < 2 → re < 2 → le < 2 → ma < 2 → d < 256 → Gaps (sum_of v m lo po re le ma d) re le
gaps_of v m lo po re le ma d v_lt m_lt lo_lt po_lt re_lt le_lt ma_lt d_lt = record { status = omega arith; unused = omega arith; remote = omega arith; level = omega arith }

-- a pin's word has only bits that an entry has
pub entry_of_pin : (p : Pin) → IsPin p → IsEntry (word_of p)
entry_of_pin p ok =
    let sum = sum_of p.entry.vector (mode_number p.entry.mode) (one p.entry.logical) (one p.entry.active_low) (one p.remote_irr) (one p.entry.level) (one p.entry.masked) p.entry.destination in
    let g = gaps_of p.entry.vector (mode_number p.entry.mode) (one p.entry.logical) (one p.entry.active_low) (one p.remote_irr) (one p.entry.level) (one p.entry.masked) p.entry.destination
    ok.vector (mode_small p.entry.mode) (one_lt p.entry.logical) (one_lt p.entry.active_low) (one_lt p.remote_irr) (one_lt p.entry.level) (one_lt p.entry.masked) ok.destination in
    let remote : bit sum 14 ≡ p.remote_irr = bit_is sum 14 p.remote_irr g.remote in
    let level : bit sum 15 ≡ p.entry.level = bit_is sum 15 p.entry.level g.level in
    let entry : IsEntry sum = record { status = ap (λ x. eqb x 1) g.status; unused = g.unused; remote = λ h. level ∙ ok.remote (sym remote ∙ h) } in
    subst IsEntry (sym (word_is p)) entry

same_bit : (w k : ℕ) → bit_at (w % 4294967296) k ≡ bit_at w k → bit (w % 4294967296) k ≡ bit w k
same_bit w k e = ap (λ x. eqb x 1) e

-- the pin of an entry's word is in order
pub pin_of_entry : (w count : ℕ) → IsEntry w → IsPin (pin_of w count)
unfolding with_low with_high
pin_of_entry w count entry =
    let remote : w % 4294967296 / 16384 % 2 ≡ w / 16384 % 2 = omega arith in
    let level : w % 4294967296 / 32768 % 2 ≡ w / 32768 % 2 = omega arith in
    record { vector = omega arith; destination = omega arith; remote = λ h. same_bit w 15 level ∙ entry.remote (sym (same_bit w 14 remote) ∙ h) }

zero_bit : (n : ℕ) → n < 2 → eqb n 1 ≡ false → n ≡ 0
zero_bit zero l e = refl
zero_bit (suc zero) l e = absurd cc
zero_bit (suc (suc n)) l e = absurd (omega arith)

-- the low 17 bits of a number, field by field
low_fields : (n : ℕ) → n / 4096 % 2 ≡ 0 → n % 131072 ≡ n % 256 + 256 * (n / 256 % 8) + (n / 2048 % 2) * 2048 + (n / 8192 % 2) * 8192 + (n / 16384 % 2) * 16384 + (n / 32768 % 2) * 32768 + (n / 65536 % 2) * 65536
low_fields n status =
    let a : n % 2048 ≡ (n / 256 % 8) * 256 + n % 256 = mod-pow-add n 3 8 in
    let b : n % 4096 ≡ (n / 2048 % 2) * 2048 + n % 2048 = mod-pow-add n 1 11 in
    let c : n % 8192 ≡ (n / 4096 % 2) * 4096 + n % 4096 = mod-pow-add n 1 12 in
    let d : n % 16384 ≡ (n / 8192 % 2) * 8192 + n % 8192 = mod-pow-add n 1 13 in
    let e : n % 32768 ≡ (n / 16384 % 2) * 16384 + n % 16384 = mod-pow-add n 1 14 in
    let f : n % 65536 ≡ (n / 32768 % 2) * 32768 + n % 32768 = mod-pow-add n 1 15 in
    let g : n % 131072 ≡ (n / 65536 % 2) * 65536 + n % 65536 = mod-pow-add n 1 16 in
    omega (arith, a, b, c, d, e, f, g, status)

high_fields : (w : ℕ) → w < 2 ^ 64 → w / 131072 % 549755813888 ≡ 0 → w ≡ w % 4294967296 % 131072 + 4294967296 * (16777216 * (w / 4294967296 / 16777216 % 256))
high_fields w small unused = omega arith

sums : (v m lo po re le ma d n w : ℕ) → n ≡ v + 256 * m + lo * 2048 + po * 8192 + re * 16384 + le * 32768 + ma * 65536 → w ≡ n + 4294967296 * (16777216 * d) → sum_of v m lo po re le ma d ≡ w
sums v m lo po re le ma d n w low whole = omega (arith, low, whole)

-- an entry's word, read and written again
pub word_back : (w count : ℕ) → IsEntry w → w < 2 ^ 64 → word_of (pin_of w count) ≡ w
unfolding low_half with_low with_high
word_back w count entry small =
    let clear : w / 4096 % 2 ≡ 0 = zero_bit (bit_at w 12) (bit_at-lt w 12) entry.status in
    let status : w % 4294967296 / 4096 % 2 ≡ 0 = omega arith in
    let mode = number_back (w % 4294967296 / 256 % 8) (omega arith) in
    let logical = weight_bit (w % 4294967296) 11 in
    let polarity = weight_bit (w % 4294967296) 13 in
    let remote = weight_bit (w % 4294967296) 14 in
    let level = weight_bit (w % 4294967296) 15 in
    let masked = weight_bit (w % 4294967296) 16 in
    let low = low_fields (w % 4294967296) status in
    let whole = high_fields w small entry.unused in
    rw (mode, logical, polarity, remote, level, masked) (sums _ _ _ _ _ _ _ _ _ _ low whole)
