-- A range's bytes against its ends.
use Rattle.std.specs.Prelude.{nat_lt, nat_le}
use Rattle.std.proofs.Common.{◌≡◌, ℕ, zero, suc, ◌+◌, ◌-◌, ◌%◌, ◌^◌, ◌<◌, ◌≤◌, Bool, false, not, ◌&&◌, ◌||◌, None, refl, ap, ◌∙◌, arith}
use Rattle.std.proofs.lemmas.Bool.Decides.{nat_tests}
use Rattle.std.proofs.lemmas.Grind.{common_steps}
use Rattle.vm_bus.specs.Area.{any_byte, address_of, is_canonical, is_device, window_of, memory_of, area_of}

abbrev pub is_between : ℕ → ℕ → ℕ → Bool
is_between first last a = nat_le first a && nat_le a last

-- the ends of a range of len bytes against two addresses
abbrev pub meets : ℕ → ℕ → ℕ → ℕ → Bool
meets addr len first last = nat_lt ((first + (2 ^ 64 - addr)) % 2 ^ 64) len || (nat_lt 0 len && is_between first last addr)

-- one test for another
pub any_byte-same : (p q : ℕ → Bool) (addr len : ℕ) → ((a : ℕ) → a < 2 ^ 64 → p a ≡ q a) → any_byte p addr len ≡ any_byte q addr len
unfolding any_byte
any_byte-same p q addr zero same = refl
any_byte-same p q addr (suc k) same =
    let earlier = any_byte-same p q addr k same in
    let here = same (address_of addr k) (omega arith) in
    ap (λ b. b || p (address_of addr k)) earlier ∙ ap (λ b. any_byte q addr k || b) here

-- two tests in one
pub any_byte-or : (p q : ℕ → Bool) (addr len : ℕ) → any_byte (λ a. p a || q a) addr len ≡ (any_byte p addr len || any_byte q addr len)
unfolding any_byte
any_byte-or p q addr zero = refl
any_byte-or p q addr (suc k) =
    ap (λ b. b || (p (address_of addr k) || q (address_of addr k))) (any_byte-or p q addr k)
    ∙ four (any_byte p addr k) (any_byte q addr k) (p (address_of addr k)) (q (address_of addr k))
  where
    four : (a b c d : Bool) → ((a || b) || (c || d)) ≡ ((a || c) || (b || d))
    four a b c d = grind (arith, common_steps)

step : (addr k first last : ℕ) → addr < 2 ^ 64 → k < 2 ^ 64 → first ≤ last → last < 2 ^ 64
    → (meets addr k first last || is_between first last (address_of addr k)) ≡ meets addr (k + 1) first last
step addr k first last fits short order high = grind (arith, nat_tests)

pub any_byte-between : (addr len first last : ℕ) → addr < 2 ^ 64 → len ≤ 2 ^ 64 → first ≤ last → last < 2 ^ 64
    → any_byte (is_between first last) addr len ≡ meets addr len first last
unfolding any_byte
any_byte-between addr zero first last fits short order high = grind (arith, nat_tests)
any_byte-between addr (suc k) first last fits short order high =
    ap (λ b. b || is_between first last (address_of addr k)) (any_byte-between addr k first last fits (omega arith) order high)
    ∙ step addr k first last fits (omega arith) order high
    ∙ ap (λ n. meets addr n first last) (omega arith)

-- no byte passes
pub any_byte-none : (p : ℕ → Bool) (addr len : ℕ) → ((k : ℕ) → k < len → p (address_of addr k) ≡ false) → any_byte p addr len ≡ false
unfolding any_byte
any_byte-none p addr zero none = refl
any_byte-none p addr (suc k) none =
    let earlier = any_byte-none p addr k (λ j lt. none j (omega arith)) in
    let here = none k (omega arith) in
    ap (λ b. b || p (address_of addr k)) earlier ∙ here

-- the tests of the definitions as pairs of ends
pub outside_ram : (addr len ram : ℕ) → any_byte (λ a. nat_le ram a) addr len ≡ any_byte (is_between ram 0xFFFFFFFFFFFFFFFF) addr len
outside_ram addr len ram = any_byte-same _ _ addr len (λ a fits. grind (arith, nat_tests))

pub in_code : (addr len code : ℕ) → 0 < code → any_byte (λ a. nat_lt a code) addr len ≡ any_byte (is_between 0 (code - 1)) addr len
in_code addr len code some = any_byte-same _ _ addr len (λ a fits. grind (arith, nat_tests))

pub no_code : (addr len code : ℕ) → code ≤ 0 → any_byte (λ a. nat_lt a code) addr len ≡ false
no_code addr len code none = any_byte-none _ addr len (λ k lt. grind (arith, nat_tests))

pub in_hole : (addr len : ℕ) → any_byte (λ a. not (is_canonical a)) addr len ≡ any_byte (is_between 0x800000000000 0xFFFF7FFFFFFFFFFF) addr len
in_hole addr len = any_byte-same _ _ addr len (λ a fits. grind (arith, nat_tests))

device_at : (a : ℕ) → is_device a ≡ (is_between 0xFEE00000 0xFEE00FFF a || (is_between 0xFEC00000 0xFEC00FFF a || is_between 0xD0000000 0xD0007FFF a))
unfolding is_device
device_at a = grind (arith, nat_tests)

pub in_device : (addr len : ℕ) → any_byte is_device addr len ≡ (any_byte (is_between 0xFEE00000 0xFEE00FFF) addr len || (any_byte (is_between 0xFEC00000 0xFEC00FFF) addr len || any_byte (is_between 0xD0000000 0xD0007FFF) addr len))
in_device addr len =
    any_byte-same _ _ addr len (λ a fits. device_at a)
    ∙ any_byte-or (is_between 0xFEE00000 0xFEE00FFF) (λ a. is_between 0xFEC00000 0xFEC00FFF a || is_between 0xD0000000 0xD0007FFF a) addr len
    ∙ ap (λ b. any_byte (is_between 0xFEE00000 0xFEE00FFF) addr len || b) (any_byte-or (is_between 0xFEC00000 0xFEC00FFF) (is_between 0xD0000000 0xD0007FFF) addr len)

-- below the first window there is memory or nothing
no_window : (addr len : ℕ) → addr < 0xD0000000 → window_of addr len ≡ None
unfolding window_of
no_window addr len low = grind (arith, nat_tests, common_steps)

pub area_of-low : (addr len code ram : ℕ) → addr + len ≤ 0xD0000000 → addr < 0xD0000000 → area_of addr len code ram ≡ memory_of addr len code ram
unfolding area_of
area_of-low addr len code ram short low =
    let canonical : any_byte (λ a. not (is_canonical a)) addr len ≡ false = any_byte-none _ addr len (λ k lt. grind (arith, nat_tests)) in
    let plain : any_byte is_device addr len ≡ false = any_byte-none _ addr len (λ k lt. rw (device_at (address_of addr k)) (grind (arith, nat_tests))) in
    rw (canonical, no_window addr len low, plain) refl
