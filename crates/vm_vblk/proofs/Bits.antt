-- Bits of a window's status and interrupt status.
use Rattle.std.specs.Prelude.{bit_and, bit_or}
use Rattle.std.proofs.Common.{◌≡◌, ℕ, ◌*◌, true, arith}
use Rattle.std.specs.Int.{bit_at}
use Rattle.std.proofs.lemmas.Nat.Bits.{and_pow, bit_at_and, bit_at_or, bit_at-lt}
use Rattle.std.proofs.lemmas.Bool.Decides.{nat_tests}
use Rattle.vm_vblk.specs.Window.{works}

working : (s : ℕ) → works s ≡ true → (bit_at s 2 ≡ 1) × (bit_at s 6 ≡ 0)
unfolding works
working s h =
    let four : bit_and s 4 ≡ bit_at s 2 * 4 = and_pow s 2 in
    let big : bit_and s 64 ≡ bit_at s 6 * 64 = and_pow s 6 in
    let a = bit_at-lt s 2 in
    let b = bit_at-lt s 6 in
    grind (arith, nat_tests)

works_by : (s : ℕ) → bit_at s 2 ≡ 1 → bit_at s 6 ≡ 0 → works s ≡ true
unfolding works
works_by s one none =
    let four : bit_and s 4 ≡ bit_at s 2 * 4 = and_pow s 2 in
    let big : bit_and s 64 ≡ bit_at s 6 * 64 = and_pow s 6 in
    grind (arith, nat_tests)

-- a device that works still does when the driver adds other bits than DEVICE_NEEDS_RESET
pub keeps_working : (s v mask : ℕ) → works s ≡ true → bit_and mask 64 ≡ 0 → works (bit_or s (bit_and v mask)) ≡ true
keeps_working s v mask h none =
    let w = working s h in
    let clear : bit_and mask 64 ≡ bit_at mask 6 * 64 = and_pow mask 6 in
    let two = bit_at_or s (bit_and v mask) 2 in
    let six = bit_at_or s (bit_and v mask) 6 in
    let low = bit_at_and v mask 6 in
    let small = bit_at-lt (bit_and v mask) 2 in
    works_by _ (omega arith) (omega arith)
