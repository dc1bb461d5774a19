-- Products and powers in the spans of timers.
use Rattle.std.proofs.Common.{◌≡◌, ℕ, zero, suc, ◌+◌, ◌*◌, ◌%◌, ◌^◌, ◌<◌, ◌≤◌, refl, arith}
use Rattle.std.proofs.Math.Nat.{mul-le-mul}

pub doubled : (k : ℕ) → k < 8 → 2 * 2 ^ k % 18446744073709551616 ≡ 2 ^ (k + 1)
doubled zero within = refl
doubled (suc zero) within = refl
doubled (suc (suc zero)) within = refl
doubled (suc (suc (suc zero))) within = refl
doubled (suc (suc (suc (suc zero)))) within = refl
doubled (suc (suc (suc (suc (suc zero))))) within = refl
doubled (suc (suc (suc (suc (suc (suc zero)))))) within = refl
doubled (suc (suc (suc (suc (suc (suc (suc zero))))))) within = refl
doubled (suc (suc (suc (suc (suc (suc (suc (suc k)))))))) within = absurd (omega arith)

pub small_power : (k : ℕ) → k < 7 → 2 ^ (k + 1) ≤ 128
small_power zero within = omega arith
small_power (suc zero) within = omega arith
small_power (suc (suc zero)) within = omega arith
small_power (suc (suc (suc zero))) within = omega arith
small_power (suc (suc (suc (suc zero)))) within = omega arith
small_power (suc (suc (suc (suc (suc zero))))) within = omega arith
small_power (suc (suc (suc (suc (suc (suc zero)))))) within = omega arith
small_power (suc (suc (suc (suc (suc (suc (suc k))))))) within = absurd (omega arith)

pub doubled_small : (k : ℕ) → k < 7 → 2 * 2 ^ k % 18446744073709551616 ≤ 128
doubled_small k within = rw (doubled k (omega arith)) (small_power k within)

some_power : (k : ℕ) → k < 8 → 1 ≤ 2 ^ (k + 1)
some_power zero within = omega arith
some_power (suc zero) within = omega arith
some_power (suc (suc zero)) within = omega arith
some_power (suc (suc (suc zero))) within = omega arith
some_power (suc (suc (suc (suc zero)))) within = omega arith
some_power (suc (suc (suc (suc (suc zero))))) within = omega arith
some_power (suc (suc (suc (suc (suc (suc zero)))))) within = omega arith
some_power (suc (suc (suc (suc (suc (suc (suc zero))))))) within = omega arith
some_power (suc (suc (suc (suc (suc (suc (suc (suc k)))))))) within = absurd (omega arith)

pub doubled_some : (k : ℕ) → k < 8 → 1 ≤ 2 * 2 ^ k % 18446744073709551616
doubled_some k within = rw (doubled k within) (some_power k within)

pub ruleset doubled_steps = (doubled, doubled_small, doubled_some)

pub product_some : (a b : ℕ) → 1 ≤ a → 1 ≤ b → 1 ≤ a * b
product_some a b h k = mul-le-mul h k

pub product_small : (a b : ℕ) → a < 2 ^ 32 → b ≤ 128 → a * b < 2 ^ 39
product_small a b h k =
    let low : a ≤ 4294967295 = omega arith in
    let most : a * b ≤ 4294967295 * 128 = mul-le-mul low k in
    omega arith

pub ruleset product_steps = (product_some, product_small)
