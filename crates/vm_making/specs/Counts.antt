-- The counts that a number gives.
use Rattle.std.specs.Prelude.{ℕ, zero, suc, ◌+◌, ◌*◌, ◌%◌, List, map, sum}
use Rattle.std.specs.List.{range_with_len}

-- the generator of the C standard's example of rand (ISO C, 7.22.2.2), modulo 2^31
abbrev pub next : ℕ → ℕ
next x = (1103515245 * x + 12345) % 2147483648

-- x(0) is the number itself, modulo 2^31, and each x(i + 1) is what follows x(i)
unfoldable pub drawn : ℕ → ℕ → ℕ
drawn number zero = number % 2147483648
drawn number (suc i) = next (drawn number i)

-- that of vCPU i, from 1 to 10,000
abbrev pub count_of : ℕ → ℕ → ℕ
count_of number i = 1 + drawn number (suc i) % 10000

abbrev pub counts : ℕ → ℕ → List ℕ
counts cpus number = map (count_of number) (range_with_len 0 cpus)

abbrev pub total : ℕ → ℕ → ℕ
total cpus number = sum (counts cpus number)
