-- Sixteen timers by what is left of each, 0 where it is disarmed.
-- Source: Intel SDM volume 3, section 10.5.4, and FreeBSD's sys/amd64/vmm/io/vlapic.c.
use Rattle.std.specs.Prelude.{◌≡◌, ℕ, ◌-◌, ◌%◌, ◌<◌, Bool, true, ◌&&◌, ◌==◌, ◌⊎◌, ◌↔◌, nat_lt, nat_le, List, map, slice_index, if◌then◌else◌}
use Rattle.std.specs.List.{range_with_len, AllPairs, Contains}

-- what is left of a vCPU's timer
abbrev pub left_of : List ℕ → ℕ → ℕ
left_of timers cpu = slice_index timers cpu

-- a timer with r left fires in a tick of n: it is armed, and the tick reaches it
abbrev pub fires : ℕ → ℕ → Bool
fires n r = nat_lt 0 r && nat_le r n

-- what is left of it after the tick. One that fires once, of span 0, is disarmed; a periodic one is as far into its next
-- period as the tick went past the end of the last one; the others lose n, and one that is disarmed stays so
abbrev pub left_after : ℕ → ℕ → ℕ → ℕ
left_after n span r = if fires n r then (if span == 0 then 0 else span - (n - r) % span) else r - n

-- all timers after the tick
unfoldable pub ticked : List ℕ → ℕ → List ℕ → List ℕ
ticked timers n spans = map (λ cpu. left_after n (slice_index spans cpu) (left_of timers cpu)) (range_with_len 0 16)

-- vCPU a fires before vCPU b: less was left of it, or as much, and it has the lower number
abbrev pub IsBefore : List ℕ → ℕ → ℕ → Type 0
IsBefore timers a b = (left_of timers a < left_of timers b) ⊎ ((left_of timers a ≡ left_of timers b) × (a < b))

-- the vCPUs whose timers fire in a tick of n, in their order
pub record AreFired (timers : List ℕ) (n : ℕ) (cpus : List ℕ) : Type 0 where
  pub exactly : (cpu : ℕ) → Contains cpus cpu ↔ (fires n (left_of timers cpu) ≡ true)
  pub in_order : AllPairs (IsBefore timers) cpus
