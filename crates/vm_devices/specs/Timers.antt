-- The timers of the local APICs. Time is counted in executed instructions: `lag` is how many were executed since the timers
-- moved on last. Source: Intel SDM volume 3, section 10.5.4, figures 10-8 and 10-10.
use Rattle.std.specs.Prelude.{ℕ, zero, suc, ◌+◌, ◌-◌, ◌*◌, ◌/◌, ◌%◌, ◌^◌, min, Bool, not, ◌&&◌, ◌==◌, nat_lt, nat_le, List, [], ◌∷◌, map, filter, fold, slice_set, Option, Some, None, if◌then◌else◌}
use Rattle.std.specs.List.{list_any, range_with_len}
use Rattle.std.specs.Int.{bit_at}
use Rattle.vm_vectors.specs.Vectors.{has}
use Rattle.vm_lapic.specs.Apic.{Apic, is_enabled, posted}
use Rattle.vm_timer.specs.Timers.{left_of, fires}
use Rattle.vm_timer.specs.Timers as timers
use Rattle.vm_state.specs.Machine.{MachineState, cpu_at, cpu_count, cpu_numbers, with_cpu}

-- ---- the registers

-- bits 3, 1 and 0 of the divide configuration register: 2, 4, 8, 16, 32, 64, 128, 1
abbrev pub divide_code : Apic → ℕ
divide_code l = bit_at l.timer_divide 0 + 2 * bit_at l.timer_divide 1 + 4 * bit_at l.timer_divide 3

unfoldable pub divide_of : Apic → ℕ
divide_of l = if divide_code l == 7 then 1 else 2 ^ (divide_code l + 1)

-- how many instructions a period has
abbrev pub span_of : Apic → ℕ
span_of l = l.timer_initial * divide_of l

-- the LVT timer register: vector, mask, periodic mode
abbrev pub vector_of : Apic → ℕ
vector_of l = l.lvt_timer % 2 ^ 8

abbrev pub is_masked : Apic → Bool
is_masked l = bit_at l.lvt_timer 16 == 1

abbrev pub is_periodic : Apic → Bool
is_periodic l = bit_at l.lvt_timer 17 == 1

-- ---- the timer of vCPU i

abbrev pub left_at : MachineState → ℕ → ℕ
left_at m i = left_of m.timers i

abbrev pub is_armed : MachineState → ℕ → Bool
is_armed m i = not (left_at m i == 0)

-- a vector that it posts would be requested anew
abbrev pub is_heard : Apic → Bool
is_heard l = not (is_masked l) && nat_le 16 (vector_of l) && is_enabled l && not (has l.irr (vector_of l))

-- its firing would be seen
unfoldable pub is_live : MachineState → ℕ → Bool
is_live m i = is_armed m i && is_heard (cpu_at m i).lapic

abbrev pub any_armed : MachineState → Bool
any_armed m = list_any (is_armed m) (cpu_numbers m)

abbrev pub any_live : MachineState → Bool
any_live m = list_any (is_live m) (cpu_numbers m)

abbrev pub least : List ℕ → ℕ
least [] = 0
least (n ∷ ns) = fold min n ns

-- the smaller of two numbers, of which the first may be none yet
abbrev pub smaller : Option ℕ → ℕ → Option ℕ
smaller None n = Some n
smaller (Some k) n = Some (min k n)

-- the least that is left of a live one
unfoldable pub least_live : MachineState → ℕ
least_live m = least (map (left_at m) (filter (is_live m) (cpu_numbers m)))

-- ---- the guest's accesses

-- a write of the initial count arms it anew, or disarms it where the count is 0
unfoldable pub armed : MachineState → ℕ → ℕ → MachineState
armed m i lag =
    let l = (cpu_at m i).lapic in
    record m { timers = slice_set m.timers i (if l.timer_initial == 0 then 0 else span_of l + lag) }

-- the current count register: what is left, in units of the divide and rounded up
unfoldable pub current_count : MachineState → ℕ → ℕ → ℕ
current_count m i lag =
    let divide = divide_of (cpu_at m i).lapic in
    if nat_lt lag (left_at m i) then min ((left_at m i - lag + divide - 1) / divide) (2 ^ 32 - 1) else 0

-- ---- the timers move on by n

-- one that fires posts its vector, unless it is masked. Each vCPU has its own APIC, so the order of the firings, by what was
-- left and then by vCPU, shows nowhere in the machine
unfoldable pub fired : MachineState → ℕ → ℕ → MachineState
fired m n i =
    let cpu = cpu_at m i in
    if fires n (left_at m i) && not (is_masked cpu.lapic) then with_cpu m i (record cpu { lapic = posted cpu.lapic (vector_of cpu.lapic) }) else m

-- the timers of the vCPUs below k
abbrev pub fired_below : MachineState → ℕ → ℕ → MachineState
fired_below m n zero = m
fired_below m n (suc k) = fired (fired_below m n k) n k

-- the period of one that begins again, and 0 for one that fires once
abbrev pub period_of : Apic → ℕ
period_of l = if is_periodic l then span_of l else 0

unfoldable pub periods_of : MachineState → List ℕ
periods_of m = map (λ i. period_of (cpu_at m i).lapic) (range_with_len 0 16)

unfoldable pub ticked : MachineState → ℕ → MachineState
ticked m n = record (fired_below m n (cpu_count m)) { timers = timers.ticked m.timers n (periods_of m) }
