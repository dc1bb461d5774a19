-- A timer fires at the first Tick that reaches what is left of it. Source: Intel SDM volume 3, section 10.5.4.
use Rattle.std.specs.Prelude.{◌≡◌, ◌↔◌, ℕ, ◌+◌, ◌<◌, Bool, true, false, ◌&&◌, ◌==◌, List, [], ◌∷◌}
use Rattle.vm_law.specs.declared.journal.Entry.{Entry}
use Rattle.vm_law.specs.declared.journal.Entry.TheVariants.{Step, Tick}
use Rattle.vm_law.specs.declared.journal.Signed.{Signed}
use Rattle.vm_bus.specs.declared.area.Area.{Area}
use Rattle.vm_bus.specs.declared.area.Area.TheVariants as area
use Rattle.x86_exec.specs.declared.effect.Effect.{Effect}
use Rattle.x86_exec.specs.declared.effect.Effect.TheVariants as effect
use Rattle.x86_exec.specs.Shared as exec
use Rattle.x86_fetch.specs.declared.fetching.Next.{Next}
use Rattle.x86_fetch.specs.declared.fetching.Next.TheVariants.{Shared}
use Rattle.vm_lapic.specs.declared.register.Register.TheVariants.{InitialCount}
use Rattle.vm_lapic.specs.Window.{offset_of}
use Rattle.vm_timer.specs.Timers.{fires}
use Rattle.vm_state.specs.Machine.{cpu_at, cpu_count}
use Rattle.vm_state.specs.State.{State}
use Rattle.vm_devices.specs.Timers.{left_at, is_periodic, vector_of, is_heard}
use Rattle.vm_running.specs.Step.{next_at}
use Rattle.vm_table.specs.History.{after_all, is_lawful_all}
use Rattle.vm_table.specs.Table.{after, lawful}
use Rattle.vm_laws.specs.Counting.{count_of}
use Rattle.vm_laws.specs.Vectors.{is_requested}

-- the instruction writes the initial count of its vCPU's timer
abbrev pub is_initial_count : Area → Bool
is_initial_count (area.Lapic offset) = offset == offset_of InitialCount
is_initial_count a = false

abbrev pub writes_count : Effect → Bool
writes_count (effect.Store a value) = is_initial_count a
writes_count e = false

abbrev pub next_arms : State → ℕ → Next → Bool
next_arms s i (Shared insn len) = writes_count (exec.shared (cpu_at s.machine i).ctx insn len s.machine.ram).effect
next_arms s i next = false

-- the entry is a Step of vCPU i that arms its timer anew or disarms it
abbrev pub arms_entry : State → ℕ → Entry → Bool
arms_entry s i (Step j) = (j == i) && next_arms s i (next_at s i)
arms_entry s i e = false

unfoldable pub arms : ℕ → State → Signed → Bool
arms i s x = arms_entry s i x.entry

-- by how much an entry moves the timers on
abbrev pub ticks_of : Entry → ℕ
ticks_of (Tick n) = n
ticks_of e = 0

abbrev pub ticked_in : List Signed → ℕ
ticked_in [] = 0
ticked_in (x ∷ xs) = ticks_of x.entry + ticked_in xs

-- the timer of vCPU i fires in the entry: a Tick reaches what is left of it, and it is armed
abbrev pub fires_entry : State → ℕ → Entry → Bool
fires_entry s i (Tick n) = fires n (left_at s.machine i)
fires_entry s i e = false

unfoldable pub fires_in : ℕ → State → Signed → Bool
fires_in i s x = fires_entry s i x.entry

-- a timer that isn't armed anew: until it fires, what is left of it and the Ticks since then are what was left; and it has
-- fired exactly where the Ticks come to as much
pub record RunsDown (s : State) (i : ℕ) (xs : List Signed) : Type 0 where
  pub before : count_of (fires_in i) s xs ≡ 0 → left_at (after_all s xs).machine i + ticked_in xs ≡ left_at s.machine i
  pub at_once : (count_of (fires_in i) s xs ≡ 0) ↔ (ticked_in xs < left_at s.machine i)

abbrev pub TimersRunDown : Type 0
TimersRunDown =
    (s : State) (i : ℕ) (xs : List Signed) → i < 16 → is_lawful_all s xs ≡ true → count_of (arms i) s xs ≡ 0 → 0 < left_at s.machine i
    → RunsDown s i xs

-- one that fires once is disarmed as it fires, and stays so until it is armed anew
abbrev pub OneShotsFireOnce : Type 0
OneShotsFireOnce =
    (s : State) (x : Signed) (i : ℕ) (xs : List Signed) → i < 16 → is_lawful_all s (x ∷ xs) ≡ true → is_periodic (cpu_at s.machine i).lapic ≡ false
    → fires_in i s x ≡ true → count_of (arms i) (after s x) xs ≡ 0 → count_of (fires_in i) (after s x) xs ≡ 0

-- a firing requests the timer's vector, where a post of it is accepted
abbrev pub FiringsPost : Type 0
FiringsPost =
    (s : State) (x : Signed) (i : ℕ) → i < cpu_count s.machine → lawful s x.by x.entry ≡ true → fires_in i s x ≡ true
    → is_heard (cpu_at s.machine i).lapic ≡ true → is_requested (after s x).machine i (vector_of (cpu_at s.machine i).lapic) ≡ true
