-- What each entry does to the instructions and stays that are left.
use Rattle.std.specs.Prelude.{Option, Some, None, ◌==◌, ◌&&◌, ◌||◌, nat_lt, if◌then◌else◌, is_none, is_some, slice_index}
use Rattle.std.proofs.Common.{◌≡◌, ℕ, Bool, true, false, not, List, length, get_or, refl, sym, ap, ◌∙◌, arith}
use Rattle.std.proofs.lemmas.Bool.{and_parts, true≢false}
use Rattle.std.proofs.lemmas.Bool.Decides.{nat_tests}
use Rattle.std.proofs.lemmas.Grind.{common_steps}
use Rattle.vm_meet.specs.declared.meeting.Meeting.{Meeting}
use Rattle.vm_meet.specs.Meeting.{awaits}
use Rattle.vm_uart.specs.Uart as uart
use Rattle.vm_vblk.specs.Queue as vblk
use Rattle.blk_queue.specs.declared.progress.Finished.{Finished}
use Rattle.blk_queue.specs.declared.progress.Unfinished.{Unfinished}
use Rattle.blk_queue.specs.Progress.{told}
use Rattle.blk_queue.specs.Queue.{request_of}
use Rattle.vm_state.specs.declared.cpu.Cpu.{Cpu}
use Rattle.vm_state.specs.declared.cpu.Seat.{Seat}
use Rattle.vm_state.specs.Machine.{MachineState, cpu_at, cpu_count, drive_at, is_frozen, is_idle, is_sleeping, unstarted_cpu, with_drive, uart_pin}
use Rattle.vm_state.specs.State.{State, empty_seat, seat_at}
use Rattle.vm_owners.specs.Owners.{may_claim, after_claim, may_start, after_start, after_exit, may_sleep, after_sleep, may_wake, after_wake, may_yield, after_yield}
use Rattle.vm_owners.specs.Turn.{may_turn, turn_in, after_turn}
use Rattle.vm_devices.specs.Timers.{ticked}
use Rattle.vm_devices.specs.Windows.{with_window}
use Rattle.vm_devices.specs.Ports.{with_serial}
use Rattle.vm_disks.specs.Queueing.{pulled_in, after_pull, after_begin}
use Rattle.vm_disks.specs.Moving.{after_move, told_driver, finished_as, after_finish}
use Rattle.vm_disks.specs.Images.{after_hold, after_put}
use Rattle.vm_orders.specs.Duties.{after_feed, after_tick}
use Rattle.vm_table.specs.Turns.{is_exit_due}
use Rattle.vm_laws.proofs.Framing.{hears_fired_below, is_run_stage}
use Rattle.vm_laws.proofs.Heard.{Hears, hears_followed}
use Rattle.vm_laws.proofs.Needs.{taken_turn}
use Rattle.vm_rounds.proofs.Busy.{Alike, Calm, alike_calm, alone_calm, in_meeting, rest_at, rest_frozen, rest_idle, rest_most, rest_sleeping, set_calm}

-- ---- owners

claim_idle : (s : State) (p i : ℕ) → may_claim s p i ≡ true → is_idle (cpu_at s.machine i).stage ≡ true
unfolding may_claim
claim_idle s p i m = grind (arith, nat_tests, common_steps, and_parts)

pub claim_calm : (s : State) (p i : ℕ) → may_claim s p i ≡ true → Calm s (after_claim s p i)
unfolding after_claim
claim_calm s p i m = alone_calm s i _ (rest_idle s i (claim_idle s p i m))

start_frozen : (s : State) (p i : ℕ) → may_start s p i ≡ true → is_frozen (cpu_at s.machine i).stage p ≡ true
unfolding may_start
start_frozen s p i m = grind (arith, nat_tests, common_steps, and_parts)

pub start_calm : (s : State) (p i : ℕ) → may_start s p i ≡ true → Calm s (after_start s i)
unfolding after_start
start_calm s p i m = alone_calm s i _ (rest_frozen s i p (start_frozen s p i m))

sleep_frozen : (s : State) (p i : ℕ) → may_sleep s p i ≡ true → is_frozen (cpu_at s.machine i).stage p ≡ true
unfolding may_sleep
sleep_frozen s p i m = grind (arith, nat_tests, common_steps, and_parts)

pub sleep_calm : (s : State) (p i : ℕ) → may_sleep s p i ≡ true → Calm s (after_sleep s p i)
unfolding after_sleep
sleep_calm s p i m = alone_calm s i _ (rest_frozen s i p (sleep_frozen s p i m))

wake_sleeping : (s : State) (p i : ℕ) → may_wake s p i ≡ true → is_sleeping (cpu_at s.machine i).stage p ≡ true
unfolding may_wake
wake_sleeping s p i m = grind (arith, nat_tests, common_steps, and_parts)

pub wake_calm : (s : State) (p i : ℕ) → may_wake s p i ≡ true → Calm s (after_wake s p i)
unfolding after_wake
wake_calm s p i m = alone_calm s i _ (rest_sleeping s i p (wake_sleeping s p i m))

yield_frozen : (s : State) (p i : ℕ) → may_yield s p i ≡ true → is_frozen (cpu_at s.machine i).stage p ≡ true
unfolding may_yield
yield_frozen s p i m = grind (arith, nat_tests, common_steps, and_parts)

pub yield_calm : (s : State) (p i : ℕ) → may_yield s p i ≡ true → Calm s (after_yield s i)
unfolding after_yield
yield_calm s p i m = alone_calm s i _ (rest_frozen s i p (yield_frozen s p i m))

-- an Exit that is due
due_rests : (s : State) (i : ℕ) → s.machine.pause ≡ false → s.ended ≡ None → is_exit_due s i ≡ true → rest_at s i ≡ 1
unfolding is_exit_due rest_at
due_rests s i w e d = rw (test_fails (is_run_stage (cpu_at s.machine i).stage) (cpu_at s.machine i).halted (is_some s.machine.meet) (is_none s.machine.meet) (seat_at s i).left (either s.machine.meet) (due_parts s.machine.pause (is_some s.ended) w (ap (λ (o : Option _). is_some o) e) d)) refl
  where
    either : (o : Option Meeting) → is_none o ≡ not (is_some o)
    either None = refl
    either (Some m) = refl

    due_parts : (p q : Bool) → p ≡ false → q ≡ false → (is_some s.machine.meet || p || q || (cpu_at s.machine i).halted || ((seat_at s i).left == 0)) ≡ true → (is_some s.machine.meet || (cpu_at s.machine i).halted || ((seat_at s i).left == 0)) ≡ true
    due_parts p q a b h = grind (arith, common_steps)

    test_fails : (r h m n : Bool) (left : ℕ) → n ≡ not m → (m || h || (left == 0)) ≡ true → (r && not h && nat_lt 0 left && n) ≡ false
    test_fails r h m n left e d = grind (arith, nat_tests, common_steps)

pub exit_calm : (s : State) (p i : ℕ) → s.machine.pause ≡ false → s.ended ≡ None → is_exit_due s i ≡ true → Calm s (after_exit s p i)
unfolding after_exit
exit_calm s p i w e d = set_calm s i _ _ s.executed (due_rests s i w e d) (omega arith)

-- ---- a turn: while the rendezvous is open every vCPU rests

turn_open : (s : State) (p i : ℕ) → may_turn s p i ≡ true → awaits s.machine.meet i ≡ true
unfolding may_turn
turn_open s p i m = grind (arith, nat_tests, common_steps, and_parts)

open_meet : (o : Option Meeting) (i : ℕ) → awaits o i ≡ true → is_none o ≡ false
open_meet None i h = absurd (true≢false (sym h))
open_meet (Some m) i h = refl

turn_in_calm : (s : State) (i : ℕ) (o : Option Meeting) → s.machine.meet ≡ o → is_none o ≡ false → Calm s (turn_in s i o)
turn_in_calm s i None e h = absurd (true≢false h)
turn_in_calm s i (Some m) e h =
    let t = taken_turn s i m.kind in
    record {
      count = t.count;
      pause = t.control.0;
      rest = λ k. (let a = rest_most (turn_in s i (Some m)) k in let b = in_meeting s k (ap (λ (x : Option Meeting). is_none x) e ∙ h) in omega (arith, a, b));
      left = (let x = t.control.2 in let y = t.control.3 in omega (arith, x, y));
    }

pub turn_calm : (s : State) (p i : ℕ) → may_turn s p i ≡ true → Calm s (after_turn s i)
unfolding after_turn
turn_calm s p i m = turn_in_calm s i s.machine.meet refl (open_meet s.machine.meet i (turn_open s p i m))

-- ---- workers, Feed and Tick

alike_hears : (s : State) (u n : MachineState) (t : State) → t.machine ≡ n → t.seats ≡ s.seats → u.cpus ≡ s.machine.cpus → u.pause ≡ s.machine.pause → u.meet ≡ s.machine.meet → Hears u n → Alike s t
alike_hears s u n t e seats c p m h = record {
  count = ap (λ (x : MachineState). cpu_count x) e ∙ h.count ∙ ap (λ (xs : List Cpu). length xs) c;
  stage = λ k. ap (λ (x : MachineState). (cpu_at x k).stage) e ∙ (h.each k).stage ∙ ap (λ (xs : List Cpu). (get_or xs k (unstarted_cpu k)).stage) c;
  halted = λ k. ap (λ (x : MachineState). (cpu_at x k).halted) e ∙ (h.each k).halted ∙ ap (λ (xs : List Cpu). (get_or xs k (unstarted_cpu k)).halted) c;
  seat = λ k. ap (λ (xs : List Seat). (get_or xs k empty_seat).left) seats;
  meet = ap (λ (x : MachineState). x.meet) e ∙ h.meet ∙ m;
  pause = ap (λ (x : MachineState). x.pause) e ∙ h.pause ∙ p;
}

alike_parts : (s t : State) → t.machine.cpus ≡ s.machine.cpus → t.seats ≡ s.seats → t.machine.meet ≡ s.machine.meet → t.machine.pause ≡ s.machine.pause → Alike s t
alike_parts s t c x m p = record {
  count = ap (λ (xs : List Cpu). length xs) c;
  stage = λ k. ap (λ (xs : List Cpu). (get_or xs k (unstarted_cpu k)).stage) c;
  halted = λ k. ap (λ (xs : List Cpu). (get_or xs k (unstarted_cpu k)).halted) c;
  seat = λ k. ap (λ (xs : List Seat). (get_or xs k empty_seat).left) x;
  meet = m;
  pause = p;
}

pub pull_calm : (s : State) (d : ℕ) → Calm s (after_pull s d)
unfolding after_pull pulled_in with_window
pull_calm s d =
    let x = vblk.pull_of s.machine.ram (drive_at s.machine d).window in
    alike_calm s _ (alike_hears s (with_drive (record s.machine { ram = x.memory }) d _) _ _ refl refl refl refl refl (hears_followed _ _ _ _)) refl refl

pub begin_calm : (s : State) (p d : ℕ) → Calm s (after_begin s p d)
unfolding after_begin
begin_calm s p d = alike_calm s _ (alike_parts s _ refl refl refl refl) refl refl

pub move_calm : (s : State) (d id : ℕ) → Calm s (after_move s d id)
unfolding after_move
move_calm s d id = alike_calm s _ (alike_parts s _ refl refl refl refl) refl refl

pub hold_calm : (s : State) (p d id : ℕ) → Calm s (after_hold s p d id)
unfolding after_hold
hold_calm s p d id = alike_calm s _ (alike_parts s _ refl refl refl refl) refl refl

pub put_calm : (s : State) (d id : ℕ) (ok : Bool) → Calm s (after_put s d id ok)
unfolding after_put
put_calm s d id ok = alike_calm s _ (alike_parts s _ refl refl refl refl) refl refl

told_alike : (s : State) (n : MachineState) (d : ℕ) (x : Finished) (t : State) → t.machine ≡ told_driver n d x → t.seats ≡ s.seats → n.cpus ≡ s.machine.cpus → n.pause ≡ s.machine.pause → n.meet ≡ s.machine.meet → Alike s t
unfolding told_driver with_window
told_alike s n d x t e seats c p m = alike_hears s (with_drive (record n { ram = _ }) d _) _ t e seats c p m (hears_followed _ _ _ _)

told_if : (s : State) (n : MachineState) (d : ℕ) (x : Finished) (b : Bool) (t : State) → t.machine ≡ (if b then n else told_driver n d x) → t.seats ≡ s.seats → n.cpus ≡ s.machine.cpus → n.pause ≡ s.machine.pause → n.meet ≡ s.machine.meet → Alike s t
told_if s n d x true t e seats c p m = alike_parts s t (ap (λ (y : MachineState). y.cpus) e ∙ c) seats (ap (λ (y : MachineState). y.meet) e ∙ m) (ap (λ (y : MachineState). y.pause) e ∙ p)
told_if s n d x false t e seats c p m = told_alike s n d x t e seats c p m

finished_alike : (s : State) (n : MachineState) (d : ℕ) (o : Option Unfinished) (t : State) → t.machine ≡ finished_as n d o → t.seats ≡ s.seats → n.cpus ≡ s.machine.cpus → n.pause ≡ s.machine.pause → n.meet ≡ s.machine.meet → Alike s t
finished_alike s n d None t e seats c p m = alike_parts s t (ap (λ (y : MachineState). y.cpus) e ∙ c) seats (ap (λ (y : MachineState). y.meet) e ∙ m) (ap (λ (y : MachineState). y.pause) e ∙ p)
finished_alike s n d (Some x) t e seats c p m = told_if s n d (told x) (told x).silent t e seats c p m

pub finish_calm : (s : State) (d id : ℕ) → Calm s (after_finish s d id)
unfolding after_finish
finish_calm s d id = alike_calm s _ (finished_alike s _ d (request_of (drive_at s.machine d).queue id) _ refl refl refl refl refl) refl refl

pub feed_calm : (s : State) → Calm s (after_feed s)
unfolding after_feed with_serial
feed_calm s =
    let u = uart.after_receive s.machine.uart (slice_index s.input 0) in
    alike_calm s _ (alike_hears s (record s.machine { uart = u }) _ _ refl refl refl refl refl (hears_followed (record s.machine { uart = u }) uart_pin (uart.line s.machine.uart) (uart.line u))) refl refl

pub tick_alike : (s : State) (n : ℕ) → Alike s (after_tick s n)
unfolding after_tick ticked
tick_alike s n =
    let h = hears_fired_below s.machine n (cpu_count s.machine) in
    record {
      count = h.count;
      stage = λ k. (h.each k).stage;
      halted = λ k. (h.each k).halted;
      seat = λ k. refl;
      meet = h.meet;
      pause = h.pause;
    }

pub tick_calm : (s : State) (n : ℕ) → Calm s (after_tick s n)
unfolding after_tick
tick_calm s n = alike_calm s (after_tick s n) (tick_alike s n) refl refl
