-- What holds of every run is kept by Slice.
use Rattle.std.proofs.Common.{◌≡◌, ℕ, ◌<◌, ◌≤◌, true, arith}
use Rattle.std.proofs.lemmas.Bool.{and_parts}
use Rattle.std.proofs.lemmas.Bool.Decides.{nat_tests}
use Rattle.std.proofs.lemmas.Grind.{common_steps}
use Rattle.x86_fetch.specs.Slices.{stepped_by}
use Rattle.vm_state.specs.Machine.{cpu_at, cpu_count, code_of}
use Rattle.vm_state.specs.State.{State, seat_at}
use Rattle.vm_state.specs.Sound.{IsSoundState}
use Rattle.vm_running.specs.Slice.{has_slice, may_slice, after_slice}
use Rattle.vm_running.proofs.Fitting.{slice_fits}
use Rattle.vm_running.proofs.Keeps.{keeps_executed}

slice_within : (s : State) (p i n : ℕ) → may_slice s p i n ≡ true → i < cpu_count s.machine
unfolding may_slice has_slice
slice_within s p i n m = grind (arith, nat_tests, common_steps, and_parts)

slice_some : (s : State) (p i n : ℕ) → may_slice s p i n ≡ true → 1 ≤ n
unfolding may_slice has_slice
slice_some s p i n m = grind (arith, nat_tests, common_steps, and_parts)

slice_left : (s : State) (p i n : ℕ) → may_slice s p i n ≡ true → n ≤ (seat_at s i).left
unfolding may_slice has_slice
slice_left s p i n m = grind (arith, nat_tests, common_steps, and_parts)

pub keeps_slice : (s : State) (p i n : ℕ) → IsSoundState s → may_slice s p i n ≡ true → IsSoundState (after_slice s i n)
unfolding after_slice
keeps_slice s p i n h m =
    let cpu = cpu_at s.machine i in
    let c = stepped_by (code_of s.machine) cpu.ctx n in
    let within = slice_within s p i n m in
    let long = h.seats.count in
    keeps_executed s i n c cpu.halted h (omega arith) (slice_some s p i n m) (slice_left s p i n m) (slice_fits (code_of s.machine) cpu.ctx n (h.machine.each_cpu i).flags)
