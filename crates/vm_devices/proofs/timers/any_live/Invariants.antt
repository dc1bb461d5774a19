use Rattle.std.proofs.Common.{◌≡◌, false}
use Rattle.std.specs.List.{list_any, range_with_len}
use Rattle.vm_devices.specs.Timers as spec
use Rattle.vm_devices.proofs.timers.any_live.Given as goal

abbrev pub invariant-loop-i : goal.invariant-loop-i
invariant-loop-i l = list_any (spec.is_live l.machine.state) (range_with_len 0 l.i) ≡ false
