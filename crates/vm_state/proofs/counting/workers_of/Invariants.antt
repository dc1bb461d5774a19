use Rattle.std.proofs.Common.{◌≡◌, ◌*◌, ◌≤◌, take}
use Rattle.vm_state.specs.Requests.{workers_of}
use Rattle.vm_state.proofs.counting.workers_of.Given as goal

abbrev pub invariant-loop-drive : goal.invariant-loop-drive
invariant-loop-drive l = record { sum : l.total ≡ workers_of (take l.drive-index l.drives); small : l.total ≤ 255 * l.drive-index }
