use Rattle.std.proofs.Common.{◌≡◌, ◌/◌, ◌%◌, drop}
use Rattle.vm_state.specs.Requests.{address_in}
use Rattle.vm_disks.proofs.sectors.address_in.Given as goal

abbrev pub invariant-loop-segment : goal.invariant-loop-segment
invariant-loop-segment l = (l.left % 512 ≡ 0) × (address_in l.segments l.k ≡ address_in (drop l.segment-index l.segments) (l.left / 512))
