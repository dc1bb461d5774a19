use Rattle.std.proofs.Common.{◌≡◌, ◌≤◌, ◌*◌, ◌^◌, take}
use Rattle.std.specs.List.{sum_by}
use Rattle.vblk_req.specs.Request.{len_of}
use Rattle.vblk_req.proofs.buffers.total.Given as goal

abbrev pub invariant-loop-descriptor : goal.invariant-loop-descriptor
invariant-loop-descriptor l = record {
  so_far : l.sum ≡ sum_by len_of (take l.descriptor-index l.buffers);
  small : l.sum ≤ 2 ^ 32 * l.descriptor-index;
}
