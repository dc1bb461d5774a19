use Rattle.std.proofs.Common.{◌≡◌, map, take}
use Rattle.vblk_req.specs.Request.{segment_of}
use Rattle.vblk_req.proofs.buffers.segments.Given as goal

abbrev pub invariant-loop-descriptor : goal.invariant-loop-descriptor
invariant-loop-descriptor l = l.segments.items ≡ map segment_of (take l.descriptor-index l.buffers)
