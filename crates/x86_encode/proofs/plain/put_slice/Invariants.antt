use Rattle.std.proofs.Common.{◌≡◌, ◌+◌, ◌++◌, take}
use Rattle.arrayvec.specs.ArrayVec.{array_vec_len}
use Rattle.x86_encode.proofs.plain.put_slice.Given as goal

-- what has been put so far
abbrev pub invariant-loop-b : goal.invariant-loop-b
invariant-loop-b g l = (l.out.items ≡ l.initial.out.items ++ take l.b-index l.bytes) × (array_vec_len l.out ≡ array_vec_len l.initial.out + l.b-index)
