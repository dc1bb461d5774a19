use Rattle.std.proofs.Common.{◌≡◌, ◌+◌, ◌++◌, take}
use Rattle.std.specs.Vec.{vec_len, vec_capacity}
use Rattle.vm_orders.proofs.orders.take_in.Given as goal

abbrev pub invariant-loop-byte : goal.invariant-loop-byte
invariant-loop-byte l =
    (l.input.items ≡ l.fn.input.items ++ take l.byte-index l.bytes) × (vec_len l.input ≡ vec_len l.fn.input + l.byte-index) × (vec_capacity l.input ≡ vec_capacity l.fn.input)
