use Rattle.std.proofs.Common.{arith}
use Rattle.guest_ram.proofs.Views.{size_of}
use Rattle.guest_ram.proofs.guest_ram.GuestRamBytes.read.Goals as goal

pub read-requires-clause-inside : goal.read-requires-clause-inside
read-requires-clause-inside c =
    omega (arith, c.as_slice.ensures.len, size_of c.self.inside.places.items c.self.inside.code c.self.inside.room.items c.args.self.now c.self.view_is c.self.invariant)
