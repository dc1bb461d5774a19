use Rattle.std.proofs.Common.{arith}
use Rattle.guest_ram.proofs.Views.{size_of}
use Rattle.guest_ram.proofs.guest_ram.GuestRamBytes.write.Goals as goal

pub write-requires-clause-inside : goal.write-requires-clause-inside
write-requires-clause-inside c =
    omega (arith, size_of c.self.inside.places.items c.self.inside.code c.self.inside.room.items c.args.self.now c.self.view_is c.self.invariant)
