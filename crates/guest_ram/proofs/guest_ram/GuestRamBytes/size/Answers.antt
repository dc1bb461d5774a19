use Rattle.std.proofs.Common.{arith}
use Rattle.guest_ram.proofs.Views.{size_of}
use Rattle.guest_ram.proofs.guest_ram.GuestRamBytes.size.Goals as goal

pub returns : goal.returns
returns c = omega (arith, size_of c.self.inside.places.items c.self.inside.code c.self.inside.room.items c.args.self.now c.self.view_is c.self.invariant)
