use Rattle.std.proofs.Common.{subst}
use Rattle.guest_ram.specs.GuestRam.{Ram}
use Rattle.guest_ram.proofs.Views.{Sound, kept_is_sound}
use Rattle.guest_ram.proofs.guest_ram.GuestRam.is_sound.Goals as goal

pub returns : goal.returns
returns c =
    let all : Sound c.args.self.now =
    subst (λ (r : Ram). Sound r) c.self.view_is (kept_is_sound c.self.inside.places.items c.self.inside.code c.self.inside.room.items c.self.invariant) in
    record { sound = all.sound; bytes = all.bytes; pages = all.pages; absent = all.absent }
