use Rattle.std.proofs.Common.{◌+◌, ◌≤◌, length, subst, sym}
use Rattle.guest_ram.specs.GuestRam.{Ram}
use Rattle.x86_fetch.proofs.Cached.{right_after}
use Rattle.x86_fetch.proofs.cached_ram.CachedRamBytes.write.Goals as goal

pub invariant_of-self : goal.invariant_of-self
invariant_of-self c =
    let inside : c.args.at + length c.args.piece.now ≤ length c.self.inside.ram.memory.bytes =
    subst (λ (r : Ram). c.args.at + length c.args.piece.now ≤ length r.memory.bytes) (sym c.self.view_is) c.requires.inside in
    right_after c.self.inside.ram.memory c.write.new.self.memory c.args.at c.args.piece.now c.self.inside.table c.forget.new.self
    inside c.write.ensures.memory c.self.invariant c.forget.ensures
