use Rattle.std.proofs.Common.{Ok, Err, subst, sym}
use Rattle.guest_ram.specs.GuestRam.{Ram}
use Rattle.vm_law.specs.Memory.{code_of}
use Rattle.x86_fetch.specs.Fetching.{next_of}
use Rattle.x86_fetch.specs.Kept.{IsFound}
use Rattle.x86_fetch.specs.Sharing.{IsNextDoneAs}
use Rattle.x86_fetch.proofs.Sharing.{left_local, done_next}
use Rattle.x86_fetch.proofs.cached_ram.CachedRam.share_done.Goals as goal

pub returns-then-is_local_in-clause-done : goal.returns-then-is_local_in-clause-done
returns-then-is_local_in-clause-done c =
    let x = c.args.ctx.now in
    left_local x c.args.self.now.memory x c.args.self.now.memory (code_of c.args.self.now.memory) c.in-Some.found.now _
    (subst (λ (r : Ram). IsFound (code_of r.memory) x.rip c.in-Some.found.now) c.self.view_is (c.in-Some.ensures (code_of c.self.inside.ram.memory) c.self.invariant)) (sym c.if-is_local_in.ensures)

pub returns-in-Ok-clause-done : goal.returns-in-Ok-clause-done
returns-in-Ok-clause-done c =
    let x = c.args.ctx.now in
    subst (λ (r : Ram). IsNextDoneAs (Ok c.in-Ok.stored) x r.memory (next_of (code_of r.memory) x) c.perform_done-done.new.ctx c.perform_done-done.new.bytes.memory) c.self.view_is
    (done_next x c.self.inside.ram.memory c.perform_done-done.new.ctx c.perform_done-done.new.bytes.memory (code_of c.self.inside.ram.memory) c.in-Some.found.now (Ok c.in-Ok.stored)
    (c.in-Some.ensures (code_of c.self.inside.ram.memory) c.self.invariant) (sym c.if-is_local_in.ensures) c.in-Ok.ensures.done)

pub returns-in_default-clause-done : goal.returns-in_default-clause-done
returns-in_default-clause-done c =
    let x = c.args.ctx.now in
    subst (λ (r : Ram). IsNextDoneAs c.perform_done-done.result x r.memory (next_of (code_of r.memory) x) c.perform_done-done.new.ctx c.perform_done-done.new.bytes.memory) c.self.view_is
    (done_next x c.self.inside.ram.memory c.perform_done-done.new.ctx c.perform_done-done.new.bytes.memory (code_of c.self.inside.ram.memory) c.in-Some.found.now c.perform_done-done.result
    (c.in-Some.ensures (code_of c.self.inside.ram.memory) c.self.invariant) (sym c.if-is_local_in.ensures) c.perform_done-done.ensures.done)
