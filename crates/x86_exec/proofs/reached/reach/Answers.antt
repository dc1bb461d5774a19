-- What `area_at` says of the range in numbers is that it is inside memory, where it is in memory.
use Rattle.std.proofs.Common.{IfOk, Result, length, sym, subst}
use Rattle.vm_bus.specs.Area.{IsWithin}
use Rattle.vm_bus.proofs.Inside.{placed-within}
use Rattle.x86_exec.specs.declared.effect.Effect.{Effect}
use Rattle.x86_exec.specs.declared.reached.Place.{Place}
use Rattle.x86_exec.specs.Reached.{IsThere}
use Rattle.x86_exec.proofs.Stores.{reached_there}
use Rattle.x86_exec.proofs.reached.reach.Goals as goal

pub returns-clause-there : goal.returns-clause-there
returns-clause-there g c =
    let mem = g.B.Bytes.memory c.args.bytes.now in
    let within : IsWithin c.args.at c.args.len mem.code (length mem.bytes) c.area_at-area.result = rw (← c.from.ensures, ← c.code.ensures, ← c.size.ensures) c.area_at-area.ensures.within in
    subst (λ (r : Result Place Effect). IfOk r (λ p. IsThere mem c.args.at c.args.len p)) (sym c.judged.ensures)
    (reached_there mem c.args.plain c.args.at c.args.len c.area_at-area.result (placed-within c.args.at c.args.len mem.code (length mem.bytes) c.area_at-area.result c.requires within))
