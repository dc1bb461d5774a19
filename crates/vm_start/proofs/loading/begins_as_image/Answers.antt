use Rattle.std.proofs.Common.{◌≡◌, Bool, IsSomeAnd, sym, subst, arith}
use Rattle.vm_start.specs.Start.{has_magic}
use Rattle.vm_start.proofs.Loads.{front_of}
use Rattle.vm_start.proofs.loading.begins_as_image.Goals as goal

pub returns-in-Ok-clause-value : goal.returns-in-Ok-clause-value
returns-in-Ok-clause-value g c = λ told.
    let file = (g.H.Host.seen c.args.host.now).file c.args.name.now in
    subst (λ (b : Bool). IsSomeAnd file (λ f. b ≡ has_magic f)) (sym c.has_magic.ensures)
    (front_of file c.read_at.new.into c.in-Ok.count (omega arith) (c.in-Ok.ensures.value told))
