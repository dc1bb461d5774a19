use Rattle.std.proofs.Common.{◌∙◌, sym, arith, None}
use Rattle.guest_ram.proofs.Lists.{get_or_any}
use Rattle.guest_ram.proofs.Pages.{lent}
use Rattle.guest_ram.proofs.places.page.Goals as goal

pub returns-in-Some-clause-lends : goal.returns-in-Some-clause-lends
returns-in-Some-clause-lends c = λ are.
    c.bytes.ensures.value ∙ lent c.args.places.now c.args.number _ are (omega arith)
    (get_or_any c.args.places.now c.args.number None _ (omega arith) ∙ sym c.index-places-number.is ∙ c.in-Some.is)
