use Rattle.std.proofs.Common.{◌∙◌, ap, arith, ◌/◌, ◌%◌, ◌<◌, length, take, drop, None}
use Rattle.std.proofs.lemmas.Bool.Decides.{nat_tests}
use Rattle.guest_ram.specs.Pages.{page_of}
use Rattle.guest_ram.proofs.Lists.{get_or_any}
use Rattle.guest_ram.proofs.Pages.{read_one, Place}
use Rattle.guest_ram.proofs.places.read.Goals as goal

pub returns-then-into-offset : goal.returns-then-into-offset
returns-then-into-offset c =
    let n = length c.args.into.now in
    let at = c.args.at in
    let some : 0 < n = grind (arith, nat_tests) in
    let lt : at / 4096 < length c.args.places.now = omega arith in
    c.read_in.ensures
    ∙ ap (λ (p : Place). take n (drop (at % 4096) (page_of p))) (c.index-places-at.is ∙ get_or_any c.args.places.now (at / 4096) _ None lt)
    ∙ read_one c.args.places.now at n c.requires.pages lt (omega arith)
