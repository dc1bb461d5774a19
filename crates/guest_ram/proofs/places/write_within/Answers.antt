use Rattle.std.proofs.Common.{◌∙◌, sym, ap, subst, ◌≡◌, ◌/◌, ◌%◌, List}
use Rattle.guest_ram.specs.Pages.{IsWritten, written_to, standing_at}
use Rattle.guest_ram.proofs.Pages.{Place}
use Rattle.guest_ram.proofs.Written.{written_one}
use Rattle.guest_ram.proofs.places.write_within.Goals as goal

pub returns-clause-written : goal.returns-clause-written
returns-clause-written c =
    let places = c.args.places.now.items in
    let at = c.args.at in
    let piece = c.args.piece.now in
    let is : c.put.new.places.items ≡ written_to (standing_at places (at / 4096)) (at / 4096) (at % 4096) piece =
    c.put.ensures ∙ ap (λ (ps : List Place). written_to ps (at / 4096) (at % 4096) piece) c.make_stand.ensures.places in
    subst (λ (ps : List Place). IsWritten places ps at piece) (sym is)
    (written_one places at piece c.requires.pages (λ k. (c.type_inv.piece k).fits) c.requires.inside c.requires.some c.requires.page)
