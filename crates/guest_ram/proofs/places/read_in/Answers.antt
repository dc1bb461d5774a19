use Rattle.std.proofs.Common.{◌∙◌, sym, ap, length, take, drop, rules}
use Rattle.guest_ram.specs.Pages.{page_of}
use Rattle.guest_ram.proofs.Pages.{zeros_in_page, Place}
use Rattle.guest_ram.proofs.places.read_in.Goals as goal

pub returns-in-None : goal.returns-in-None
returns-in-None c =
    let n = length c.args.into.now in
    c.fill.ensures.after (search rules)
    ∙ zeros_in_page n c.args.offset c.requires.inside
    ∙ ap (λ (p : Place). take n (drop c.args.offset (page_of p))) (sym c.in-None.is)
