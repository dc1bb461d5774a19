use Rattle.std.proofs.Common.{◌∙◌, arith}
use Rattle.vm_image.proofs.Faults.{image_accepted, read_image, read_alone}
use Rattle.vm_image.proofs.reading.read.Goals as goal

pub returns-in_err-parts-clause-only : goal.returns-in_err-parts-clause-only
returns-in_err-parts-clause-only c = λ f image.
    let none = image_accepted c.args.ram c.args.bytes.now f image in
    let some = c.in_err-parts.ensures.err in
    cc

pub returns-clause-found : goal.returns-clause-found
returns-clause-found c =
    let parts = c.in_ok-parts.ensures in
    read_image c.args.ram c.args.bytes.now _ (λ i. omega (arith, c.type_inv.bytes i)) parts.ok parts.entry parts.code
    (c.in_ok-payload.ensures ∙ parts.payload)

pub returns-clause-only : goal.returns-clause-only
returns-clause-only c = λ f image.
    let parts = c.in_ok-parts.ensures in
    read_alone c.args.ram c.args.bytes.now _ f parts.entry parts.code (c.in_ok-payload.ensures ∙ parts.payload) image
