use Rattle.std.proofs.Common.{arith, ◌≡◌, ◌<◌, ◌^◌, length}
use Rattle.std.proofs.lemmas.Grind.{common_steps}
use Rattle.vm_journal.specs.Spelling.{spelling}
use Rattle.vm_journal.proofs.Whole.{held_fit, whole_again}
use Rattle.vm_journal.proofs.writing.encode.Goals as goal

pub returns-clause-read_back : goal.returns-clause-read_back
returns-clause-read_back c =
    let spelled : c.loop-signed.out.items ≡ spelling c.args.journal.now = grind (arith, common_steps) in
    let short : length c.args.journal.now < 256 ^ 8 = omega (arith, c.len.ensures, c.len.type_inv) in
    rw spelled (whole_again c.args.journal.now (held_fit c.as_slice-signed-items.result.now c.args.journal.now c.as_slice-signed-items.ensures short (λ k d lt. c.loop-signed.invariant.fits k d (omega arith))))
