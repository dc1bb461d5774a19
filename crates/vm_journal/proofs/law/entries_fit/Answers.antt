use Rattle.std.proofs.Common.{arith, ◌<◌, ◌^◌, length}
use Rattle.vm_journal.proofs.Whole.{fits_one_more, held_fit}
use Rattle.vm_journal.proofs.law.entries_fit.Goals as goal

pub loop-signed-preserved : goal.loop-signed-preserved
loop-signed-preserved c = fits_one_more c.as_slice-signed-items.result.now c.loop-signed.signed-index _ c.loop-signed-test.true c.signed_fits.ensures c.loop-signed.invariant

pub returns : goal.returns
returns c =
    let short : length c.args.journal.now < 256 ^ 8 = rw (← c.as_slice.ensures) (omega (arith, c.count_of-count.ensures)) in
    held_fit c.as_slice-signed-items.result.now c.args.journal.now c.as_slice-signed-items.ensures short (λ k d lt. c.loop-signed.invariant k d (omega arith))
