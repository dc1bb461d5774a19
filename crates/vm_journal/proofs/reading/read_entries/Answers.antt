use Rattle.std.proofs.lemmas.Result.{err_from_is_err_and}
use Rattle.byte_reader.specs.Reader.{times}
use Rattle.vm_journal.specs.Reading.{signed_at}
use Rattle.byte_reader.proofs.Repeated.{goes_on, ends, is_done}
use Rattle.vm_journal.proofs.reading.read_entries.Goals as goal

pub returns-in_err-signed : goal.returns-in_err-signed
returns-in_err-signed c =
    let p = err_from_is_err_and c.from_residual.result c.from_residual.ensures.1 in
    rw (p.1, p.2) (ends c.in_err-signed.field-0.0 signed_at c.loop.journal.items c.args.count c.loop.counter c.loop.rest.now (times c.args.count signed_at c.args.bytes.now) c.loop-test.true c.in_err-signed.ensures c.loop.invariant)

pub loop-preserved : goal.loop-preserved
loop-preserved c =
    rw c.in_ok-push.ensures.items (goes_on signed_at c.loop.journal.items c.args.count c.loop.counter c.loop.rest.now c.in_ok-signed.signed c.in_ok-signed.after.now (times c.args.count signed_at c.args.bytes.now) c.loop-test.true c.in_ok-signed.ensures c.loop.invariant)

pub returns : goal.returns
returns c = is_done signed_at c.loop.journal.items c.args.count c.loop.counter c.loop.rest.now (times c.args.count signed_at c.args.bytes.now) c.loop-test.false c.loop.invariant
