use Rattle.std.proofs.Common.{not, true, false}
use Rattle.x86_alu.proofs.Masks.{indexed_fits}
use Rattle.x86_alu.proofs.bit_tests.bits.Goals as goal

pub returns-in-Bts-clause-fits : goal.returns-in-Bts-clause-fits
returns-in-Bts-clause-fits c = indexed_fits c.args.width c.args.a c.args.b c.from.result c.size_of.result c.with_bit.result true
    c.from.ensures c.size_of.ensures c.with_bit.ensures c.requires.a_fits

pub returns-in-Btr-clause-fits : goal.returns-in-Btr-clause-fits
returns-in-Btr-clause-fits c = indexed_fits c.args.width c.args.a c.args.b c.from.result c.size_of.result c.with_bit-in-Btr.result false
    c.from.ensures c.size_of.ensures c.with_bit-in-Btr.ensures c.requires.a_fits

pub returns-in-Btc-clause-fits : goal.returns-in-Btc-clause-fits
returns-in-Btc-clause-fits c = indexed_fits c.args.width c.args.a c.args.b c.from.result c.size_of.result c.with_bit-in-Btc.result (not c.is_set.result)
    c.from.ensures c.size_of.ensures c.with_bit-in-Btc.ensures c.requires.a_fits
