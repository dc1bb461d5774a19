use Rattle.std.proofs.Common.{lt_of_lt_of_le}
use Rattle.x86_alu.proofs.Moves.{rol_sum_fits, span_le}
use Rattle.x86_alu.proofs.shifts.rol.Goals as goal

pub overflow_add-result : goal.overflow_add-result
overflow_add-result c = record {
  fits = lt_of_lt_of_le
      (rol_sum_fits c.args.width c.size_of-size.result c.args.a c.from.result c.args.n c.shl.result c.requires c.size_of-size.ensures c.from.ensures c.shl.ensures)
      (span_le c.args.width);
}

pub returns-clause-fits : goal.returns-clause-fits
returns-clause-fits c =
    rol_sum_fits c.args.width c.size_of-size.result c.args.a c.from.result c.args.n c.shl.result c.requires c.size_of-size.ensures c.from.ensures c.shl.ensures
