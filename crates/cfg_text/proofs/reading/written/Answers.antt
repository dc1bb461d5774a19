use Rattle.std.proofs.Common.{arith}
use Rattle.std.proofs.lemmas.Result.{err_from_is_err_and}
use Rattle.text_reader.proofs.Lines.{goes_on, is_done, fits_left}
use Rattle.cfg_text.specs.Lines.{read_written, line_step, variables_of}
use Rattle.cfg_text.proofs.Text.{line_stops}
use Rattle.cfg_text.proofs.reading.written.Goals as goal

pub returns-in_err-add_line-clause-value : goal.returns-in_err-add_line-clause-value
returns-in_err-add_line-clause-value c =
    let p = err_from_is_err_and c.from_residual.result c.from_residual.ensures.1 in
    rw (p.1, p.2) (line_stops c.loop-rest.number (variables_of c.loop-rest.variables.entries) c.loop-rest.rest c.in-Some.text c.first_line.result.0.now c.first_line.result.1 (read_written c.args.bytes.now)
    c.in-Some.is c.first_line.ensures.cut c.loop-rest.invariant.told c.in_err-add_line.field-0.0 c.in_err-add_line.ensures.value)

pub add_line-requires : goal.add_line-requires
add_line-requires c = let size = fits_left c.loop-rest.rest c.in-Some.text c.in-Some.is in omega arith

pub overflow_add-number : goal.overflow_add-number
overflow_add-number c = let size = fits_left c.loop-rest.rest c.in-Some.text c.in-Some.is in omega arith

pub loop-rest-preserved : goal.loop-rest-preserved
loop-rest-preserved c =
    let size = fits_left c.loop-rest.rest c.in-Some.text c.in-Some.is in
    record {
      told = goes_on line_step c.loop-rest.number (variables_of c.loop-rest.variables.entries) c.loop-rest.rest c.in-Some.text c.first_line.result.0.now c.first_line.result.1 (read_written c.args.bytes.now)
          c.in-Some.is c.first_line.ensures.cut c.loop-rest.invariant.told (variables_of c.add_line.new.variables.entries) c.in_ok-add_line.ensures.value;
      small = omega arith;
      few = omega (arith, c.in_ok-add_line.ensures.grows);
    }

pub returns-clause-value : goal.returns-clause-value
returns-clause-value c = is_done line_step c.loop-rest.number (variables_of c.loop-rest.variables.entries) c.loop-rest.rest (read_written c.args.bytes.now) c.in_default.not-Some c.loop-rest.invariant.told
