use Rattle.std.proofs.Common.{arith}
use Rattle.std.proofs.lemmas.Result.{err_from_is_err_and}
use Rattle.text_reader.proofs.Lines.{goes_on, is_done, fits_left}
use Rattle.text_reader.specs.Line.{lines, read_lines}
use Rattle.text_reader.specs.Word.{texts}
use Rattle.vm_asm.specs.Layout.{laid_of, nothing_laid, line_step}
use Rattle.vm_asm.proofs.Steps.{line_stops}
use Rattle.vm_asm.proofs.assembling.laid.Goals as goal

pub returns-in_err-read_line-clause-told : goal.returns-in_err-read_line-clause-told
returns-in_err-read_line-clause-told c =
    let p = err_from_is_err_and c.from_residual-in_err-read_line.result c.from_residual-in_err-read_line.ensures.1 in
    λ spell is.
    let names = texts c.args.names.now in
    rw (p.1, p.2) (line_stops spell names c.loop-rest.number (laid_of c.loop-rest.layout) c.loop-rest.rest c.in-Some.text c.first_line.result.0.now c.first_line.result.1
    (read_lines (line_step spell names) 1 (nothing_laid names) (lines c.args.text.now))
    c.in-Some.is c.first_line.ensures.cut (c.loop-rest.invariant.told spell is) c.in_err-read_line.field-0.0 (c.in_err-read_line.ensures.told spell is))

pub read_line-requires-clause-brief : goal.read_line-requires-clause-brief
read_line-requires-clause-brief c = let size = fits_left c.loop-rest.rest c.in-Some.text c.in-Some.is in omega arith

pub overflow_add-number : goal.overflow_add-number
overflow_add-number c = let size = fits_left c.loop-rest.rest c.in-Some.text c.in-Some.is in omega arith

pub loop-rest-preserved : goal.loop-rest-preserved
loop-rest-preserved c =
    let size = fits_left c.loop-rest.rest c.in-Some.text c.in-Some.is in
    let names = texts c.args.names.now in
    record {
      told = λ spell is. goes_on (line_step spell names) c.loop-rest.number (laid_of c.loop-rest.layout) c.loop-rest.rest c.in-Some.text c.first_line.result.0.now c.first_line.result.1
          (read_lines (line_step spell names) 1 (nothing_laid names) (lines c.args.text.now))
          c.in-Some.is c.first_line.ensures.cut (c.loop-rest.invariant.told spell is) (laid_of c.read_line.new.self) (c.in_ok-read_line.ensures.told spell is);
      few = omega arith;
      sound = c.in_ok-read_line.ensures.sound;
    }

pub returns-clause-told : goal.returns-clause-told
returns-clause-told c = λ spell is.
    let names = texts c.args.names.now in
    is_done (line_step spell names) c.loop-rest.number (laid_of c.loop-rest.layout) c.loop-rest.rest
    (read_lines (line_step spell names) 1 (nothing_laid names) (lines c.args.text.now)) c.in_default.not-Some (c.loop-rest.invariant.told spell is)
