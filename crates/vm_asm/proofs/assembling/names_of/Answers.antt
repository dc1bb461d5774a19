use Rattle.std.proofs.Common.{arith}
use Rattle.text_reader.proofs.Lines.{fits_left}
use Rattle.text_reader.specs.Word.{texts}
use Rattle.vm_asm.specs.Layout.{names_of}
use Rattle.vm_asm.proofs.Steps.{names_on, names_done}
use Rattle.vm_asm.proofs.assembling.names_of.Goals as goal

pub add_name-requires : goal.add_name-requires
add_name-requires c = let size = fits_left c.loop-rest.rest c.in-Some.text c.in-Some.is in omega arith

pub loop-rest-preserved : goal.loop-rest-preserved
loop-rest-preserved c =
    let size = fits_left c.loop-rest.rest c.in-Some.text c.in-Some.is in
    record {
      told = names_on (texts c.loop-rest.names.items) c.loop-rest.rest c.in-Some.text c.first_line.result.0.now c.first_line.result.1 (names_of c.args.text.now)
          c.in-Some.is c.first_line.ensures.cut c.loop-rest.invariant.told (texts c.add_name.new.names.items) c.in_ok-add_name.ensures.names;
      few = omega (arith, c.in_ok-add_name.ensures.few);
    }

pub returns-clause-names : goal.returns-clause-names
returns-clause-names c = names_done (texts c.loop-rest.names.items) c.loop-rest.rest (names_of c.args.text.now) c.in_default.not-Some c.loop-rest.invariant.told
