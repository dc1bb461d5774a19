use Rattle.std.proofs.Common.{◌∙◌, sym, arith}
use Rattle.text_reader.specs.Word.{texts}
use Rattle.asm_words.specs.Register.{place_from}
use Rattle.asm_words.proofs.Places.{place_on, place_found, place_none}
use Rattle.asm_words.proofs.label.place_in.Goals as goal

pub loop-place-preserved : goal.loop-place-preserved
loop-place-preserved c = place_on c.args.names.now c.args.name.now c.loop-place.place _ (place_from 0 (texts c.args.names.now) c.args.name.now) (omega arith) c.loop-place.invariant (sym c.eq.ensures ∙ c.if-eq.false)

pub returns-then-eq : goal.returns-then-eq
returns-then-eq c = sym (place_found c.args.names.now c.args.name.now c.loop-place.place _ (place_from 0 (texts c.args.names.now) c.args.name.now) (omega arith) c.loop-place.invariant (sym c.eq.ensures ∙ c.if-eq.true))

pub returns : goal.returns
returns c = sym (place_none c.args.names.now c.args.name.now _ (place_from 0 (texts c.args.names.now) c.args.name.now) (omega arith) c.loop-place.invariant)
