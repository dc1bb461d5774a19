use Rattle.std.proofs.Common.{◌∙◌, sym}
use Rattle.asm_words.proofs.Blanks.{end_step, end_done}
use Rattle.asm_words.proofs.blank.without_end.Goals as goal

pub loop-front-preserved : goal.loop-front-preserved
loop-front-preserved c = record {
  told = sym (end_step c.loop-front.rest.now c.in-Some.front.now c.in-Some.ensures.value).0 ∙ c.loop-front.invariant.told;
  text = c.in-Some.ensures.text;
}

pub loop-front-smaller : goal.loop-front-smaller
loop-front-smaller c = (end_step c.loop-front.rest.now c.in-Some.front.now c.in-Some.ensures.value).1

pub returns : goal.returns
returns c = sym (end_done c.loop-front.rest.now c.in_default.ensures.value) ∙ c.loop-front.invariant.told
