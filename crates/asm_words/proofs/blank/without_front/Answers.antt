use Rattle.std.proofs.Common.{◌∙◌, sym}
use Rattle.asm_words.proofs.Blanks.{indent_step, indent_done}
use Rattle.asm_words.proofs.blank.without_front.Goals as goal

pub loop-after-preserved : goal.loop-after-preserved
loop-after-preserved c = record {
  told = sym (indent_step c.loop-after.rest.now c.in-Some.after.now (sym c.in-Some.ensures.value)).0 ∙ c.loop-after.invariant.told;
  text = c.in-Some.ensures.text;
}

pub loop-after-smaller : goal.loop-after-smaller
loop-after-smaller c = (indent_step c.loop-after.rest.now c.in-Some.after.now (sym c.in-Some.ensures.value)).1

pub returns : goal.returns
returns c = sym (indent_done c.loop-after.rest.now (sym c.in_default.ensures.value)) ∙ c.loop-after.invariant.told
