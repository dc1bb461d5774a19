use Rattle.std.proofs.Common.{◌∙◌, refl, arith}
use Rattle.text_reader.specs.Digits.{number}
use Rattle.cfg_vm.specs.Number.{at_most}
use Rattle.cfg_vm.proofs.Digits.{capped_and_then, at_most_capped, cap_none}
use Rattle.cfg_vm.proofs.number.number_to.Goals as goal

pub returns-in-Some : goal.returns-in-Some
returns-in-Some c = c.at_most.ensures ∙ capped_and_then (at_most c.args.most) (at_most_capped c.args.most (omega arith)) (number 10 c.args.digits.now) _ c.in-Some.ensures.value

pub returns-in-None : goal.returns-in-None
returns-in-None c = rw (cap_none (number 10 c.args.digits.now) c.in-None.ensures.value) refl
