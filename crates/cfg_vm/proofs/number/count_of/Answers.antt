use Rattle.std.proofs.Common.{◌∙◌, refl, arith}
use Rattle.text_reader.specs.Digits.{number}
use Rattle.cfg_vm.specs.Number.{counted}
use Rattle.cfg_vm.proofs.Digits.{capped_then, counted_capped, cap_none}
use Rattle.cfg_vm.proofs.number.count_of.Goals as goal

pub returns-in-Some : goal.returns-in-Some
returns-in-Some c = c.counted.ensures ∙ capped_then (counted c.args.high) (counted_capped c.args.high (omega arith)) (number 10 c.args.digits.now) _ c.in-Some.ensures.value

pub returns-in-None : goal.returns-in-None
returns-in-None c = rw (cap_none (number 10 c.args.digits.now) c.in-None.ensures.value) refl
