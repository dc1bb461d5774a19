use Rattle.std.proofs.Common.{arith}
use Rattle.text_reader.specs.Digits.{number}
use Rattle.cfg_vm.proofs.Digits.{capped_twice, capped_none}
use Rattle.cfg_vm.proofs.number.decimal.Goals as goal

pub returns-in-Some-clause-value : goal.returns-in-Some-clause-value
returns-in-Some-clause-value c = capped_twice (number 10 c.args.digits.now) c.in-Some.n c.capped.result c.in-Some.ensures c.capped.ensures

pub returns-in-None-clause-value : goal.returns-in-None-clause-value
returns-in-None-clause-value c = capped_none (number 10 c.args.digits.now) c.in-None.ensures
