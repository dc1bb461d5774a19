use Rattle.std.proofs.Common.{◌≡◌, ◌++◌, drop}
use Rattle.cfg_vm.specs.Table.{notbuilt_among, notbuilt_of}
use Rattle.cfg_vm.proofs.planning.notbuilt_of.Given as goal

abbrev pub invariant-loop-k : goal.invariant-loop-k
invariant-loop-k l = l.names ++ notbuilt_among l.config (drop l.k l.config) ≡ notbuilt_of l.config
