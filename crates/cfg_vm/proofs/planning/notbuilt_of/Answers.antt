use Rattle.std.proofs.Common.{◌∙◌, ◌++◌, sym, ap, drop, ◌+◌, append_assoc}
use Rattle.cfg_vm.specs.Table.{Variables, notbuilt_among}
use Rattle.cfg_vm.proofs.Steps.{drop_at, among_next}
use Rattle.cfg_vm.proofs.planning.notbuilt_of.Goals as goal

pub loop-k-preserved : goal.loop-k-preserved
loop-k-preserved c =
    let vs = c.args.config.now in
    let rest = drop (c.loop-k.k + 1) c.args.config.now in
    rw (c.in_ok-add_name.ensures, append_assoc, ← (among_next vs (c.nth.result.0.now, c.nth.result.1.now) rest)) (ap (λ (some : Variables). c.loop-k.names ++ notbuilt_among vs some) (sym (drop_at vs c.loop-k.k (c.nth.result.0.now, c.nth.result.1.now) c.nth.ensures)) ∙ c.loop-k.invariant)
