use Rattle.std.proofs.Common.{◌∙◌, sym, ap}
use Rattle.cfg_vm.specs.Table.{Variables, slots_with}
use Rattle.cfg_vm.proofs.Steps.{drop_at}
use Rattle.cfg_vm.proofs.disks.disk_slots.Goals as goal

pub loop-k-preserved : goal.loop-k-preserved
loop-k-preserved c = rw c.in_ok-put_disk.ensures (ap (λ (vs : Variables). slots_with c.loop-k.slots.items vs) (sym (drop_at c.args.config.now c.loop-k.k (c.nth.result.0.now, c.nth.result.1.now) c.nth.ensures)) ∙ c.loop-k.invariant)
