use Rattle.std.proofs.Common.{◌==◌}
use Rattle.blk_queue.specs.declared.progress.Unfinished.{Unfinished}
use Rattle.vm_disks.proofs.Lookup.{first_there}
use Rattle.vm_disks.proofs.requests.place.Goals as goal

pub unwrap-requires : goal.unwrap-requires
unwrap-requires c = first_there (λ (x : Unfinished). x.id == c.args.id) c.args.queue.now.requests c.place_of.result c.place_of.ensures c.requires
