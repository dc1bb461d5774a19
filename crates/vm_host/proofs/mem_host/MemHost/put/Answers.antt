use Rattle.vm_host.proofs.Pasts.{reads_held}
use Rattle.vm_host.proofs.mem_host.MemHost.put.Goals as goal

pub remember-requires : goal.remember-requires
remember-requires c = reads_held _ _ _
