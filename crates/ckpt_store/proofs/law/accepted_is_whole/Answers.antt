use Rattle.ckpt_store.proofs.Gates.{accepted-whole}
use Rattle.ckpt_store.proofs.law.accepted_is_whole.Goals as goal

pub returns : goal.returns
returns c = accepted-whole
