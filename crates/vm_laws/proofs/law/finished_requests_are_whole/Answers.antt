use Rattle.vm_laws.proofs.Bytes.{finished_whole}
use Rattle.vm_laws.proofs.law.finished_requests_are_whole.Goals as goal

pub returns : goal.returns
returns c = λ s p d id h m. finished_whole s p d id h m
