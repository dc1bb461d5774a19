use Rattle.vm_laws.proofs.Lending.{image_is_owned}
use Rattle.vm_laws.proofs.law.images_are_owned.Goals as goal

pub returns : goal.returns
returns c = λ s x d p id h l m e ne. image_is_owned s x d p id h l m e ne
