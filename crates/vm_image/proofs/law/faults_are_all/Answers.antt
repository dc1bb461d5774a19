use Rattle.vm_image.proofs.Faults.{image_found, image_accepted}
use Rattle.vm_image.proofs.law.faults_are_all.Goals as goal

pub returns : goal.returns
returns c = λ memory bytes fits. (λ none. (_, image_found memory bytes fits none), λ found. image_accepted memory bytes found.0 found.1)
