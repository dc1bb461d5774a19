use Rattle.std.proofs.Common.{◌∙◌, [], List, ℕ, ap, subst}
use Rattle.text_reader.specs.Word.{texts}
use Rattle.vm_start.specs.Answers.{Is, UpToMemory}
use Rattle.vm_start.specs.Start.{different_from}
use Rattle.vm_start.proofs.names.check_names.Goals as goal

pub returns-clause-value : goal.returns-clause-value
returns-clause-value c =
    subst (λ (l : List (List ℕ)). UpToMemory (Is (different_from [] l)) c.different.result) (ap texts c.as_slice.ensures.value ∙ c.in_ok-names.ensures) c.different.ensures.value
