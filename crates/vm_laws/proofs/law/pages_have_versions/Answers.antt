use Rattle.vm_laws.proofs.Pages.{pages_have_versions}
use Rattle.vm_laws.proofs.law.pages_have_versions.Goals as goal

pub returns : goal.returns
returns c = λ start shorter longer k sound legal e. pages_have_versions start shorter longer k sound legal e
