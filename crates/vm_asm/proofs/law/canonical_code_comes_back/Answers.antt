use Rattle.vm_asm.proofs.Again.{comes_back}
use Rattle.vm_asm.proofs.law.canonical_code_comes_back.Goals as goal

pub returns : goal.returns
returns c = comes_back
