use Rattle.x86_fetch.proofs.Changes.{write_changes}
use Rattle.x86_fetch.proofs.law.writes_change_only.Goals as goal

pub returns : goal.returns
returns c = λ m at piece le. write_changes m at piece le
