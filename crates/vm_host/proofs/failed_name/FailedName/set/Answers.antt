use Rattle.std.proofs.Common.{rules}
use Rattle.vm_host.proofs.FailedNames.{kept_front}
use Rattle.vm_host.proofs.failed_name.FailedName.set.Goals as goal

pub returns : goal.returns
returns c = kept_front c.args.name.now c.copy_from_slice.new.self _ 4096 c.min-kept.result (search rules) (search rules)
