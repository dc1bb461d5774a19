use Rattle.x86_alu.proofs.Masks.{replaced}
use Rattle.x86_alu.proofs.flags.only_these_change.Goals as goal

pub returns : goal.returns
returns c = replaced c.args.rflags c.args.flags
