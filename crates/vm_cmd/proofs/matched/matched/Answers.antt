use Rattle.std.proofs.Common.{rules}
use Rattle.vm_cmd.specs.Form.{Form}
use Rattle.vm_cmd.proofs.Laws.{refused_all}
use Rattle.vm_cmd.proofs.matched.matched.Goals as goal

pub returns-then-not-all_allowed : goal.returns-then-not-all_allowed
returns-then-not-all_allowed c = λ (f : Form) made. refused_all c.args.words.now f (search rules)
