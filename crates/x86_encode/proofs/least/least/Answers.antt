use Rattle.x86_encode.proofs.Minimum.{found, found_brief}
use Rattle.x86_encode.proofs.least.least.Goals as goal

pub returns-clause-canonical : goal.returns-clause-canonical
returns-clause-canonical c = found (λ t. t.items) c.args.labels c.args.insn.now c.least_of.result c.least_of.ensures

pub returns-clause-brief : goal.returns-clause-brief
returns-clause-brief c = found_brief (λ t. t.items) c.args.labels c.args.insn.now c.least_of.result c.least_of.ensures
