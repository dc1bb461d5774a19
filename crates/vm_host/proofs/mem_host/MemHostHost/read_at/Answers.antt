use Rattle.std.proofs.Common.{rules}
use Rattle.vm_host.proofs.Unwritten.{unread}
use Rattle.vm_host.proofs.mem_host.MemHostHost.read_at.Goals as goal

pub returns-then-call_fails-clause-leaves : goal.returns-then-call_fails-clause-leaves
returns-then-call_fails-clause-leaves c = unread c.args.self.now c.call_fails.new.self (search rules) (search rules)

pub returns-in_default-clause-leaves : goal.returns-in_default-clause-leaves
returns-in_default-clause-leaves c = unread c.args.self.now c.miss.new.self (search rules) (search rules)

pub returns-clause-leaves : goal.returns-clause-leaves
returns-clause-leaves c = unread c.args.self.now c.call_fails.new.self (search rules) (search rules)
