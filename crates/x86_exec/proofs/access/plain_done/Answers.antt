use Rattle.std.proofs.Common.{sym}
use Rattle.x86_exec.proofs.Done.{not_there}
use Rattle.x86_exec.proofs.access.plain_done.Goals as goal

pub returns-then-not-is_in_memory-clause-done : goal.returns-then-not-is_in_memory-clause-done
returns-then-not-is_in_memory-clause-done g c =
    not_there c.args.ctx.now c.args.insn.now c.args.len (g.B.Bytes.memory c.args.bytes.now) c.args.access.now (sym c.if-not-is_in_memory.ensures.is)
