use Rattle.std.proofs.Common.{sym, rules}
use Rattle.x86_exec.proofs.Chains.{stored_is}
use Rattle.x86_exec.proofs.access.accessed.Goals as goal

pub returns-then-stores-clause-outcome : goal.returns-then-stores-clause-outcome
returns-then-stores-clause-outcome g c =
    let mem = g.B.Bytes.memory c.args.bytes.now in
    let a = c.args.access.now in
    stored_is c.args.ctx.now c.args.insn.now c.args.len mem a c.in_ok-place.place c.in_ok-read.read c.compute-number.new.ctx c.compute-number.result _
    (search rules) (search rules) (search rules) (sym c.if-stores.ensures) c.compute-number.ensures.ctx c.compute-number.ensures.stored (c.store_at.ensures.shared c.compute-number.new.ctx)
