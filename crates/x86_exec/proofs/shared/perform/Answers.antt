-- What the instruction leaves, by the law of its definition.
use Rattle.std.proofs.Common.{ap, Result}
use Rattle.x86_exec.specs.declared.effect.Effect.{Effect}
use Rattle.x86_exec.specs.Shared.{Shared, settled, shared}
use Rattle.x86_exec.proofs.Leaves.{left, shared_leaves}
use Rattle.x86_exec.proofs.shared.perform.Goals as goal

pub returns-in-Ok-clause-leaves : goal.returns-in-Ok-clause-leaves
returns-in-Ok-clause-leaves g c =
    let before = c.args.ctx.now in
    let insn = c.args.insn.now in
    let mem = g.B.Bytes.memory c.args.bytes.now in
    let same = c.in-Ok.ensures.outcome in
    left before c.attempt.new.ctx mem (g.B.Bytes.memory c.attempt.new.bytes) c.in-Ok.performed.effect (shared before insn c.args.len mem) (shared_leaves before insn c.args.len mem)
    (ap (λ (r : Result Shared Effect). (settled before mem r).effect) same) (ap (λ (r : Result Shared Effect). (settled before mem r).ctx) same)
    (ap (λ (r : Result Shared Effect). (settled before mem r).memory) same)
