use Rattle.std.proofs.Common.{◌≡◌, ◌<◌, List, take, length, subst, arith}
use Rattle.std.proofs.lemmas.List.{take_all}
use Rattle.x86_grammar.specs.declared.table.Row.{Row}
use Rattle.x86_encode.proofs.Best.{BestText, turn}
use Rattle.x86_encode.proofs.least.least_of.Goals as goal

pub loop-row-preserved : goal.loop-row-preserved
loop-row-preserved c =
    let lt : c.loop-row.row-index < length c.args.rows.now = omega arith in
    turn (λ t. t.items) c.args.labels c.args.insn.now c.args.rows.now c.loop-row.row-index _ c.loop-row.best c.by_row.result c.better-best.result lt c.loop-row.invariant c.by_row.ensures c.better-best.ensures

pub returns : goal.returns
returns c =
    let all : take c.loop-row.row-index c.args.rows.now ≡ c.args.rows.now = take_all c.loop-row.row-index c.args.rows.now (omega arith) in
    subst (λ (rs : List Row). BestText (λ t. t.items) c.args.labels c.args.insn.now rs c.loop-row.best) all c.loop-row.invariant
