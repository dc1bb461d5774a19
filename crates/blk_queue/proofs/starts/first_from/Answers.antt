use Rattle.std.proofs.Common.{rules, ltb}
use Rattle.std.proofs.lemmas.List.Sorted.{IsPartitionedBy-ltb, IsPartitionPoint-from_clause}
use Rattle.blk_queue.specs.declared.starts.Mark.{Mark}
use Rattle.blk_queue.proofs.Runs.{start_of}
use Rattle.blk_queue.proofs.starts.first_from.Goals as goal

pub returns-clause-splits : goal.returns-clause-splits
returns-clause-splits c =
    IsPartitionPoint-from_clause (λ (m : Mark). ltb m.start c.args.sector) c.args.marks.now c.partition_point.result c.partition_point.ensures.partitioned
    (IsPartitionedBy-ltb start_of c.args.marks.now c.args.sector c.requires) (λ a r f' k. search rules)
