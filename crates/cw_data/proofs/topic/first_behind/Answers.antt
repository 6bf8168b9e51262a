use Rattle.std.proofs.Common.{rules, ◌∙◌, arith}
use Rattle.std.specs.Prelude.{nat_le}
use Rattle.std.proofs.Common.{tests}
use Rattle.std.proofs.lemmas.List.Sorted.{IsPartitionPoint-from_clause}
use Rattle.cw_data.specs.declared.topic.Row.{Row}
use Rattle.cw_data.proofs.Takes.{behind_is}
use Rattle.cw_data.proofs.topic.first_behind.Goals as goal

pub returns : goal.returns
returns c =
    let point = IsPartitionPoint-from_clause (λ (row : Row). nat_le row.end c.args.from) c.args.rows.now c.partition_point-at.result c.partition_point-at.ensures.partitioned c.requires (λ a r f k. search (rules, tests)) in
    c.row_at.ensures ∙ behind_is c.args.from c.args.rows.now c.partition_point-at.result (λ k d less. point.0 k d (omega arith) less) (λ k d from_at within. point.1 k d from_at within)
