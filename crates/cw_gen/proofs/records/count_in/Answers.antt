use Rattle.std.proofs.Common.{Bool, List, ap, arith}
use Rattle.std.specs.List.{count_by}
use Rattle.cw_txn.specs.Legal.{is_committed}
use Rattle.cw_data.specs.declared.entry.DataEntry.{DataEntry}
use Rattle.cw_data.specs.Log.{Record, records_in}
use Rattle.cw_gen.proofs.Counting.{count-within}
use Rattle.cw_gen.proofs.records.count_in.Goals as goal

pub overflow_add-count : goal.overflow_add-count
overflow_add-count c =
    let of_entry : DataEntry → List Record = λ e. records_in c.args.topic.now e in
    let committed : Record → Bool = λ r. is_committed r.tag c.args.txn.now.entries in
    omega (
      arith,
      c.requires.few,
      c.loop-entry.invariant,
      c.count_of-count.ensures,
      ap (λ (e : DataEntry). count_by committed (of_entry e)) c.entry-item.is,
      count-within committed of_entry c.args.entries.now c.loop-entry.entry-index c.entry-item.result c.loop-entry-test.true,
    )
