use Rattle.std.proofs.Common.{sym, subst}
use Rattle.std.proofs.lemmas.List.Elements.{All-from_recursion}
use Rattle.cw_bytes.specs.Spelling.{IsRecord}
use Rattle.cw_bytes.proofs.writing.write_records.Goals as goal

pub add_record-requires : goal.add_record-requires
add_record-requires c = subst IsRecord (sym c.applied-item.is) (All-from_recursion IsRecord c.args.records.now c.requires.each c.loop-applied.applied-index _ c.loop-applied-test.true)
