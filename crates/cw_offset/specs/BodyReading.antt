-- Reading a body of the offset log from left to right.
use Rattle.std.specs.Prelude.{◌==◌, Ok, Err, if◌then◌else◌}
use Rattle.cw_bytes.specs.declared.fault.FieldFault.TheVariants.{BadKind}
use Rattle.cw_bytes.specs.Unread.{Unread}
use Rattle.cw_bytes.specs.Reading.{◌>>=◌, Read, byte_at, tag_at, mark_at, records_at}
use Rattle.cw_offset.specs.declared.body.OffsetEntry.{OffsetEntry}
use Rattle.cw_offset.specs.declared.body.OffsetEntry.TheVariants.{Records, Mark}

unfoldable pub stored_at : Unread → Read OffsetEntry
stored_at from = do
  tag ← tag_at from
  records ← records_at tag.1
  Ok (Records tag.0 records.0, records.1)

unfoldable pub marked_at : Unread → Read OffsetEntry
marked_at from = do
  mark ← mark_at from
  Ok (Mark mark.0, mark.1)

unfoldable pub entry_at : Unread → Read OffsetEntry
entry_at from = do
  kind ← byte_at from
  if kind.0 == 1 then stored_at kind.1 else if kind.0 == 2 then marked_at kind.1 else Err (BadKind kind.0)
