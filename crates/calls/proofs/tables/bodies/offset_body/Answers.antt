use Rattle.calls.proofs.Writable.{has_records}
use Rattle.calls.proofs.tables.bodies.offset_body.Goals as goal

pub write_offsets-requires : goal.write_offsets-requires
write_offsets-requires c = has_records c.args.entry.now c.requires
