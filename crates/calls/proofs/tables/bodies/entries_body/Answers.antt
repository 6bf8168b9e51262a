use Rattle.calls.proofs.Writable.{are_short}
use Rattle.calls.proofs.tables.bodies.entries_body.Goals as goal

pub write_entries-requires : goal.write_entries-requires
write_entries-requires c = are_short c.args.entries.now c.requires
