use Rattle.cw_data.proofs.Bodies.{short}
use Rattle.calls.proofs.tables.bodies.data_body.Goals as goal

pub write_data-requires : goal.write_data-requires
write_data-requires c = short c.args.entry.now c.requires
