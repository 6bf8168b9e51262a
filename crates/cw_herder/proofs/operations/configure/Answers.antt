use Rattle.cw_herder.specs.Operations.{records_of, writes}
use Rattle.cw_herder.proofs.Replied.{wanting}
use Rattle.cw_herder.proofs.operations.configure.Goals as goal

pub returns-in-Err : goal.returns-in-Err
returns-in-Err g c = wanting g.D.Disk (writes c.args.w (records_of c.args.op.now)) c.args.world.now
