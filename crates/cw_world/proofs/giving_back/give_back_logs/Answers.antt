use Rattle.cw_world.specs.Logs.{logs_of}
use Rattle.cw_world.proofs.Ended.{disks-are}
use Rattle.cw_world.proofs.giving_back.give_back_logs.Goals as goal

pub returns-clause-disks : goal.returns-clause-disks
returns-clause-disks g c = let l = c.args.logs in disks-are (logs_of l.config l.offsets l.status l.txn l.batches) _ _ _ _ _
    c.give_back-config.ensures.disks c.give_back-offsets.ensures.disks c.give_back-status.ensures.disks c.give_back-txn.ensures.disk c.give_back-batches.ensures.disk
