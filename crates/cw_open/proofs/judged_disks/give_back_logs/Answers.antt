use Rattle.cw_world.specs.Logs.{logs_of}
use Rattle.cw_world.proofs.Ended.{disks-are}
use Rattle.cw_open.proofs.judged_disks.give_back_logs.Goals as goal

pub returns : goal.returns
returns g c = let l = c.args in disks-are (logs_of l.config l.offsets l.status l.txn l.batches) _ _ _ _ _
    c.give_back-config_a.ensures.disks c.give_back-offsets_a.ensures.disks c.give_back-status_a.ensures.disks c.give_back.ensures.disk c.give_back-2.ensures.disk
