use Rattle.cw_open.specs.Opened.{logs_in}
use Rattle.cw_world.proofs.Ended.{disks-are}
use Rattle.cw_audit.proofs.auditing.give_back.Goals as goal

pub returns : goal.returns
returns g c = disks-are (logs_in c.args.judged) _ _ _ _ _
    c.give_back-config_a.ensures.disks c.give_back-offsets_a.ensures.disks c.give_back-status_a.ensures.disks c.give_back.ensures.disk c.give_back-2.ensures.disk
