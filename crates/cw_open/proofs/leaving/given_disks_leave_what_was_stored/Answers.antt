use Rattle.cw_open.proofs.LeavingLemmas.{ended-lists}
use Rattle.cw_open.proofs.leaving.given_disks_leave_what_was_stored.Goals as goal

pub returns : goal.returns
returns g c = ended-lists g.D.Disk
