use Rattle.std.proofs.Common.{◌∙◌, ap}
use Rattle.cw_log.specs.Log.{bodies_at, places_of}
use Rattle.cw_log.proofs.Gates.{told_before}
use Rattle.cw_log.proofs.Appended.{told_length}
use Rattle.cw_log.proofs.topic.TopicLog.length.Goals as goal

pub returns-clause-list : goal.returns-clause-list
returns-clause-list g c bodies told =
    let file = told_before (bodies_at (places_of c.self.inside.frames)) (g.D.Disk.holds c.self.inside.disk) bodies (ap (λ v. v.bodies) c.self.view_is ∙ told) in
    told_length c.self.inside.frames.gate (places_of c.self.inside.frames) file.0 bodies (c.self.invariant.kept file.0 file.1).begins file.2
