use Rattle.std.proofs.Common.{◌∙◌, ap, arith}
use Rattle.cw_log.specs.Log.{bodies_at, places_of}
use Rattle.cw_log.proofs.Gates.{told_before}
use Rattle.cw_log.proofs.Starts.{length-places_before}
use Rattle.cw_log.proofs.Appended.{told_count}
use Rattle.cw_log.proofs.topic.TopicLog.count.Goals as goal

pub returns-clause-list : goal.returns-clause-list
returns-clause-list g c bodies told =
    let file = told_before (bodies_at (places_of c.self.inside.frames)) (g.D.Disk.holds c.self.inside.disk) bodies (ap (λ v. v.bodies) c.self.view_is ∙ told) in
    omega (arith, length-places_before c.self.inside.frames.gate c.self.inside.frames.starts.items, told_count c.self.inside.frames.gate (places_of c.self.inside.frames) file.0 bodies file.2)
