use Rattle.cw_log.proofs.OneReading.{stands_for_one}
use Rattle.cw_log.proofs.topic_body_log.TopicLogBodyLog.rest.Goals as goal

pub returns-clause-left : goal.returns-clause-left
returns-clause-left g c alive list told found left =
    stands_for_one c.args.self.now.kind found list left.image left.stands
    (c.rest.ensures.left alive list told left.image (g.met.D.Disk.only_now c.args.self.now.disk left.image left.left))
