use Rattle.cw_serve.proofs.Unbegun.{none_talked}
use Rattle.cw_serve.proofs.named.unserved.Goals as goal

pub returns-clause-talked : goal.returns-clause-talked
returns-clause-talked g c = none_talked g.N.Listener g.N.Link.Link _ c.args.net c.new.result.items c.new.ensures.items
