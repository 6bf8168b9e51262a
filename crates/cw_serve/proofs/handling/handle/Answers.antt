use Rattle.std.proofs.Common.{[]}
use Rattle.cw_serve.proofs.Talking.{one_more}
use Rattle.cw_serve.proofs.handling.handle.Goals as goal

pub loop-preserved-in-Some-take : goal.loop-preserved-in-Some-take
loop-preserved-in-Some-take g c = one_more g.L.Link c.loop.taker _ c.in-Some-take.ticket [] _ _ c.in-Some-take.ensures.taken c.loop.invariant c.serve_link-kept.ensures
