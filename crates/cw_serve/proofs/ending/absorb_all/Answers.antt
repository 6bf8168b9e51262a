use Rattle.std.proofs.Common.{rules, ap}
use Rattle.cw_line.specs.Sides.{Accepting}
use Rattle.cw_serve.proofs.Talking.{absorbed}
use Rattle.cw_serve.proofs.ending.absorb_all.Goals as goal

pub loop-handler-preserved : goal.loop-handler-preserved
loop-handler-preserved g c = (
  search rules,
  search rules,
  search rules,
  search rules,
  search rules,
  λ talks. absorbed _ g.L.Link c.loop-handler.acceptor.taken c.handler.inside.taker _ c.loop-handler.books.items _ c.handler.inside.kept
      (ap (λ (a : Accepting g.row.L.Denot). a.taken) c.absorb.ensures) c.push_reserved.ensures.items (c.loop-handler.invariant.5 talks) c.handler.invariant,
)
