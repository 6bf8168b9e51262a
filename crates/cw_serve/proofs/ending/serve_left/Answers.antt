use Rattle.std.proofs.Common.{◌∙◌, ap}
use Rattle.cw_line.specs.Sides.{Accepting}
use Rattle.cw_serve.proofs.Talking.{one_more}
use Rattle.cw_serve.proofs.ending.serve_left.Goals as goal

pub loop-preserved : goal.loop-preserved
loop-preserved g c =
    let taken = c.in-Some-take_left.ensures.taken in
    let before = c.loop.invariant in (
      ap (λ (a : Accepting g.row.L.Denot). a.parts) taken ∙ before.0,
      ap (λ (a : Accepting g.row.L.Denot). a.pushed) taken ∙ before.1,
      λ others talks. one_more g.L.Link c.loop.acceptor.taken _ c.in-Some-take_left.ticket others _ _ (ap (λ (a : Accepting g.row.L.Denot). a.taken) taken)
          (before.2 others talks) c.serve_link-own.ensures,
    )
