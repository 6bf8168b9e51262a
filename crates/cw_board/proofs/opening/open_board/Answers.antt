use Rattle.std.proofs.Common.{ap, sym, subst, ◌∙◌}
use Rattle.cw_board.specs.Shelving.{Shelved, IsOfBoard}
use Rattle.cw_board.specs.Pressing.{Pressed}
use Rattle.cw_board.proofs.Shelved.{opened}
use Rattle.cw_board.proofs.opening.open_board.Goals as goal

pub new-requires-3-clause-board : goal.new-requires-3-clause-board
new-requires-3-clause-board g c =
    (opened _ _ _ _ _ _ _ c.in_ok-first.ensures c.again.ensures c.begin-head.ensures.front c.requires.history c.requires.workers.2).0

pub new-requires-4-clause-press : goal.new-requires-4-clause-press
new-requires-4-clause-press g c =
    let first = opened _ _ _ _ _ _ _ c.in_ok-first.ensures c.again.ensures c.begin-head.ensures.front c.requires.history c.requires.workers.2 in
    let shown = ap (λ (p : Pressed). p.shown) c.in_ok-press.ensures in (
      ap (λ (s : Shelved). s.log) shown ∙ first.1,
      ap (λ (p : Pressed). p.waiting) c.in_ok-press.ensures,
      subst (λ (s : Shelved). IsOfBoard g.J.BoardNaming.book g.J.BoardNaming.workers s) (sym shown) first.0,
    )
