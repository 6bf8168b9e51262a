use Rattle.cw_board.proofs.Configs.{applied_adds}
use Rattle.cw_board.proofs.shelf.apply.Goals as goal

pub returns-in-Ok-clause-ok : goal.returns-in-Ok-clause-ok
returns-in-Ok-clause-ok c =
    (applied_adds c.args.config.now c.apply.new.self c.args.applied.now _ _ c.as_slice.ensures c.text.ensures c.in-Ok.ensures.ok).0

pub returns-in-Ok-clause-one : goal.returns-in-Ok-clause-one
returns-in-Ok-clause-one c =
    (applied_adds c.args.config.now c.apply.new.self c.args.applied.now _ _ c.as_slice.ensures c.text.ensures c.in-Ok.ensures.ok).1
