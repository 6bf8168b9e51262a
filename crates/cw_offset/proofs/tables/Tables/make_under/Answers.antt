use Rattle.cw_offset.proofs.Made.{under_roomier}
use Rattle.cw_offset.proofs.tables.Tables.make_under.Goals as goal

pub returns-clause-roomier : goal.returns-clause-roomier
returns-clause-roomier c = under_roomier c.args.self.now c.make_under.new.waiting c.make_under.ensures.kept c.make_under.ensures.fresh
