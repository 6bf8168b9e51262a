use Rattle.cw_offset.proofs.Made.{parts_roomier}
use Rattle.cw_offset.proofs.tables.Tables.make_part.Goals as goal

pub returns-clause-roomier : goal.returns-clause-roomier
returns-clause-roomier c = parts_roomier c.args.self.now c.make_part.new.parts c.make_part.ensures.same c.make_part.ensures.kept
