use Rattle.cw_offset.proofs.Made.{part_under_roomier}
use Rattle.cw_offset.proofs.tables.Tables.make_part_under.Goals as goal

pub returns-clause-roomier : goal.returns-clause-roomier
returns-clause-roomier c = part_under_roomier c.args.self.now c.make_part_under.new.waiting c.args.tag.now c.make_part_under.ensures.made
