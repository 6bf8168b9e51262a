use Rattle.cw_offset.proofs.Rooms.{roomier-trans}
use Rattle.cw_offset.proofs.tables.Tables.make_rows.Goals as goal

pub returns-in_err-make_under-in-Put-clause-roomier : goal.returns-in_err-make_under-in-Put-clause-roomier
returns-in_err-make_under-in-Put-clause-roomier c = roomier-trans c.args.self.now c.make_part.new.self c.make_under-in-Put.new.self c.make_part.ensures.roomier c.make_under-in-Put.ensures.roomier

pub returns-in_ok-make_under-in-Put-clause-roomier : goal.returns-in_ok-make_under-in-Put-clause-roomier
returns-in_ok-make_under-in-Put-clause-roomier c =
    roomier-trans c.args.self.now c.make_under-in-Put.new.self c.make_part_under.new.self
    (roomier-trans c.args.self.now c.make_part.new.self c.make_under-in-Put.new.self c.make_part.ensures.roomier c.make_under-in-Put.ensures.roomier) c.make_part_under.ensures.roomier
