use Rattle.std.proofs.Common.{rules}
use Rattle.cw_rows.proofs.CrewLemmas.{crew-spawn}
use Rattle.cw_rows.proofs.crew.Crew.spawn.Goals as goal

pub invariant_of-self-2 : goal.invariant_of-self-2
invariant_of-self-2 c = rw (c.push_made.ensures, c.push_made-2.ensures, c.push_made-3.ensures, c.make_room.ensures.same, c.make_room-2.ensures.same, c.make_room-3.ensures.same, c.new.ensures, c.new-2.ensures)
    (crew-spawn c.self.inside.rows.items c.self.inside.instances.items c.self.inside.reads.items c.self.inside.runs.items
    c.new_row.result (search rules) c.self.invariant)
