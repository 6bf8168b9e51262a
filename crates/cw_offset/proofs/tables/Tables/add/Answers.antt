use Rattle.cw_offset.proofs.Rooms.{uses_room, stands_before, backs_parts}
use Rattle.cw_offset.proofs.tables.Tables.add.Goals as goal

pub commit-requires-clause-before : goal.commit-requires-clause-before
commit-requires-clause-before c = stands_before c.args.self.now c.args.calls.now.items c.requires.kept c.in-Commit.tag

pub commit-requires-clause-backed : goal.commit-requires-clause-backed
commit-requires-clause-backed c = backs_parts c.args.self.now c.args.calls.now.items c.requires.kept c.in-Commit.tag

pub abort-requires-clause-before : goal.abort-requires-clause-before
abort-requires-clause-before c = stands_before c.args.self.now c.args.calls.now.items c.requires.kept c.in-Abort.tag

pub returns-in-Stand-clause-room : goal.returns-in-Stand-clause-room
returns-in-Stand-clause-room c = uses_room c.args.self.now c.stand.new.self c.stand.ensures.room c.args.call

pub returns-in-Put-clause-room : goal.returns-in-Put-clause-room
returns-in-Put-clause-room c = uses_room c.args.self.now c.put.new.self c.put.ensures.room c.args.call

pub returns-in-Commit-clause-room : goal.returns-in-Commit-clause-room
returns-in-Commit-clause-room c = uses_room c.args.self.now c.commit.new.self c.commit.ensures.room c.args.call

pub returns-in-Abort-clause-room : goal.returns-in-Abort-clause-room
returns-in-Abort-clause-room c = uses_room c.args.self.now c.abort.new.self c.abort.ensures.room c.args.call

pub returns-in-Set-clause-room : goal.returns-in-Set-clause-room
returns-in-Set-clause-room c = uses_room c.args.self.now c.set.new.self c.set.ensures.room c.args.call
