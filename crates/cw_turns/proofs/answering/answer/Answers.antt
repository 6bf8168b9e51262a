use Rattle.cw_desk.proofs.Submitted.{if-asked, if-kept, if-shows, on-unkept, turn-grows, turn-live, turn-same}
use Rattle.cw_turns.proofs.answering.answer.Goals as goal

pub returns-clause-asked : goal.returns-clause-asked
returns-clause-asked g c = if-asked g.D.Disk c.args.w c.args.call c.args.world.now c.take.new.world c.is_safe.ensures.facts c.requires c.take.result c.take.ensures.turn

pub returns-clause-shows : goal.returns-clause-shows
returns-clause-shows g c = if-shows g.D.Disk c.args.w c.args.call c.args.world.now c.take.new.world c.is_safe.ensures.facts c.requires c.take.result c.take.ensures.turn

pub returns-clause-kept : goal.returns-clause-kept
returns-clause-kept g c = if-kept g.D.Disk c.args.w c.args.call c.args.world.now c.take.new.world c.is_safe.ensures.facts c.requires c.take.result c.take.ensures.turn

pub returns-clause-unkept : goal.returns-clause-unkept
returns-clause-unkept g c = on-unkept g.D.Disk c.args.w c.args.call c.args.world.now c.take.new.world c.is_safe.ensures.facts c.requires c.take.result c.take.ensures.turn

pub returns-clause-grows : goal.returns-clause-grows
returns-clause-grows g c = turn-grows g.D.Disk c.args.w c.args.call c.args.world.now c.take.new.world c.is_safe.ensures.facts c.requires c.take.result c.take.ensures.turn

pub returns-clause-live : goal.returns-clause-live
returns-clause-live g c = turn-live g.D.Disk c.args.w c.args.call c.args.world.now c.take.new.world c.is_safe.ensures.facts c.requires c.take.result c.take.ensures.turn

pub returns-clause-same : goal.returns-clause-same
returns-clause-same g c = turn-same g.D.Disk c.args.w c.args.call c.args.world.now c.take.new.world c.is_safe.ensures.facts c.requires c.take.result c.take.ensures.turn
