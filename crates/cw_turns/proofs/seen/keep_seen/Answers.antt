use Rattle.cw_turns.proofs.Journaled.{seen-may, seen-on, seen-asked, seen-shows, seen-kept, seen-unkept, seen-grows, seen-live, seen-same}
use Rattle.cw_turns.proofs.seen.keep_seen.Goals as goal

pub keep-requires : goal.keep-requires
keep-requires g c = seen-may g.D.Disk c.args.entry c.args.world.now c.args.world.now c.requires.board c.requires.holds

pub returns-clause-goes_on : goal.returns-clause-goes_on
returns-clause-goes_on g c = seen-on g.D.Disk c.args.entry c.args.world.now c.keep.new.world c.keep.result
    (seen-may g.D.Disk c.args.entry c.args.world.now c.args.world.now c.requires.board c.requires.holds) c.keep.ensures

pub returns-clause-asked : goal.returns-clause-asked
returns-clause-asked g c = seen-asked g.D.Disk c.args.entry c.args.world.now c.keep.new.world c.keep.result c.keep.ensures

pub returns-clause-shows : goal.returns-clause-shows
returns-clause-shows g c = seen-shows g.D.Disk c.args.entry c.args.world.now c.keep.new.world c.keep.result c.keep.ensures

pub returns-clause-kept : goal.returns-clause-kept
returns-clause-kept g c = seen-kept g.D.Disk c.args.entry c.args.world.now c.keep.new.world c.keep.result c.keep.ensures

pub returns-clause-unkept : goal.returns-clause-unkept
returns-clause-unkept g c = seen-unkept g.D.Disk c.args.entry c.args.world.now c.keep.new.world c.keep.result c.keep.ensures

pub returns-clause-grows : goal.returns-clause-grows
returns-clause-grows g c = seen-grows g.D.Disk c.args.entry c.args.world.now c.keep.new.world c.keep.result c.keep.ensures

pub returns-clause-live : goal.returns-clause-live
returns-clause-live g c = seen-live g.D.Disk c.args.entry c.args.world.now c.keep.new.world c.keep.result c.keep.ensures

pub returns-clause-same : goal.returns-clause-same
returns-clause-same g c = seen-same g.D.Disk c.args.entry c.args.world.now c.keep.new.world c.keep.result c.keep.ensures
