use Rattle.cw_model.specs.EventsCompaction.{compact}
use Rattle.cw_model.specs.Runs as step
use Rattle.cw_world.proofs.Acting.{writes-acts}
use Rattle.cw_run.proofs.Living.{compact-lives}
use Rattle.cw_run.proofs.Reaching.{makes}
use Rattle.cw_desk.proofs.Quiet.{compact-quiet}
use Rattle.cw_turns.proofs.Going.{acts-keep, acts-on}
use Rattle.cw_turns.proofs.herding.compact.Goals as goal

pub returns-clause-goes_on : goal.returns-clause-goes_on
returns-clause-goes_on g c =
    let old = c.args.world.now in
    let event = compact c.args.log in
    λ start goes. acts-on g.D.Disk start event old c.compact.new.self c.compact.result goes c.requires.alive (c.is_safe.ensures.holds c.requires.alive)
    (makes old.setting old.state (step.compact c.args.log) c.requires.may)
    (compact-lives old.state c.requires.alive c.args.log).unclosed (writes-acts g.D.Disk event old c.compact.new.self c.args.log c.compact.result c.compact.ensures)

pub returns-clause-kept : goal.returns-clause-kept
returns-clause-kept g c =
    let old = c.args.world.now in
    let event = compact c.args.log in
    acts-keep g.D.Disk event old c.compact.new.self c.compact.result (compact-quiet c.args.log old.state)
    (writes-acts g.D.Disk event old c.compact.new.self c.args.log c.compact.result c.compact.ensures)
