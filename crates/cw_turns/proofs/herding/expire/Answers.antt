use Rattle.cw_model.specs.EventsWorkers.{expire}
use Rattle.cw_model.specs.Runs as step
use Rattle.cw_world.specs.Moments.{at_moment}
use Rattle.cw_world.proofs.Acting.{does-acts}
use Rattle.cw_run.proofs.Living.{expire-lives}
use Rattle.cw_run.proofs.Reaching.{makes}
use Rattle.cw_desk.proofs.Quiet.{clock-quiet, expire-quiet, keeps-trans}
use Rattle.cw_turns.proofs.Going.{acts-keep, acts-on, clock-on}
use Rattle.cw_turns.proofs.herding.expire.Goals as goal

pub returns-clause-goes_on : goal.returns-clause-goes_on
returns-clause-goes_on g c =
    let old = c.args.world.now in
    let at = at_moment c.args.now old in
    let event = expire old.setting c.args.w in
    λ start goes. acts-on g.D.Disk start event at c.expire.new.self c.expire.result
    (clock-on g.D.Disk start c.args.now old goes c.requires.alive) c.requires.alive (c.is_safe.ensures.holds c.requires.alive)
    (makes old.setting at.state (step.expire c.args.w) tt)
    (expire-lives at.state c.requires.alive old.setting c.args.w).unclosed (does-acts g.D.Disk event at c.expire.new.self c.expire.result c.expire.ensures)

pub returns-clause-kept : goal.returns-clause-kept
returns-clause-kept g c =
    let old = c.args.world.now in
    let at = at_moment c.args.now old in
    let event = expire old.setting c.args.w in
    keeps-trans old.state at.state c.expire.new.self.state (clock-quiet c.args.now old.state)
    (acts-keep g.D.Disk event at c.expire.new.self c.expire.result (expire-quiet old.setting c.args.w at.state)
    (does-acts g.D.Disk event at c.expire.new.self c.expire.result c.expire.ensures))
