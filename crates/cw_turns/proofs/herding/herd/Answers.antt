use Rattle.cw_model.specs.EventsWorkers.{clock}
use Rattle.cw_model.specs.Tick.{tick}
use Rattle.cw_world.specs.Moments.{at_moment}
use Rattle.cw_run.proofs.Living.{tick-lives}
use Rattle.cw_run.proofs.TickRuns.{tick-runs}
use Rattle.cw_desk.proofs.Quiet.{clock-quiet, keeps-trans, tick-quiet}
use Rattle.cw_turns.proofs.Going.{acts-keep, acts-on, clock-facts, clock-on}
use Rattle.cw_turns.proofs.herding.herd.Goals as goal

pub returns-clause-goes_on : goal.returns-clause-goes_on
returns-clause-goes_on g c =
    let old = c.args.world.now in
    let at = (clock c.args.now old.state).1 in
    λ start goes. acts-on g.D.Disk start (tick c.args.w) (at_moment c.args.now old) c.tick.new.world c.tick.result
    (clock-on g.D.Disk start c.args.now old goes c.requires.alive) c.requires.alive (c.is_safe.ensures.holds c.requires.alive)
    (tick-runs old.setting at (clock-facts old.setting c.args.now old.state c.is_safe.ensures.facts) c.args.w)
    (tick-lives at c.requires.alive c.args.w).unclosed c.tick.ensures

pub returns-clause-kept : goal.returns-clause-kept
returns-clause-kept g c =
    let old = c.args.world.now in
    let at = (clock c.args.now old.state).1 in
    keeps-trans old.state at c.tick.new.world.state (clock-quiet c.args.now old.state)
    (acts-keep g.D.Disk (tick c.args.w) (at_moment c.args.now old) c.tick.new.world c.tick.result
    (tick-quiet old.setting c.args.w at (clock-facts old.setting c.args.now old.state c.is_safe.ensures.facts)) c.tick.ensures)
