use Rattle.cw_model.specs.Steps.{step}
use Rattle.cw_run.proofs.Living.{step-lives}
use Rattle.cw_run.proofs.StepRuns.{step-runs}
use Rattle.cw_desk.proofs.Quiet.{task_step-quiet}
use Rattle.cw_turns.proofs.Going.{acts-keep, acts-on}
use Rattle.cw_turns.proofs.stepping.step.Goals as goal

pub returns-clause-goes_on : goal.returns-clause-goes_on
returns-clause-goes_on g c =
    let old = c.args.world.now in
    λ start goes. acts-on g.D.Disk start (step old.setting c.args.i) old c.poll_step.new.world c.poll_step.result goes c.requires.alive (c.is_safe.ensures.holds c.requires.alive)
    (step-runs old.setting c.args.i old.state c.is_safe.ensures.facts)
    (step-lives old.setting c.args.i old.state c.requires.alive).unclosed c.poll_step.ensures

pub returns-clause-kept : goal.returns-clause-kept
returns-clause-kept g c =
    let old = c.args.world.now in
    acts-keep g.D.Disk (step old.setting c.args.i) old c.poll_step.new.world c.poll_step.result
    (task_step-quiet old.setting c.args.i old.state c.is_safe.ensures.facts) c.poll_step.ensures
