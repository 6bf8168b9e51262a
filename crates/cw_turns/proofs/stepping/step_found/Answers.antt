use Rattle.cw_sourcetask.specs.Sourced.{source_step}
use Rattle.cw_turns.proofs.Going.{acts-keep, acts-on}
use Rattle.cw_turns.proofs.Scanned.{found-leads}
use Rattle.cw_turns.proofs.stepping.step_found.Goals as goal

pub returns-clause-goes_on : goal.returns-clause-goes_on
returns-clause-goes_on g c =
    let old = c.args.world.now in
    let found = c.args.found.now in
    let leads = found-leads old.setting c.args.i old.state c.is_safe.ensures.facts c.requires.alive c.args.turn found c.requires.source c.requires.turn in
    λ start goes. acts-on g.D.Disk start (source_step old.setting c.args.i c.args.turn found) old c.step.new.world c.step.result goes c.requires.alive
    (c.is_safe.ensures.holds c.requires.alive) leads.reached leads.unclosed c.step.ensures

pub returns-clause-kept : goal.returns-clause-kept
returns-clause-kept g c =
    let old = c.args.world.now in
    let found = c.args.found.now in
    let leads = found-leads old.setting c.args.i old.state c.is_safe.ensures.facts c.requires.alive c.args.turn found c.requires.source c.requires.turn in
    acts-keep g.D.Disk (source_step old.setting c.args.i c.args.turn found) old c.step.new.world c.step.result leads.kept c.step.ensures
