use Rattle.std.proofs.Common.{ap, ◌∙◌}
use Rattle.cw_model.specs.State.{Setting}
use Rattle.cw_model.specs.Steps.{takes_cut, polls}
use Rattle.cw_sourcetask.proofs.Scanned.{polls-found}
use Rattle.cw_tasks.proofs.Stepped.{looked}
use Rattle.cw_tasks.proofs.Told.{acts-is, out-of-memory}
use Rattle.cw_sourcetask.proofs.steps.poll.Goals as goal

pub returns-in-Err : goal.returns-in-Err
returns-in-Err g c = out-of-memory g.D.Disk (λ s. polls c.args.world.now.setting c.args.i s) c.args.world.now

pub returns-in-Ok : goal.returns-in-Ok
returns-in-Ok g c = acts-is g.D.Disk (λ s. takes_cut c.args.world.now.setting c.args.i s c.in-Ok.found.0 c.in-Ok.found.1) (λ s. polls c.args.world.now.setting c.args.i s)
    c.args.world.now c.at_polling.new.world c.at_polling.result
    (polls-found c.args.world.now.setting c.args.i c.args.world.now.state c.requires.source c.feeds.result.now c.instance_of.result.now c.in-Ok.found
    (c.feeds.ensures ∙ ap (λ (x : Setting). x.feeds) c.cluster.ensures.setting)
    (looked c.args.i c.args.world.now.state c.cluster-2.result.now.state c.cluster-2.ensures.state c.instance_of.result.now c.instance_of.ensures) c.in-Ok.ensures.found) c.at_polling.ensures
