use Rattle.std.proofs.Common.{ap}
use Rattle.cw_feed.specs.declared.cut.CutAnswer.TheVariants as cut
use Rattle.cw_model.specs.declared.did.Did.TheVariants as did
use Rattle.cw_model.specs.Polls.{is_something}
use Rattle.cw_model.specs.Steps.{takes_cut}
use Rattle.cw_tasks.proofs.Told.{acts-is, idle}
use Rattle.cw_sourcetask.proofs.polling.at_polling.Goals as goal

pub take-requires-clause-turn : goal.take-requires-clause-turn
take-requires-clause-turn g c = c.requires.turn (ap is_something c.in-Cut.is)

pub returns-in-AtEnd : goal.returns-in-AtEnd
returns-in-AtEnd g c = idle g.D.Disk (λ s. takes_cut c.args.world.now.setting c.args.i s c.args.turn c.args.found.now) c.args.world.now did.AtEnd
    (ap (takes_cut c.args.world.now.setting c.args.i c.args.world.now.state c.args.turn) c.in-AtEnd.is)

pub returns-in-LineTooLong : goal.returns-in-LineTooLong
returns-in-LineTooLong g c = acts-is g.D.Disk (λ s. takes_cut c.args.world.now.setting c.args.i s c.args.turn (cut.LineTooLong c.in-LineTooLong.at))
    (λ s. takes_cut c.args.world.now.setting c.args.i s c.args.turn c.args.found.now) c.args.world.now c.fail_at_line.new.world c.fail_at_line.result
    (ap (takes_cut c.args.world.now.setting c.args.i c.args.world.now.state c.args.turn) c.in-LineTooLong.is) c.fail_at_line.ensures

pub returns-in-Cut : goal.returns-in-Cut
returns-in-Cut g c = acts-is g.D.Disk (λ s. takes_cut c.args.world.now.setting c.args.i s c.args.turn (cut.Cut c.in-Cut.to))
    (λ s. takes_cut c.args.world.now.setting c.args.i s c.args.turn c.args.found.now) c.args.world.now c.take.new.world c.take.result
    (ap (takes_cut c.args.world.now.setting c.args.i c.args.world.now.state c.args.turn) c.in-Cut.is) c.take.ensures
