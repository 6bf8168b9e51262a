use Rattle.std.proofs.Common.{ℕ, Ok, ap}
use Rattle.cw_feed.specs.declared.cut.CutAnswer.TheVariants as cut
use Rattle.cw_model.specs.declared.did.Did.{Did}
use Rattle.cw_model.specs.declared.did.Did.TheVariants as did
use Rattle.cw_model.specs.Answers.{Answer}
use Rattle.cw_model.specs.Steps.{takes_cut}
use Rattle.cw_world.proofs.Acting.{does-acts}
use Rattle.cw_sourcetask.proofs.polling.fail_at_line.Goals as goal

abbrev too_long : ℕ → Answer (Unit {0}) → Answer Did
too_long at done = (Ok (did.LineTooLong at), done.1)

pub returns : goal.returns
returns g c = does-acts g.D.Disk (λ s. takes_cut c.args.world.now.setting c.args.i s c.args.turn (cut.LineTooLong c.args.at)) c.args.world.now c.fail.new.self (Ok (did.LineTooLong c.args.at))
    (record { row = ap (too_long c.args.at) c.fail.ensures.row; setting = c.fail.ensures.setting; logs = c.fail.ensures.logs; name = c.fail.ensures.name })
