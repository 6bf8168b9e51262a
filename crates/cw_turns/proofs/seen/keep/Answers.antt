use Rattle.cw_desk.proofs.Submitted.{kept-done, kept-wants}
use Rattle.cw_turns.proofs.seen.keep.Goals as goal

pub returns-in-Ok : goal.returns-in-Ok
returns-in-Ok g c = kept-done c.args.entry c.args.world.now c.journal.new.self c.journal.result c.journal.ensures.done c.in-Ok.receipt c.in-Ok.is
    c.in-Ok.ensures.entry c.in-Ok.ensures.name

pub returns : goal.returns
returns g c = kept-wants c.args.entry c.args.world.now c.journal.new.self c.journal.result c.journal.ensures.done c.in-Err.field-0 c.in-Err.is
