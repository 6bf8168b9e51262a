use Rattle.cw_compact.proofs.Point.{stepped}
use Rattle.cw_compact.proofs.clean.Clean.note.Goals as goal

pub returns : goal.returns
returns c = λ records before.
    stepped c.args.self.now c.step.new.self c.put.new.self records c.args.written.now before (c.in_ok-put.ensures.sets records before.sets)
    c.in_ok-put.ensures.count c.in_ok-put.ensures.point c.in_ok-step.ensures.sets c.in_ok-step.ensures.waiting c.in_ok-step.ensures.count c.in_ok-step.ensures.point
