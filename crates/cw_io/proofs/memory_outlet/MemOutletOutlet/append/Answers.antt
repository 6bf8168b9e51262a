use Rattle.std.proofs.Common.{ap}
use Rattle.cw_io.proofs.Appended.{half_in_part}
use Rattle.cw_io.proofs.memory_outlet.MemOutletOutlet.append.Goals as goal

pub returns-then-fails_next-clause-in_part : goal.returns-then-fails_next-clause-in_part
returns-then-fails_next-clause-in_part c = half_in_part c.args.file.now c.args.line.now (ap (λ state. state.files) c.self.view_is) c.add_half.ensures.half
