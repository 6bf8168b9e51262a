use Rattle.std.proofs.Common.{subst}
use Rattle.cw_log.specs.Calls.{IsAhead}
use Rattle.cw_log.proofs.window.read_ahead.Goals as goal

pub part-read-requires-clause-window : goal.part-read-requires-clause-window
part-read-requires-clause-window g c file is = c.in_ok-window-in-None.ensures.window file

pub part-requires-clause-window : goal.part-requires-clause-window
part-requires-clause-window g c file is =
    (subst (λ ahead. IsAhead (g.D.Disk.holds c.args.disk.now) ahead) c.in-Some.is c.requires).0 file is
