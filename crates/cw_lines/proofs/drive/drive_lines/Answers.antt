use Rattle.std.proofs.Common.{refl}
use Rattle.cw_types.specs.Faults.{Rose}
use Rattle.cw_lines.specs.Drives.{stands}
use Rattle.cw_lines.proofs.SoFar.{drives_none}
use Rattle.cw_lines.proofs.drive.drive_lines.Goals as goal

pub returns-in_default-clause-drives : goal.returns-in_default-clause-drives
returns-in_default-clause-drives g c = λ bytes is.
    drives_none g.P.LinePlayer.rules (g.P.LinePlayer.playing c.args.player.now).setting (g.P.LinePlayer.playing c.args.player.now).state (g.I.Source.left c.args.input.now) (g.O.Sink.held c.args.output.now)
    (stands g.P.LinePlayer c.args.player.now) (g.P.LinePlayer.broken c.args.player.now) (Rose (g.O.Sink.faults c.args.output.now) (g.O.Sink.faults c.args.output.now)) (record { alive = c.requires.alive; is = refl }) bytes is
