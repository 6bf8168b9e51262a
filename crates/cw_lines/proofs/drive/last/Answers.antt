use Rattle.std.proofs.Common.{inr, Err, refl}
use Rattle.cw_types.specs.Faults.{Rose}
use Rattle.cw_lines.specs.Drives.{session_of, stands, after_tell}
use Rattle.cw_lines.proofs.TellLemmas.{tell_at, tell_broken, finished_then, ended_so}
use Rattle.cw_lines.proofs.drive.last.Goals as goal

pub returns-in-Err-clause-ends : goal.returns-in-Err-clause-ends
returns-in-Err-clause-ends g c =
    let mid = c.finish-finished.new.player in
    let new = c.tell-told.new.player in
    let old = session_of g.P.LinePlayer c.args.player.now c.args.reading.now in
    let before = g.O.Sink.held c.args.output.now in
    let after = g.O.Sink.held c.tell-told.new.output in
    let rose = Rose (g.O.Sink.faults c.args.output.now) (g.O.Sink.faults c.tell-told.new.output) in
    inr (finished_then g.P.LinePlayer.rules (stands g.P.LinePlayer mid) (stands g.P.LinePlayer new) (g.P.LinePlayer.broken mid) (g.P.LinePlayer.broken new)
    (tell_at g.P.LinePlayer c.tell-told.result mid new c.tell-told.ensures.silent c.tell-told.ensures.alive c.tell-told.ensures.kept)
    (tell_broken g.P.LinePlayer c.tell-told.result mid new c.tell-told.ensures.broken c.tell-told.ensures.kept)
    rose old before after (g.P.LinePlayer.playing mid).text c.finish-finished.result c.tell-told.result c.finish-finished.ensures.go c.finish-finished.ensures.stop
    c.tell-told.ensures.written c.tell-told.ensures.in_part c.tell-told.ensures.rose c.tell-told.ensures.fault c.in-Err.end (ended_so (Err c.in-Err.end) (after_tell c.finish-finished.result c.tell-told.result) c.in-Err.end c.in-Err.ensures refl))
