use Rattle.std.proofs.Common.{refl}
use Rattle.cw_types.specs.Faults.{Rose}
use Rattle.cw_lines.specs.Drives.{session_of, stands, EndsInPiece, after_tell}
use Rattle.cw_lines.proofs.Results.{on_ok, if_after}
use Rattle.cw_lines.proofs.TellLemmas.{tell_at, tell_broken, fed_then, ended_so}
use Rattle.cw_lines.proofs.drive.turn.Goals as goal

pub returns-clause-stop : goal.returns-clause-stop
returns-clause-stop g c =
    let mid = c.feed-fed.new.player in
    let new = c.tell-told.new.player in
    let old = session_of g.P.LinePlayer c.args.player.now c.args.reading.now in
    let before = g.O.Sink.held c.args.output.now in
    let after = g.O.Sink.held c.tell-told.new.output in
    let rose = Rose (g.O.Sink.faults c.args.output.now) (g.O.Sink.faults c.tell-told.new.output) in
    if_after c.first_of.result (λ end. EndsInPiece g.P.LinePlayer.rules (stands g.P.LinePlayer new) (g.P.LinePlayer.broken new) rose end c.args.piece.now old before after) (λ end is.
    fed_then g.P.LinePlayer.rules (stands g.P.LinePlayer mid) (stands g.P.LinePlayer new) (g.P.LinePlayer.broken mid) (g.P.LinePlayer.broken new)
    (tell_at g.P.LinePlayer c.tell-told.result mid new c.tell-told.ensures.silent c.tell-told.ensures.alive c.tell-told.ensures.kept)
    (tell_broken g.P.LinePlayer c.tell-told.result mid new c.tell-told.ensures.broken c.tell-told.ensures.kept)
    rose old before after (g.P.LinePlayer.playing mid).text (session_of g.P.LinePlayer mid c.feed-fed.new.self) refl c.args.piece.now c.feed-fed.result c.tell-told.result c.feed-fed.ensures.go
    (on_ok c.feed-fed.result (g.P.LinePlayer.alive mid) (stands g.P.LinePlayer mid (g.P.LinePlayer.playing mid).state) (λ alive. record { alive = alive; is = refl }) c.feed-fed.ensures.alive)
    c.feed-fed.ensures.stop c.tell-told.ensures.written c.tell-told.ensures.in_part c.tell-told.ensures.rose c.tell-told.ensures.fault end (ended_so c.first_of.result (after_tell c.feed-fed.result c.tell-told.result) end c.first_of.ensures is))
