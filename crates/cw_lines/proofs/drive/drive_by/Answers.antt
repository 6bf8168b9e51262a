use Rattle.std.proofs.Common.{◌≡◌, ◌≤◌, ◌<◌, Ok, length, take, length-take, refl, ap, arith}
use Rattle.std.proofs.lemmas.Grind.{common_steps}
use Rattle.cw_types.specs.Faults.{Rose}
use Rattle.cw_lines.specs.Drives.{session_of, stands}
use Rattle.cw_lines.proofs.Counts.{fell_none, fell_then}
use Rattle.cw_lines.proofs.SoFar.{started, next, piece_in, last_in, read_failed, takes_nothing}
use Rattle.cw_lines.proofs.drive.drive_by.Goals as goal

pub pieces-init : goal.pieces-init
pieces-init g c = record {
  far = started g.P.LinePlayer.rules (g.P.LinePlayer.playing c.args.player.now).setting (g.P.LinePlayer.playing c.args.player.now).state (g.I.Source.left c.args.input.now) (g.O.Sink.held c.args.output.now)
      (session_of g.P.LinePlayer c.args.player.now c.args.reading.now) refl refl c.requires.silent c.requires.none c.requires.empty;
  alive = c.requires.alive;
  some = c.requires.some;
  short = c.requires.short;
  idle = λ is. (is, refl, c.requires.empty);
  later = fell_none (g.P.LinePlayer.faults c.args.player.now);
  later_in = omega arith;
  later_out = omega arith;
}

pub returns-in-Ok-eq0-clause-drives : goal.returns-in-Ok-eq0-clause-drives
returns-in-Ok-eq0-clause-drives g c = λ bytes is.
    let none : c.in-Ok-eq0.field-0 ≡ 0 = c.in-Ok-eq0.field-0-test in
    let short : length c.pieces.reading.pending.items ≤ 65536 = grind (arith, common_steps) in
    let begun : 0 < length c.pieces.reading.pending.items → c.pieces.reading.count < 1000000 = λ some. c.pieces.reading.begun (grind (arith, common_steps)) in
    last_in g.P.LinePlayer.rules (g.P.LinePlayer.playing c.args.player.now).setting (g.P.LinePlayer.playing c.args.player.now).state (g.I.Source.left c.args.input.now) (g.O.Sink.held c.args.output.now)
    (session_of g.P.LinePlayer c.pieces.player c.pieces.reading) (g.I.Source.left c.pieces.input) (g.O.Sink.held c.pieces.output) c.pieces.invariant.far c.pieces.reading.unended begun short
    (stands g.P.LinePlayer c.last.new.player) (g.P.LinePlayer.broken c.last.new.player) (Rose (g.O.Sink.faults c.pieces.output) (g.O.Sink.faults c.last.new.output)) (Rose (g.O.Sink.faults c.args.output.now) (g.O.Sink.faults c.last.new.output))
    (λ rose. let was : (Rose (g.O.Sink.faults c.pieces.output) (g.O.Sink.faults c.last.new.output)) = rose in let before : g.O.Sink.faults c.args.output.now ≤ g.O.Sink.faults c.pieces.output = c.pieces.invariant.later_out in omega arith)
    c.last.result (take c.in-Ok-eq0.field-0 c.read.new.into) (g.I.Source.left c.read.new.self) (g.O.Sink.held c.last.new.output) c.in-Ok-eq0.ensures.taken
    (ap (λ n. take n c.read.new.into) none) (c.in-Ok-eq0.ensures.at_end (ap Ok none) c.pieces.invariant.some) c.last.ensures.ends bytes is

pub returns-in-Err-turn-clause-drives : goal.returns-in-Err-turn-clause-drives
returns-in-Err-turn-clause-drives g c = λ bytes is.
    let short : length c.pieces.reading.pending.items ≤ 65536 = grind (arith, common_steps) in
    let begun : 0 < length c.pieces.reading.pending.items → c.pieces.reading.count < 1000000 = λ some. c.pieces.reading.begun (grind (arith, common_steps)) in
    piece_in g.P.LinePlayer.rules (g.P.LinePlayer.playing c.args.player.now).setting (g.P.LinePlayer.playing c.args.player.now).state (g.I.Source.left c.args.input.now) (g.O.Sink.held c.args.output.now)
    (session_of g.P.LinePlayer c.pieces.player c.pieces.reading) (g.I.Source.left c.pieces.input) (g.O.Sink.held c.pieces.output) c.pieces.invariant.far c.pieces.reading.unended begun short
    (stands g.P.LinePlayer c.turn.new.player) (g.P.LinePlayer.broken c.turn.new.player) (Rose (g.O.Sink.faults c.pieces.output) (g.O.Sink.faults c.turn.new.output)) (Rose (g.O.Sink.faults c.args.output.now) (g.O.Sink.faults c.turn.new.output))
    (λ rose. let was : (Rose (g.O.Sink.faults c.pieces.output) (g.O.Sink.faults c.turn.new.output)) = rose in let before : g.O.Sink.faults c.args.output.now ≤ g.O.Sink.faults c.pieces.output = c.pieces.invariant.later_out in omega arith)
    c.in-Err-turn.end (take c.in-Ok.count c.read.new.into) (g.I.Source.left c.read.new.self) (g.O.Sink.held c.turn.new.output) c.in-Ok.ensures.taken
    (omega (arith, length-take c.in-Ok.count c.read.new.into, c.pieces.invariant.short)) c.in-Err-turn.ensures.stop bytes is

pub pieces-preserved : goal.pieces-preserved
pieces-preserved g c = record {
  far = next g.P.LinePlayer.rules (g.P.LinePlayer.playing c.args.player.now).setting (g.P.LinePlayer.playing c.args.player.now).state (g.I.Source.left c.args.input.now) (g.O.Sink.held c.args.output.now)
      (session_of g.P.LinePlayer c.pieces.player c.pieces.reading) (g.I.Source.left c.pieces.input) (g.O.Sink.held c.pieces.output) c.pieces.invariant.far
      (take c.in-Ok.count c.read.new.into) (g.I.Source.left c.read.new.self) (g.O.Sink.held c.turn.new.output) (session_of g.P.LinePlayer c.turn.new.player c.turn.new.reading) c.in-Ok.ensures.taken c.in_default.ensures.go;
  alive = c.in_default.ensures.alive;
  some = omega arith;
  short = omega arith;
  idle = λ is. absurd (takes_nothing c.in-Ok.count c.read.new.into (g.I.Source.left c.pieces.input) (g.I.Source.left c.read.new.self) (c.pieces.invariant.idle is).0 c.in-Ok.ensures.taken (omega arith) (omega (arith, c.in-Ok.ensures.fits)));
  later = fell_then (g.P.LinePlayer.faults c.args.player.now) (g.P.LinePlayer.faults c.pieces.player) (g.P.LinePlayer.faults c.turn.new.player) c.pieces.invariant.later c.in_default.ensures.later;
  later_in = omega (arith, c.in-Ok.ensures.later);
  later_out = omega (arith, c.in_default.ensures.later_out);
}

pub returns-in-Err-clause-drives : goal.returns-in-Err-clause-drives
returns-in-Err-clause-drives g c = λ bytes is.
    let short : length c.pieces.reading.pending.items ≤ 65536 = grind (arith, common_steps) in
    let begun : 0 < length c.pieces.reading.pending.items → c.pieces.reading.count < 1000000 = λ some. c.pieces.reading.begun (grind (arith, common_steps)) in
    read_failed g.P.LinePlayer.rules (g.P.LinePlayer.playing c.args.player.now).setting (g.P.LinePlayer.playing c.args.player.now).state (g.I.Source.left c.args.input.now) (g.O.Sink.held c.args.output.now)
    (session_of g.P.LinePlayer c.pieces.player c.pieces.reading) (g.I.Source.left c.pieces.input) (g.O.Sink.held c.pieces.output) c.pieces.invariant.far c.pieces.reading.unended begun short
    (stands g.P.LinePlayer c.pieces.player) (g.P.LinePlayer.broken c.pieces.player) (Rose (g.O.Sink.faults c.args.output.now) (g.O.Sink.faults c.pieces.output)) (g.I.Source.left c.read.new.self) c.in-Err.ensures.kept
    (record { alive = c.pieces.invariant.alive; is = refl }) bytes is
