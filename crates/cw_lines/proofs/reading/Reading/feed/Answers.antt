use Rattle.std.proofs.Common.{◌≡◌, [], ◌∷◌, ◌++◌, length, refl, sym, ap, ◌∙◌, append_assoc, length-append, arith}
use Rattle.std.proofs.lemmas.List.{append-nil}
use Rattle.std.proofs.lemmas.Result.{err_from_is_err_and}
use Rattle.cw_lines.specs.Sessions.{Goes, EndsIn}
use Rattle.cw_lines.specs.Drives.{session_of, stands, IsNotHeld}
use Rattle.cw_lines.proofs.Counts.{fell_none, fell_then}
use Rattle.cw_lines.proofs.FeedLemmas.{fed_none, fed_more, fed_goes, fed_ends}
use Rattle.cw_lines.proofs.Results.{if_err, on_ok}
use Rattle.cw_lines.proofs.StepLemmas.{goes_held, ends_held}
use Rattle.cw_lines.proofs.reading.Reading.feed.Goals as goal

pub loop-line-init : goal.loop-line-init
loop-line-init g c = record {
  fed = fed_none g.P.LinePlayer.rules c.args.piece.now (session_of g.P.LinePlayer c.args.player.now c.args.self.now);
  alive = c.requires.alive;
  later = fell_none (g.P.LinePlayer.faults c.args.player.now);
  less = omega arith;
}

pub returns-in_err-end_line-clause-stop : goal.returns-in_err-end_line-clause-stop
returns-in_err-end_line-clause-stop g c =
    let p = err_from_is_err_and c.from_residual.result c.from_residual.ensures.1 in
    let new = c.end_line.new.player in
    rw (p.1, p.2)
    (fed_ends g.P.LinePlayer.rules c.args.piece.now c.loop-line.rest.now (session_of g.P.LinePlayer c.args.player.now c.args.self.now) (session_of g.P.LinePlayer c.loop-line.player c.loop-line.self) c.loop-line.invariant.fed
    (stands g.P.LinePlayer new) (g.P.LinePlayer.broken new) c.in_err-end_line.field-0.0 (c.in-Some.line.now ++ 10 ∷ []) c.in-Some.more.now (g.P.LinePlayer.playing new).text
    (c.in-Some.ensures.parts.0 ∙ sym (append_assoc c.in-Some.line.now (10 ∷ []) c.in-Some.more.now)) c.in_err-end_line.ensures.stop)

pub loop-line-preserved : goal.loop-line-preserved
loop-line-preserved g c = record {
  fed = fed_more g.P.LinePlayer.rules c.args.piece.now c.loop-line.rest.now (session_of g.P.LinePlayer c.args.player.now c.args.self.now) (session_of g.P.LinePlayer c.loop-line.player c.loop-line.self) c.loop-line.invariant.fed
      (c.in-Some.line.now ++ 10 ∷ []) c.in-Some.more.now (session_of g.P.LinePlayer c.end_line.new.player c.end_line.new.self)
      (c.in-Some.ensures.parts.0 ∙ sym (append_assoc c.in-Some.line.now (10 ∷ []) c.in-Some.more.now)) c.in_ok-end_line.ensures.go;
  alive = c.in_ok-end_line.ensures.alive;
  later = fell_then (g.P.LinePlayer.faults c.args.player.now) (g.P.LinePlayer.faults c.loop-line.player) (g.P.LinePlayer.faults c.end_line.new.player) c.loop-line.invariant.later c.in_ok-end_line.ensures.later;
  less = omega (arith, c.loop-line.invariant.less, c.in_ok-end_line.ensures.less, ap length c.in-Some.ensures.parts.0, length-append c.in-Some.line.now (10 ∷ c.in-Some.more.now));
}

pub returns-clause-go : goal.returns-clause-go
returns-clause-go g c =
    let mid = session_of g.P.LinePlayer c.loop-line.player c.loop-line.self in
    let new = session_of g.P.LinePlayer c.loop-line.player c.hold.new.self in
    on_ok c.hold.result (c.hold.new.self.pending.items ≡ c.loop-line.self.pending.items ++ c.loop-line.rest.now)
    (Goes g.P.LinePlayer.rules c.args.piece.now [] (session_of g.P.LinePlayer c.args.player.now c.args.self.now) new)
    (λ held. fed_goes g.P.LinePlayer.rules c.args.piece.now c.loop-line.rest.now (session_of g.P.LinePlayer c.args.player.now c.args.self.now) mid c.loop-line.invariant.fed new
    (goes_held g.P.LinePlayer.rules c.loop-line.rest.now c.in_default.ensures.parts mid new refl c.hold.ensures.count held)) c.hold.ensures.pending

pub returns-clause-stop : goal.returns-clause-stop
returns-clause-stop g c =
    let mid = session_of g.P.LinePlayer c.loop-line.player c.loop-line.self in
    let player = c.loop-line.player in
    let text = (g.P.LinePlayer.playing player).text in
    if_err c.hold.result (λ end. IsNotHeld c.loop-line.self.count (length c.loop-line.self.pending.items) (length c.loop-line.rest.now) end)
    (λ end. EndsIn g.P.LinePlayer.rules (stands g.P.LinePlayer player) (g.P.LinePlayer.broken player) ⊥ end c.args.piece.now (session_of g.P.LinePlayer c.args.player.now c.args.self.now) text)
    (λ end no. fed_ends g.P.LinePlayer.rules c.args.piece.now c.loop-line.rest.now (session_of g.P.LinePlayer c.args.player.now c.args.self.now) mid c.loop-line.invariant.fed
    (stands g.P.LinePlayer player) (g.P.LinePlayer.broken player) end c.loop-line.rest.now [] text (sym (append-nil c.loop-line.rest.now))
    (ends_held g.P.LinePlayer.rules (stands g.P.LinePlayer player) (g.P.LinePlayer.broken player) end mid c.loop-line.rest.now c.in_default.ensures.parts c.loop-line.self.unended
    (record { alive = c.loop-line.invariant.alive; is = refl }) no))
    c.hold.ensures.stop
