use Rattle.std.proofs.Common.{[], ◌∷◌, ◌++◌, refl}
use Rattle.std.proofs.lemmas.Result.{err_from_is_err_and}
use Rattle.cw_lines.specs.Sessions.{Goes, EndsIn}
use Rattle.cw_lines.specs.Drives.{session_of, stands}
use Rattle.cw_lines.proofs.EndLemmas.{goes_then, ends_in_then, ends_longer}
use Rattle.cw_lines.proofs.Results.{on_ok, if_err}
use Rattle.cw_lines.proofs.StepLemmas.{goes_held, ends_held}
use Rattle.cw_lines.proofs.reading.Reading.end_line.Goals as goal

pub returns-in_err-hold-clause-stop : goal.returns-in_err-hold-clause-stop
returns-in_err-hold-clause-stop g c =
    let p = err_from_is_err_and c.from_residual.result c.from_residual.ensures.1 in
    rw (p.1, p.2)
    (ends_longer g.P.LinePlayer.rules (stands g.P.LinePlayer c.args.player.now) (g.P.LinePlayer.broken c.args.player.now) c.in_err-hold.field-0.0 c.args.tail.now (10 ∷ []) (g.P.LinePlayer.playing c.args.player.now).text
    (session_of g.P.LinePlayer c.args.player.now c.args.self.now)
    (ends_held g.P.LinePlayer.rules (stands g.P.LinePlayer c.args.player.now) (g.P.LinePlayer.broken c.args.player.now) c.in_err-hold.field-0.0 (session_of g.P.LinePlayer c.args.player.now c.args.self.now)
    c.args.tail.now c.requires.whole c.args.self.now.unended (record { alive = c.requires.alive; is = refl }) c.in_err-hold.ensures.stop))

pub returns-clause-go : goal.returns-clause-go
returns-clause-go g c =
    let old = session_of g.P.LinePlayer c.args.player.now c.args.self.now in
    let mid = session_of g.P.LinePlayer c.args.player.now c.hold.new.self in
    let new = session_of g.P.LinePlayer c.play_held.new.player c.play_held.new.self in
    on_ok c.play_held.result (Goes g.P.LinePlayer.rules (10 ∷ []) [] mid new) (Goes g.P.LinePlayer.rules (c.args.tail.now ++ 10 ∷ []) [] old new)
    (λ goes. goes_then g.P.LinePlayer.rules c.args.tail.now (10 ∷ []) [] [] old mid new (goes_held g.P.LinePlayer.rules c.args.tail.now c.requires.whole old mid refl c.hold.ensures.count c.in_ok-hold.ensures.pending) goes) c.play_held.ensures.go

pub returns-clause-stop : goal.returns-clause-stop
returns-clause-stop g c =
    let old = session_of g.P.LinePlayer c.args.player.now c.args.self.now in
    let mid = session_of g.P.LinePlayer c.args.player.now c.hold.new.self in
    let new = c.play_held.new.player in
    let text = (g.P.LinePlayer.playing new).text in
    if_err c.play_held.result (λ end. EndsIn g.P.LinePlayer.rules (stands g.P.LinePlayer new) (g.P.LinePlayer.broken new) ⊥ end (10 ∷ []) mid text)
    (λ end. EndsIn g.P.LinePlayer.rules (stands g.P.LinePlayer new) (g.P.LinePlayer.broken new) ⊥ end (c.args.tail.now ++ 10 ∷ []) old text)
    (λ end ends. ends_in_then g.P.LinePlayer.rules (stands g.P.LinePlayer new) (g.P.LinePlayer.broken new) end c.args.tail.now (10 ∷ []) text old mid
    (goes_held g.P.LinePlayer.rules c.args.tail.now c.requires.whole old mid refl c.hold.ensures.count c.in_ok-hold.ensures.pending) ends)
    c.play_held.ensures.stop
