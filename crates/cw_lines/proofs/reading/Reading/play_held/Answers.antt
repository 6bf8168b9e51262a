use Rattle.std.proofs.Common.{◌≤◌, ◌+◌, ℕ, List, [], ◌∷◌, length, refl, subst, arith}
use Rattle.std.proofs.lemmas.Grind.{common_steps}
use Rattle.std.proofs.lemmas.Result.{err_from_is_err_and}
use Rattle.cw_lines.specs.Lines.{is_line}
use Rattle.cw_lines.specs.Players.{HasPlayed, HasStopped}
use Rattle.cw_lines.specs.Drives.{session_of, stands}
use Rattle.cw_lines.proofs.LineLemmas.{line_ends-one}
use Rattle.cw_lines.proofs.StepLemmas.{goes_line, ends_whole}
use Rattle.cw_lines.proofs.reading.Reading.play_held.Goals as goal

pub returns-in_err-play_line-clause-stop : goal.returns-in_err-play_line-clause-stop
returns-in_err-play_line-clause-stop g c =
    let p = err_from_is_err_and c.from_residual.result c.from_residual.ensures.1 in
    let short : length c.args.self.now.pending.items ≤ 65536 = grind (arith, common_steps) in
    let old = g.P.LinePlayer.playing c.args.player.now in
    rw (p.1, p.2)
    (ends_whole g.P.LinePlayer.rules (stands g.P.LinePlayer c.play_line.new.self) (g.P.LinePlayer.broken c.play_line.new.self) c.in_err-play_line.field-0.0 (session_of g.P.LinePlayer c.args.player.now c.args.self.now)
    c.args.self.now.pending.items (10 ∷ []) (g.P.LinePlayer.playing c.play_line.new.self).text c.args.self.now.unended c.requires.begun short line_ends-one (λ more. refl)
    (subst (λ (l : List ℕ). HasStopped c.in_err-play_line.field-0.0 (g.P.LinePlayer.rules.amid old.setting (c.args.self.now.count + 1) l) (stands g.P.LinePlayer c.play_line.new.self) (g.P.LinePlayer.broken c.play_line.new.self (c.args.self.now.count + 1) l)
    (g.P.LinePlayer.rules.does old.setting (c.args.self.now.count + 1) l old.state) old (g.P.LinePlayer.playing c.play_line.new.self).text) c.deref.ensures.value c.in_err-play_line.ensures.stop))

pub invariant_of-self-clause-unended : goal.invariant_of-self-clause-unended
unfolding is_line
invariant_of-self-clause-unended g c = rw c.clear.ensures.items refl

pub returns-clause-go : goal.returns-clause-go
returns-clause-go g c =
    let short : length c.args.self.now.pending.items ≤ 65536 = grind (arith, common_steps) in
    let old = g.P.LinePlayer.playing c.args.player.now in
    goes_line g.P.LinePlayer.rules c.args.self.now.pending.items (10 ∷ []) (session_of g.P.LinePlayer c.args.player.now c.args.self.now) _ c.args.self.now.unended c.requires.begun short refl c.clear.ensures.items line_ends-one (λ more. refl)
    (subst (λ (l : List ℕ). HasPlayed (g.P.LinePlayer.rules.does old.setting (c.args.self.now.count + 1) l old.state) old (g.P.LinePlayer.playing c.play_line.new.self)) c.deref.ensures.value c.in_ok-play_line.ensures.go)
