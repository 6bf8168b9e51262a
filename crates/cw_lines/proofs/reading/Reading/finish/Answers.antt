use Rattle.std.proofs.Common.{◌≡◌, ◌+◌, ◌<◌, ◌≤◌, [], length, arith, refl, subst, List, ℕ}
use Rattle.std.proofs.lemmas.Grind.{common_steps}
use Rattle.cw_lines.specs.Players.{HasPlayed, HasStopped}
use Rattle.cw_lines.specs.Sessions.{Finishes, EndsLast}
use Rattle.cw_lines.specs.Drives.{session_of, stands}
use Rattle.cw_lines.proofs.Results.{on_both, if_err}
use Rattle.cw_lines.proofs.StepLemmas.{finish_stop, finish_go, finish_none}
use Rattle.cw_lines.proofs.reading.Reading.finish.Goals as goal

pub returns-then-is_empty-clause-go : goal.returns-then-is_empty-clause-go
returns-then-is_empty-clause-go g c =
    let none : c.args.self.now.pending.items ≡ [] = grind (arith, common_steps) in
    finish_none g.P.LinePlayer.rules (stands g.P.LinePlayer c.args.player.now) (session_of g.P.LinePlayer c.args.player.now c.args.self.now) (record { alive = c.requires.alive; is = refl }) none

pub returns-clause-go : goal.returns-clause-go
returns-clause-go g c =
    let some : 0 < length c.args.self.now.pending.items = grind (arith, common_steps) in
    let short : length c.args.self.now.pending.items ≤ 65536 = grind (arith, common_steps) in
    let few : c.args.self.now.count < 1000000 = c.args.self.now.begun (grind (arith, common_steps)) in
    let old = g.P.LinePlayer.playing c.args.player.now in
    let new = c.play_line.new.self in
    on_both c.play_line.result (HasPlayed (g.P.LinePlayer.rules.does old.setting (c.args.self.now.count + 1) c.deref.result.now old.state) old (g.P.LinePlayer.playing new)) (g.P.LinePlayer.alive new)
    (Finishes g.P.LinePlayer.rules (stands g.P.LinePlayer new) (session_of g.P.LinePlayer c.args.player.now c.args.self.now) (g.P.LinePlayer.playing new).text)
    (λ did alive. finish_go g.P.LinePlayer.rules (stands g.P.LinePlayer new) (session_of g.P.LinePlayer c.args.player.now c.args.self.now) (g.P.LinePlayer.playing new) (record { alive = alive; is = refl }) some c.args.self.now.unended few short
    (subst (λ (l : List ℕ). HasPlayed (g.P.LinePlayer.rules.does old.setting (c.args.self.now.count + 1) l old.state) old (g.P.LinePlayer.playing new)) c.deref.ensures.value did))
    c.play_line.ensures.go c.play_line.ensures.alive

pub returns-clause-stop : goal.returns-clause-stop
returns-clause-stop g c =
    let some : 0 < length c.args.self.now.pending.items = grind (arith, common_steps) in
    let short : length c.args.self.now.pending.items ≤ 65536 = grind (arith, common_steps) in
    let few : c.args.self.now.count < 1000000 = c.args.self.now.begun (grind (arith, common_steps)) in
    let old = g.P.LinePlayer.playing c.args.player.now in
    let new = c.play_line.new.self in
    let text = (g.P.LinePlayer.playing new).text in
    let number = c.args.self.now.count + 1 in
    if_err c.play_line.result (λ end. HasStopped end (g.P.LinePlayer.rules.amid old.setting number c.deref.result.now) (stands g.P.LinePlayer new) (g.P.LinePlayer.broken new number c.deref.result.now)
    (g.P.LinePlayer.rules.does old.setting number c.deref.result.now old.state) old text)
    (λ end. EndsLast g.P.LinePlayer.rules (stands g.P.LinePlayer new) (g.P.LinePlayer.broken new) ⊥ end (session_of g.P.LinePlayer c.args.player.now c.args.self.now) text)
    (λ end did. finish_stop g.P.LinePlayer.rules (stands g.P.LinePlayer new) (g.P.LinePlayer.broken new) end (session_of g.P.LinePlayer c.args.player.now c.args.self.now) text some c.args.self.now.unended few short
    (subst (λ (l : List ℕ). HasStopped end (g.P.LinePlayer.rules.amid old.setting number l) (stands g.P.LinePlayer new) (g.P.LinePlayer.broken new number l) (g.P.LinePlayer.rules.does old.setting number l old.state) old text) c.deref.ensures.value did))
    c.play_line.ensures.stop
