use Rattle.std.proofs.Common.{ℕ, List, length, ap, subst, ◌∙◌, arith}
use Rattle.std.proofs.lemmas.Result.{err_from_is_err_and}
use Rattle.cw_lines.specs.Players.{Playing}
use Rattle.cw_script.specs.Lines.{line_of}
use Rattle.cw_model.specs.State.{Setting}
use Rattle.cw_run.specs.Ran.{Ran}
use Rattle.cw_run.specs.Run.{play_line}
use Rattle.cw_gen.specs.Playing.{EndsSo, HasPlayed}
use Rattle.cw_gen.specs.Scripts.{one_if, says_fenced}
use Rattle.cw_gen.proofs.Turned.{forgotten-so}
use Rattle.cw_gen.proofs.making.act.Goals as goal

pub play-requires-clause-short : goal.play-requires-clause-short
play-requires-clause-short g c =
    omega (arith, ap length (c.as_slice.ensures.value ∙ c.in_ok-line.ensures), c.requires.playable.short)

pub play-requires-clause-says : goal.play-requires-clause-says
play-requires-clause-says g c =
    let d = c.args.directive.now in
    let playable = c.requires.playable in
    (d, ap line_of (c.as_slice.ensures.value ∙ c.in_ok-line.ensures) ∙ c.lines_are_directives.ensures.again d playable.sayable, playable.there)

pub returns-clause-played : goal.returns-clause-played
returns-clause-played g c =
    let old = c.args.player.now.running.world in
    let mid = c.play.new.player.running.world in
    let played = subst (λ (line : List ℕ). HasPlayed g.D.Disk (play_line old.setting c.args.number line old.state) old mid c.play.new.player.answers)
    (c.as_slice.ensures.value ∙ c.in_ok-line.ensures) c.in_ok-play.ensures.played in (
      c.play.new.player.answers,
      forgotten-so g.D.Disk _ old mid c.forget.new.self.running.world c.play.new.player.answers played
          (ap (λ (p : Playing Setting Ran). p.setting) c.forget.ensures.playing) (ap (λ (p : Playing Setting Ran). p.state.cluster) c.forget.ensures.playing)
          (ap (λ (p : Playing Setting Ran). p.state.tells) c.forget.ensures.playing) (c.forget.ensures.alive played.alive),
      c.in_ok-fenced.ensures ∙ ap (λ (t : List ℕ). one_if (says_fenced c.args.directive.now t)) c.answers.ensures,
    )

pub returns-in_err-play-clause-ends : goal.returns-in_err-play-clause-ends
returns-in_err-play-clause-ends g c =
    let old = c.args.player.now.running.world in
    let p = err_from_is_err_and c.from_residual-in_err-play.result c.from_residual-in_err-play.ensures.1 in
    rw (p.1, p.2)
    (subst (λ (line : List ℕ). EndsSo (play_line old.setting c.args.number line old.state) c.in_err-play.field-0.0)
    (c.as_slice.ensures.value ∙ c.in_ok-line.ensures) c.in_err-play.ensures.ends)
