use Rattle.std.proofs.Common.{◌≡◌, ℕ, List, refl, ap, subst, ◌∙◌, sym}
use Rattle.cw_model.specs.State.{Setting}
use Rattle.cw_run.specs.Answers.{text_of}
use Rattle.cw_cluster.specs.Breaking.{ran_with}
use Rattle.cw_cluster.specs.Outcomes.{outcome_words}
use Rattle.cw_cluster.specs.Saying.{Says}
use Rattle.cw_cluster.proofs.EventLives.{event-lives}
use Rattle.cw_cluster.proofs.Played.{is-played, plain-files, plain-unsettling}
use Rattle.cw_cluster.proofs.StepPlayed.{not-outlet}
use Rattle.cw_cluster.proofs.directives.play.Goals as goal

pub returns-clause-played : goal.returns-clause-played
returns-clause-played g c files =
    let d = c.args.directive.now in
    let old = c.args.world.now in
    let un = plain-unsettling d c.requires.plain in
    let group : c.group_name.result.now ≡ old.setting.group =
    c.group_name.ensures ∙ ap (λ (s : Setting). s.group) (c.cluster.ensures.setting ∙ c.act-done.ensures.setting) in
    is-played g.D.Disk d old c.act-done.new.world files files c.act-done.result un c.requires.alive (c.is_safe.ensures.holds c.requires.alive.alive)
    (event-lives old.setting d old.state un c.requires.alive.alive) c.act-done.ensures
    (λ row. sym (plain-files old.setting (ran_with g.D.Disk old files) d c.requires.plain)) (λ why is. refl)
    c.args.answers.now c.say.new.self c.say.result
    (subst (λ (n : ℕ). Says (text_of n c.act-done.result (outcome_words old.setting.group)) c.args.answers.now c.say.new.self c.say.result) c.subject_of.ensures
    (subst (λ (name : List ℕ). Says (text_of c.subject_of.result c.act-done.result (outcome_words name)) c.args.answers.now c.say.new.self c.say.result) group c.say.ensures))

pub returns-clause-outlet : goal.returns-clause-outlet
returns-clause-outlet g c = not-outlet c.subject_of.result c.act-done.result (outcome_words c.group_name.result.now) c.args.answers.now c.say.new.self c.say.result c.say.ensures
