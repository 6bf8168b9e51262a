use Rattle.std.proofs.Common.{◌≡◌, List, ℕ, Result, Ok, Err, ap, subst, ◌∙◌}
use Rattle.cw_model.specs.declared.did.Did.{Did}
use Rattle.cw_model.specs.State.{Setting}
use Rattle.cw_sinktask.specs.declared.fault.SinkFault.{SinkFault}
use Rattle.cw_run.specs.Answers.{text_of}
use Rattle.cw_cluster.specs.declared.outcome.Outcome.TheVariants as came
use Rattle.cw_cluster.specs.Outcomes.{outcome_words}
use Rattle.cw_cluster.specs.Saying.{Says}
use Rattle.cw_cluster.specs.Stepping.{Steps}
use Rattle.cw_cluster.proofs.StepPlayed.{done-played, refused-played, cut-off-played, said-kept, cut-off-kept}
use Rattle.cw_cluster.proofs.stepping.play_step.Goals as goal

pub returns-in-Ok-clause-played : goal.returns-in-Ok-clause-played
returns-in-Ok-clause-played g c =
    let old = c.args.world.now in
    let new = c.step.new.world in
    let steps = subst (λ (r : Result Did SinkFault). Steps g.D.Disk g.U.Outlet c.args.i old new c.args.outlet.now c.step.new.outlet r) c.in-Ok.is c.step.ensures in
    let group : c.group_name.result.now ≡ old.setting.group = c.group_name.ensures ∙ ap (λ (s : Setting). s.group) (c.cluster.ensures.setting ∙ steps.world.setting) in
    done-played g.D.Disk g.U.Outlet c.args.i old new c.args.outlet.now c.step.new.outlet c.requires.alive (c.is_safe.ensures.holds c.requires.alive.alive) c.args.answers.now c.say.new.self c.say.result c.in-Ok.did steps
    (subst (λ (name : List ℕ). Says (text_of c.args.i (Ok (came.Step c.args.i c.in-Ok.did)) (outcome_words name)) c.args.answers.now c.say.new.self c.say.result) group c.say.ensures)

pub returns-in-Ok-clause-outlet : goal.returns-in-Ok-clause-outlet
returns-in-Ok-clause-outlet g c =
    said-kept g.D.Disk g.U.Outlet c.args.i c.args.world.now c.step.new.world c.args.outlet.now c.step.new.outlet c.args.i (Ok (came.Step c.args.i c.in-Ok.did)) (outcome_words c.group_name.result.now) c.args.answers.now c.say.new.self c.step.result c.say.result c.step.ensures c.say.ensures

pub returns-in-Err-World-clause-played : goal.returns-in-Err-World-clause-played
returns-in-Err-World-clause-played g c =
    let old = c.args.world.now in
    let new = c.step.new.world in
    let steps = subst (λ (r : Result Did SinkFault). Steps g.D.Disk g.U.Outlet c.args.i old new c.args.outlet.now c.step.new.outlet r) (c.in-Err-World.is ∙ ap Err c.in-Err-World.field-0-is) c.step.ensures in
    let group : c.group_name-in-Err-World.result.now ≡ old.setting.group = c.group_name-in-Err-World.ensures ∙ ap (λ (s : Setting). s.group) (c.cluster-in-Err-World.ensures.setting ∙ steps.world.setting) in
    refused-played g.D.Disk g.U.Outlet c.args.i old new c.args.outlet.now c.step.new.outlet c.requires.alive (c.is_safe.ensures.holds c.requires.alive.alive) c.args.answers.now c.say-in-Err-World.new.self c.say-in-Err-World.result c.in-Err-World.fault steps
    (subst (λ (name : List ℕ). Says (text_of c.args.i (Err c.in-Err-World.fault) (outcome_words name)) c.args.answers.now c.say-in-Err-World.new.self c.say-in-Err-World.result) group c.say-in-Err-World.ensures)

pub returns-in-Err-World-clause-outlet : goal.returns-in-Err-World-clause-outlet
returns-in-Err-World-clause-outlet g c =
    said-kept g.D.Disk g.U.Outlet c.args.i c.args.world.now c.step.new.world c.args.outlet.now c.step.new.outlet c.args.i (Err c.in-Err-World.fault) (outcome_words c.group_name-in-Err-World.result.now) c.args.answers.now c.say-in-Err-World.new.self c.step.result c.say-in-Err-World.result c.step.ensures c.say-in-Err-World.ensures

pub returns-in-Err-Outlet-clause-played : goal.returns-in-Err-Outlet-clause-played
returns-in-Err-Outlet-clause-played g c =
    cut-off-played g.D.Disk g.U.Outlet c.args.i c.args.world.now c.step.new.world c.args.outlet.now c.step.new.outlet c.requires.alive c.args.answers.now
    (subst (λ (r : Result Did SinkFault). Steps g.D.Disk g.U.Outlet c.args.i c.args.world.now c.step.new.world c.args.outlet.now c.step.new.outlet r) (c.in-Err-Outlet.is ∙ ap Err c.in-Err-Outlet.field-0-is) c.step.ensures)

pub returns-in-Err-Outlet-clause-outlet : goal.returns-in-Err-Outlet-clause-outlet
returns-in-Err-Outlet-clause-outlet g c =
    cut-off-kept g.D.Disk g.U.Outlet c.args.i c.args.world.now c.step.new.world c.args.outlet.now c.step.new.outlet
    (subst (λ (r : Result Did SinkFault). Steps g.D.Disk g.U.Outlet c.args.i c.args.world.now c.step.new.world c.args.outlet.now c.step.new.outlet r) (c.in-Err-Outlet.is ∙ ap Err c.in-Err-Outlet.field-0-is) c.step.ensures)
