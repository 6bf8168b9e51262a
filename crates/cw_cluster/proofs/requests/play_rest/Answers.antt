use Rattle.std.proofs.Common.{◌≡◌, inl, inr, ⊎_elim, ◌++◌, ℕ, List, [], Result, Ok, Err, refl, sym, ap, subst, ◌∙◌}
use Rattle.std.proofs.lemmas.List.{append-nil}
use Rattle.cw_route.specs.declared.reply.Reply.{Reply}
use Rattle.cw_model.specs.declared.fault.WorldFault.{WorldFault}
use Rattle.cw_model.specs.State.{Setting}
use Rattle.cw_edges.specs.Requests.{call_of}
use Rattle.cw_herder.specs.Submits.{Submits}
use Rattle.cw_run.specs.Answers.{text_of}
use Rattle.cw_run.specs.Flight.{failed_line}
use Rattle.cw_cluster.specs.declared.outcome.Outcome.TheVariants as came
use Rattle.cw_cluster.specs.Outcomes.{outcome_words}
use Rattle.cw_cluster.specs.Saying.{Says}
use Rattle.cw_cluster.proofs.Requested.{submits-failed, submits-played, submits-setting}
use Rattle.cw_cluster.proofs.StepPlayed.{not-outlet}
use Rattle.cw_cluster.proofs.requests.play_rest.Goals as goal

pub returns-in-Ok-clause-played : goal.returns-in-Ok-clause-played
returns-in-Ok-clause-played g c files =
    let old = c.args.world.now in
    let new = c.ask.new.world in
    let submits = subst (λ (r : Result Reply WorldFault). Submits g.D.Disk c.args.worker (call_of c.args.method.now c.args.target.now c.args.body.now) old new r) c.in-Ok.is c.ask.ensures in
    let group : c.group_name.result.now ≡ old.setting.group =
    c.group_name.ensures ∙ ap (λ (s : Setting). s.group) (c.cluster.ensures.setting ∙ submits-setting g.D.Disk c.args.worker (call_of c.args.method.now c.args.target.now c.args.body.now) old new (Ok c.in-Ok.reply) submits) in
    submits-played g.D.Disk c.args.worker c.args.method.now c.args.target.now c.args.body.now old new files c.requires.alive (c.is_safe.ensures.holds c.requires.alive.alive) (Ok c.in-Ok.reply)
    c.args.answers.now c.say.new.self c.say.result submits
    (subst (λ (name : List ℕ). Says (text_of c.args.worker (Ok (came.Replied c.in-Ok.reply)) (outcome_words name)) c.args.answers.now c.say.new.self c.say.result) group c.say.ensures)

pub returns-in-Err-StoreFault-clause-played : goal.returns-in-Err-StoreFault-clause-played
returns-in-Err-StoreFault-clause-played g c files =
    let failed = λ (after said : List ℕ). submits-failed g.D.Disk c.args.worker c.args.method.now c.args.target.now c.args.body.now c.args.world.now c.ask.new.world files c.requires.alive
    (c.is_safe.ensures.holds c.requires.alive.alive) c.ask.result c.in-Err-StoreFault.disk c.in-Err-StoreFault.count (c.in-Err-StoreFault.is ∙ ap Err c.in-Err-StoreFault.field-0-is) c.args.answers.now after said in
    ⊎_elim
    (λ (none : c.say_failed.new.answers ≡ c.args.answers.now). failed c.say_failed.new.answers [] (none ∙ sym (append-nil c.args.answers.now)) (inl refl) c.ask.ensures)
    (λ (some : c.say_failed.new.answers ≡ c.args.answers.now ++ failed_line). failed c.say_failed.new.answers failed_line some (inr refl) c.ask.ensures)
    c.say_failed.ensures

pub returns-in-Err-clause-played : goal.returns-in-Err-clause-played
returns-in-Err-clause-played g c files =
    let old = c.args.world.now in
    let new = c.ask.new.world in
    let submits = subst (λ (r : Result Reply WorldFault). Submits g.D.Disk c.args.worker (call_of c.args.method.now c.args.target.now c.args.body.now) old new r) c.in-Err.is c.ask.ensures in
    let group : c.group_name-in-Err.result.now ≡ old.setting.group =
    c.group_name-in-Err.ensures ∙ ap (λ (s : Setting). s.group) (c.cluster-in-Err.ensures.setting ∙ submits-setting g.D.Disk c.args.worker (call_of c.args.method.now c.args.target.now c.args.body.now) old new (Err c.in-Err.fault) submits) in
    submits-played g.D.Disk c.args.worker c.args.method.now c.args.target.now c.args.body.now old new files c.requires.alive (c.is_safe.ensures.holds c.requires.alive.alive) (Err c.in-Err.fault)
    c.args.answers.now c.say-in-Err.new.self c.say-in-Err.result submits
    (subst (λ (name : List ℕ). Says (text_of c.args.worker (Err c.in-Err.fault) (outcome_words name)) c.args.answers.now c.say-in-Err.new.self c.say-in-Err.result) group c.say-in-Err.ensures)

pub returns-in-Ok-clause-outlet : goal.returns-in-Ok-clause-outlet
returns-in-Ok-clause-outlet g c =
    not-outlet c.args.worker (Ok (came.Replied c.in-Ok.reply)) (outcome_words c.group_name.result.now) c.args.answers.now c.say.new.self c.say.result c.say.ensures

pub returns-in-Err-StoreFault-clause-outlet : goal.returns-in-Err-StoreFault-clause-outlet
returns-in-Err-StoreFault-clause-outlet g c = λ is. cc

pub returns-in-Err-clause-outlet : goal.returns-in-Err-clause-outlet
returns-in-Err-clause-outlet g c =
    not-outlet c.args.worker (Err c.in-Err.fault) (outcome_words c.group_name-in-Err.result.now) c.args.answers.now c.say-in-Err.new.self c.say-in-Err.result c.say-in-Err.ensures
