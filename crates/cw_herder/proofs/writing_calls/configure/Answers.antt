use Rattle.std.proofs.Common.{◌≡◌, ◌∙◌, ℕ, true, List, Some, inl, ap, sym, subst}
use Rattle.std.specs.List.{AllByRecursion}
use Rattle.cw_types.specs.Name.{IsName}
use Rattle.cw_types.specs.declared.logs.LogName.{LogName}
use Rattle.cw_io.specs.Shelf.{names_of}
use Rattle.cw_rest.specs.Calls.{Deed, is_reading}
use Rattle.cw_rest.specs.Replies.{values_of}
use Rattle.cw_model.specs.State.{Setting}
use Rattle.cw_model.specs.EventsLeading.{MayAppendConfig}
use Rattle.cw_edges.specs.Requests.{seen_now, answers}
use Rattle.cw_ops.specs.Answering.{AreAnswers}
use Rattle.cw_herder.specs.Submits.{configs_op}
use Rattle.cw_herder.proofs.Asking.{sees-all}
use Rattle.cw_herder.proofs.Called.{configs-op, configs-op-write, configs-op-log}
use Rattle.cw_herder.proofs.Named.{succeeds-named}
use Rattle.cw_herder.proofs.Replied.{wanting}
use Rattle.cw_herder.proofs.writing_calls.configure.Goals as goal

pub make-requires-clause-asked : goal.make-requires-clause-asked
make-requires-clause-asked g c =
    let setting = c.args.world.now.setting in
    let s = c.args.world.now.state in
    let call = c.args.call.now in
    let names : c.names.result.now ≡ names_of setting.feeds =
    c.names.ensures.names ∙ ap names_of c.feeds.ensures ∙ ap (λ (x : Setting). names_of x.feeds) c.cluster.ensures.setting in
    let feeds : AllByRecursion IsName (names_of setting.feeds) =
    subst (λ (those : List (List ℕ)). AllByRecursion IsName those) names c.feeds_are_named.ensures in
    let sees = sees-all setting c.args.w call s c.requires.alive c.requires.live (ap (λ (d : Deed). is_reading d) c.requires.deed) in
    let may : MayAppendConfig c.args.leader (values_of call) s =
    c.calls_write_what_may_be_written.ensures.configs setting s c.args.w c.args.leader true (seen_now setting c.args.w call s) call
    c.is_safe.ensures.facts c.requires.through c.is_of_name.ensures feeds sees c.requires.deed c.requires.answers.succeeds in
    let is : configs_op call ≡ Some c.in-Ok-Some.op =
    sym (c.in-Ok-Some.ensures (succeeds-named true (seen_now setting c.args.w call s) call c.requires.answers.succeeds)) ∙ c.in-Ok-Some.field-0-is in
    configs-op setting c.args.w call s c.requires.alive c.requires.live c.args.leader c.requires.through c.requires.answers.succeeds c.requires.deed
    may c.in-Ok-Some.op is

pub make-requires-clause-answers : goal.make-requires-clause-answers
make-requires-clause-answers g c =
    let setting = c.args.world.now.setting in
    let s = c.args.world.now.state in
    let call = c.args.call.now in
    let is : configs_op call ≡ Some c.in-Ok-Some.op =
    sym (c.in-Ok-Some.ensures (succeeds-named true (seen_now setting c.args.w call s) call c.requires.answers.succeeds)) ∙ c.in-Ok-Some.field-0-is in
    subst (λ (log : LogName). AreAnswers setting c.args.w call log s c.args.answers) (sym (configs-op-log call c.in-Ok-Some.op is)) c.requires.answers

pub make-requires-clause-writes : goal.make-requires-clause-writes
make-requires-clause-writes g c =
    let setting = c.args.world.now.setting in
    let s = c.args.world.now.state in
    let call = c.args.call.now in
    let is : configs_op call ≡ Some c.in-Ok-Some.op =
    sym (c.in-Ok-Some.ensures (succeeds-named true (seen_now setting c.args.w call s) call c.requires.answers.succeeds)) ∙ c.in-Ok-Some.field-0-is in
    configs-op-write call c.args.leader s c.in-Ok-Some.op is

pub returns-in-Err : goal.returns-in-Err
returns-in-Err g c = inl (wanting g.D.Disk (answers c.args.world.now.setting c.args.w c.args.call.now) c.args.world.now)
