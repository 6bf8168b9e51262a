use Rattle.std.proofs.Common.{◌≡◌, ◌∙◌, Some, inl, sym, ap}
use Rattle.cw_types.specs.declared.logs.LogName.TheVariants.{Txn}
use Rattle.cw_model.specs.Ready.{ready}
use Rattle.cw_edges.specs.Requests.{answers, reply_now}
use Rattle.cw_ops.specs.Answering.{IsRefused}
use Rattle.cw_herder.proofs.Asking.{offsets-fail}
use Rattle.cw_herder.proofs.Replied.{unmoved, wanting, refused-over, replied}
use Rattle.cw_herder.proofs.writing_calls.write_offsets.Goals as goal

pub returns-in-Ok-Refused : goal.returns-in-Ok-Refused
returns-in-Ok-Refused g c =
    let old = c.args.world.now in
    let call = c.args.call.now in
    let through : ready c.args.w old.state ≡ Some c.in-Some.leader =
    sym (c.ready.ensures ∙ ap (ready c.args.w) c.cluster.ensures.state) ∙ c.in-Some.is in
    let is : IsRefused old.setting c.args.w call old.state c.in-Ok-Refused.reply =
    refused-over c.args.w call Txn c.cluster-2.result.now.setting old.setting c.cluster-2.result.now.state old.state
    c.cluster-2.ensures.setting c.cluster-2.ensures.state c.in-Ok-Refused.field-0 c.in-Ok-Refused.reply c.in-Ok-Refused.field-0-is
    c.in-Ok-Refused.ensures in
    inl (unmoved g.D.Disk (answers old.setting c.args.w call) old c.in-Ok-Refused.reply
    (offsets-fail old.setting c.args.w call old.state c.requires.alive c.requires.live c.requires.deed c.in-Some.leader through is.fails
    ∙ replied c.in-Ok-Refused.reply (reply_now old.setting c.args.w call old.state) old.state is.is))

pub returns-in-Err : goal.returns-in-Err
returns-in-Err g c = inl (wanting g.D.Disk (answers c.args.world.now.setting c.args.w c.args.call.now) c.args.world.now)
