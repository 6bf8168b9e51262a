use Rattle.std.proofs.Common.{true, inl, refl, ap, sym, subst}
use Rattle.cw_rest.specs.Calls.{Deed, is_reading}
use Rattle.cw_rest.specs.Replies.{offsets_of, connector_set}
use Rattle.cw_reply.specs.View.{seen_in}
use Rattle.cw_model.specs.EventsLeading.{MaySetOffsets}
use Rattle.cw_edges.specs.Requests.{seen_now, answers}
use Rattle.cw_ops.specs.Answering.{AreAnswers}
use Rattle.cw_herder.specs.declared.op.Op.{Op}
use Rattle.cw_herder.specs.Operations.{op_event}
use Rattle.cw_herder.specs.Submits.{IsOpOf, IsWriteTo, log_of}
use Rattle.cw_herder.proofs.Asking.{sees-all}
use Rattle.cw_herder.proofs.Called.{offsets-op, offsets-op-write, given-offsets}
use Rattle.cw_herder.proofs.Replied.{wanting}
use Rattle.cw_herder.proofs.writing_calls.set_offsets.Goals as goal

pub make-requires-clause-asked : goal.make-requires-clause-asked
make-requires-clause-asked g c =
    let setting = c.args.world.now.setting in
    let s = c.args.world.now.state in
    let call = c.args.call.now in
    let sees = sees-all setting c.args.w call s c.requires.alive c.requires.live (ap (λ (d : Deed). is_reading d) c.requires.deed) in
    let may : MaySetOffsets c.args.leader (connector_set call) (offsets_of (seen_now setting c.args.w call s) call) s =
    c.calls_write_what_may_be_written.ensures.offsets setting s c.args.w c.args.leader true (seen_now setting c.args.w call s) call
    c.is_safe.ensures.facts c.requires.through sees refl c.requires.deed c.requires.answers.succeeds in
    subst (λ (x : Op). IsOpOf setting c.args.w call c.args.leader x s)
    (sym (given-offsets c.in-Ok.op c.args.name.now (seen_in c.seen_now-seen.result) call c.cluster.result.now.setting setting c.args.w c.cluster.result.now.state s
    c.in-Ok.ensures c.requires.name c.seen_now-seen.ensures.seen c.cluster.ensures.setting c.cluster.ensures.state))
    (offsets-op setting c.args.w call s c.requires.alive c.requires.live c.args.leader c.requires.through c.requires.answers.succeeds c.requires.deed may)

pub make-requires-clause-answers : goal.make-requires-clause-answers
make-requires-clause-answers g c =
    let setting = c.args.world.now.setting in
    let s = c.args.world.now.state in
    let call = c.args.call.now in
    subst (λ (x : Op). AreAnswers setting c.args.w call (log_of x) s c.args.answers)
    (sym (given-offsets c.in-Ok.op c.args.name.now (seen_in c.seen_now-seen.result) call c.cluster.result.now.setting setting c.args.w c.cluster.result.now.state s
    c.in-Ok.ensures c.requires.name c.seen_now-seen.ensures.seen c.cluster.ensures.setting c.cluster.ensures.state))
    c.requires.answers

pub make-requires-clause-writes : goal.make-requires-clause-writes
make-requires-clause-writes g c =
    let setting = c.args.world.now.setting in
    let s = c.args.world.now.state in
    let call = c.args.call.now in
    subst (λ (x : Op). IsWriteTo (log_of x) (op_event c.args.leader x s) s)
    (sym (given-offsets c.in-Ok.op c.args.name.now (seen_in c.seen_now-seen.result) call c.cluster.result.now.setting setting c.args.w c.cluster.result.now.state s
    c.in-Ok.ensures c.requires.name c.seen_now-seen.ensures.seen c.cluster.ensures.setting c.cluster.ensures.state))
    (offsets-op-write c.args.leader (connector_set call) (offsets_of (seen_now setting c.args.w call s) call) s)

pub returns-in-Err : goal.returns-in-Err
returns-in-Err g c = inl (wanting g.D.Disk (answers c.args.world.now.setting c.args.w c.args.call.now) c.args.world.now)
