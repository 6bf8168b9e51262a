use Rattle.std.proofs.Common.{ℕ, ◌+◌, max, take, List, sym, ap, subst, ◌∙◌, arith}
use Rattle.cw_bytes.specs.declared.applied.Applied.{Applied}
use Rattle.cw_topics.specs.Offsets.{IsNext, raised}
use Rattle.cw_topics.proofs.Told.{raised-more, take-none, take-past}
use Rattle.cw_topics.proofs.offset_log.raised.Goals as goal

pub loop-record-preserved : goal.loop-record-preserved
loop-record-preserved c n is =
    subst (λ (m : ℕ). IsNext m c.above-end.result)
    (ap (λ (r : Applied). max (raised n (take c.loop-record.record-index c.args.records.now)) (r.offset + 1)) c.record-item.is ∙
    sym (raised-more n c.args.records.now c.loop-record.record-index c.record-item.result c.loop-record-test.true))
    (c.above-end.ensures (raised n (take c.loop-record.record-index c.args.records.now)) (c.loop-record.invariant n is))

pub loop-record-init : goal.loop-record-init
loop-record-init c n is = subst (λ (l : List Applied). IsNext (raised n l) c.args.next) (sym (take-none c.args.records.now)) is

pub returns : goal.returns
returns c n is = subst (λ (l : List Applied). IsNext (raised n l) c.loop-record.end) (take-past c.args.records.now c.loop-record.record-index (omega arith)) (c.loop-record.invariant n is)
