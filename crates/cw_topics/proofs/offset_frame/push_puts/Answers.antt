use Rattle.std.proofs.Common.{◌++◌, ◌∷◌, [], List, take, ap, ◌∙◌}
use Rattle.std.specs.List.{filter_map}
use Rattle.cw_bytes.specs.declared.applied.Applied.{Applied}
use Rattle.cw_offset.specs.declared.call.OffsetCall.{OffsetCall}
use Rattle.cw_offset.specs.Replay.{put_in}
use Rattle.cw_topics.proofs.Told.{puts-more}
use Rattle.cw_topics.proofs.offset_frame.push_puts.Goals as goal

pub loop-record-preserved : goal.loop-record-preserved
loop-record-preserved c = c.in_ok-push_put.ensures ∙
    ap (λ (l : List OffsetCall). l ++ filter_map (put_in c.args.tag.now) (c.record-item.result ∷ [])) c.loop-record.invariant ∙
    ap (λ (r : Applied). (c.args.calls.now.items ++ filter_map (put_in c.args.tag.now) (take c.loop-record.record-index c.args.records.now)) ++ filter_map (put_in c.args.tag.now) (r ∷ [])) c.record-item.is ∙
    puts-more c.args.tag.now c.args.calls.now.items c.args.records.now c.loop-record.record-index c.record-item.result c.loop-record-test.true
