use Rattle.std.proofs.Common.{ap, ◌∙◌}
use Rattle.cw_topics.specs.Offsets.{OffsetLogState}
use Rattle.cw_txn.specs.Legal.{verdict_of}
use Rattle.cw_offset.specs.Log.{first_unmarked}
use Rattle.cw_topics.proofs.Told.{first-told}
use Rattle.cw_topics.proofs.offset_log.OffsetLog.first_unmarked.Goals as goal

pub returns : goal.returns
returns c = c.first_unmarked.ensures ∙ first-told (verdict_of c.args.txn.now.entries) c.self.inside.frames c.self.inside.state.calls c.self.invariant.told ∙
    ap (λ (l : OffsetLogState). first_unmarked (verdict_of c.args.txn.now.entries) l.frames) c.self.view_is
