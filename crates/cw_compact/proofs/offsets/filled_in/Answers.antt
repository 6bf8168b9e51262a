use Rattle.std.proofs.Common.{◌||◌, ◌∷◌, [], Bool, ap, ◌∙◌}
use Rattle.std.specs.List.{filter}
use Rattle.cw_offset.specs.Log.{has_records}
use Rattle.cw_offset.specs.Compaction.{is_filled}
use Rattle.cw_compact.proofs.Joined.{more}
use Rattle.cw_compact.proofs.FilledTags.{filled_more}
use Rattle.cw_compact.proofs.offsets.filled_in.Goals as goal

pub loop-entry-preserved : goal.loop-entry-preserved
loop-entry-preserved c = λ q.
    c.in_ok-note_filled.ensures q
    ∙ ap (λ (b : Bool). b || has_records q (filter is_filled (c.entry-item.result ∷ []))) (c.loop-entry.invariant q)
    ∙ filled_more q c.args.log.now c.loop-entry.entry-index c.entry-item.result (more c.args.log.now c.loop-entry.entry-index c.entry-item.result c.loop-entry-test.true c.entry-item.is)
