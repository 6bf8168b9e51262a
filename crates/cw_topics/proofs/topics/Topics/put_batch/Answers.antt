use Rattle.std.proofs.Common.{◌≡◌, true, map, sym, subst}
use Rattle.cw_data.specs.Body.{entry_bytes}
use Rattle.cw_data.specs.declared.entry.DataEntry.TheVariants.{Batch as InBatch}
use Rattle.cw_log.specs.Log.{length_of}
use Rattle.cw_model.specs.Bodies.{frame_of, has_room}
use Rattle.cw_topics.specs.Topics.{TopicsState}
use Rattle.cw_topics.proofs.Counts.{records-fit}
use Rattle.cw_topics.proofs.topics.Topics.put_batch.Goals as goal

pub batch-requires : goal.batch-requires
batch-requires c = records-fit c.args.batch c.self.inside.data.entries
    (subst (λ (t : TopicsState). has_room (length_of (map entry_bytes t.batches.entries)) (frame_of (entry_bytes (InBatch c.args.batch))) ≡ true)
    (sym c.self.view_is) c.requires.room)
