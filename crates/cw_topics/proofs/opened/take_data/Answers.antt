use Rattle.std.proofs.Common.{◌<◌, ◌^◌, ◌++◌, ◌∷◌, [], map, subst}
use Rattle.cw_data.specs.Body.{entry_bytes}
use Rattle.cw_data.specs.declared.entry.DataEntry.{DataEntry}
use Rattle.cw_log.specs.Log.{length_of}
use Rattle.cw_topics.proofs.Taking.{records-countable}
use Rattle.cw_topics.proofs.opened.take_data.Goals as goal

pub take_batch-requires-clause-fits : goal.take_batch-requires-clause-fits
take_batch-requires-clause-fits c = records-countable c.in-Batch.batch c.args.data.now.entries
    (subst (λ (e : DataEntry). length_of (map entry_bytes (c.args.data.now.entries ++ e ∷ [])) < 2 ^ 64) c.in-Batch.is c.requires.fits)
