use Rattle.std.proofs.Common.{◌≡◌, ◌++◌, ◌∷◌, get_or, subst}
use Rattle.cw_data.specs.declared.entry.DataEntry.{DataEntry}
use Rattle.cw_data.specs.declared.entry.DataEntry.TheVariants.{Batch as InBatch, Mark}
use Rattle.cw_data.specs.Tables.{HasRoom}
use Rattle.cw_data.proofs.Places.{ends_with, drop_last, one_last}
use Rattle.cw_data.proofs.tables.Tables.add.Goals as goal

pub add_batch-requires : goal.add_batch-requires
add_batch-requires c =
    let there = subst (λ (e : DataEntry). e ≡ get_or c.args.entries.now c.args.place e) c.in-Batch.is c.index-entries-place.is in
    record {
      last = ends_with c.args.entries.now c.args.place (InBatch c.in-Batch.batch) c.requires.last there;
      kept = c.requires.kept;
      has = subst (HasRoom c.args.self.now) (drop_last c.args.entries.now c.args.place (InBatch c.in-Batch.batch) c.requires.last there) c.requires.has;
      fits = c.requires.fits (InBatch c.in-Batch.batch) (ends_with c.args.entries.now c.args.place (InBatch c.in-Batch.batch) c.requires.last there);
    }

pub returns-in-Batch-clause-has : goal.returns-in-Batch-clause-has
returns-in-Batch-clause-has c entry front back ends was =
    let there = subst (λ (e : DataEntry). e ≡ get_or c.args.entries.now c.args.place e) c.in-Batch.is c.index-entries-place.is in
    c.add_batch.ensures.has front back (subst (λ (e : DataEntry). HasRoom c.args.self.now (front ++ e ∷ back))
    (one_last c.args.entries.now c.args.place entry (InBatch c.in-Batch.batch) ends (ends_with c.args.entries.now c.args.place (InBatch c.in-Batch.batch) c.requires.last there)) was)

pub add_mark-requires : goal.add_mark-requires
add_mark-requires c =
    let there = subst (λ (e : DataEntry). e ≡ get_or c.args.entries.now c.args.place e) c.in-Mark.is c.index-entries-place.is in
    record {
      last = ends_with c.args.entries.now c.args.place (Mark c.in-Mark.tag c.in-Mark.committed) c.requires.last there;
      kept = c.requires.kept;
      has = subst (HasRoom c.args.self.now) (drop_last c.args.entries.now c.args.place (Mark c.in-Mark.tag c.in-Mark.committed) c.requires.last there) c.requires.has;
    }

pub returns-in-Mark-clause-has : goal.returns-in-Mark-clause-has
returns-in-Mark-clause-has c entry front back ends was =
    let there = subst (λ (e : DataEntry). e ≡ get_or c.args.entries.now c.args.place e) c.in-Mark.is c.index-entries-place.is in
    c.add_mark.ensures.has front back (subst (λ (e : DataEntry). HasRoom c.args.self.now (front ++ e ∷ back))
    (one_last c.args.entries.now c.args.place entry (Mark c.in-Mark.tag c.in-Mark.committed) ends (ends_with c.args.entries.now c.args.place (Mark c.in-Mark.tag c.in-Mark.committed) c.requires.last there)) was)
