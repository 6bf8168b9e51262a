use Rattle.std.proofs.Common.{◌≡◌, true, ap, sym, subst, ◌∙◌}
use Rattle.cw_data.specs.Body.{entry_bytes}
use Rattle.cw_data.specs.declared.entry.DataEntry.{DataEntry}
use Rattle.cw_data.specs.declared.entry.DataEntry.TheVariants.{Batch as InBatch}
use Rattle.cw_model.specs.Bodies.{data_length, frame_of, has_room}
use Rattle.cw_rows.specs.Kept.{Kept}
use Rattle.cw_rows.proofs.DataDue.{puts-produce, state-produced}
use Rattle.cw_rows.proofs.cluster.Cluster.put_produce.Goals as goal

pub returns : goal.returns
returns c =
    let entry = InBatch c.in-Batch.batch in
    let inside = c.self.inside in
    puts-produce c.args.i c.args.cut entry c.args.self.now _ (sym c.in-Batch.is ∙ c.into_entry.ensures ∙ c.requires.frame) c.requires.passed
    (ap (λ (k : Kept). k.setting) c.self.view_is)
    (subst (λ (e : DataEntry). has_room (data_length c.args.self.now.state) (frame_of (entry_bytes e)) ≡ true) (sym c.into_entry.ensures ∙ c.in-Batch.is) c.requires.room)
    (state-produced inside.topics c.put_batch.new.self inside.crew c.take.new.self
    inside.circle inside.journal.items inside.closed entry _ c.args.i c.args.cut c.args.self.now.state (ap (λ (k : Kept). k.state) c.self.view_is)
    c.put_batch.ensures c.take.ensures)
