use Rattle.std.proofs.Common.{◌≡◌, ◌∙◌, List, take, is_some, is_none, refl, sym, ap, subst, arith}
use Rattle.cw_data.specs.declared.entry.DataEntry.{DataEntry}
use Rattle.cw_data.specs.declared.entry.DataEntry.TheVariants.{Batch as InBatch}
use Rattle.cw_data.specs.Log.{marker_of}
use Rattle.cw_data.specs.Tables.{marks_in}
use Rattle.cw_data.specs.Unmarked.{KeepsPlaces}
use Rattle.cw_data.proofs.Places.{room_behind, rows_kept, none_is, marker_of-batch}
use Rattle.cw_data.proofs.tables.Tables.add_batch.Goals as goal

pub add_to-requires-clause-has : goal.add_to-requires-clause-has
add_to-requires-clause-has c = c.requires.has.rows (InBatch c.args.batch.now) (0, omega arith, refl)

pub returns-clause-kept : goal.returns-clause-kept
returns-clause-kept c =
    let waits : c.is_none-waits.result ≡ is_none (marks_in c.args.self.now.marks c.args.batch.now.tag) =
    none_is (marks_in c.args.self.now.marks c.args.batch.now.tag) c.is_none-waits.result (sym (ap is_some c.marker.ensures) ∙ c.is_none-waits.ensures) in
    record {
      marks = λ tag. c.requires.kept.marks tag ∙ sym (ap (marker_of tag) c.requires.last.last ∙ marker_of-batch tag (take c.args.place c.args.entries.now) c.args.batch.now);
      unmarked = subst (λ (l : List DataEntry). KeepsPlaces (marks_in c.args.self.now.marks) l c.add_batch.new.self) (sym c.requires.last.last)
          (c.add_batch.ensures.kept (marks_in c.args.self.now.marks) (take c.args.place c.args.entries.now) waits c.requires.kept.unmarked);
      topics = c.add_to.ensures.topics;
    }

pub returns-clause-has : goal.returns-clause-has
returns-clause-has c front back was =
    room_behind c.args.self.now (record { marks = c.args.self.now.marks; unmarked = c.add_batch.new.self; topics = c.add_to.new.topics }) (InBatch c.args.batch.now)
    (rows_kept c.args.self.now (record { marks = c.args.self.now.marks; unmarked = c.add_batch.new.self; topics = c.add_to.new.topics }) c.add_to.ensures.rows (λ q had. had))
    c.add_batch.ensures.has c.add_to.ensures.room front back was
