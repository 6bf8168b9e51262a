use Rattle.std.proofs.Common.{◌≡◌, ◌∙◌, ℕ, ◌+◌, List, take, refl, sym, ap, subst, arith}
use Rattle.std.specs.Option.{option_or}
use Rattle.std.specs.BTreeMap.{get}
use Rattle.cw_data.specs.declared.entry.DataEntry.{DataEntry}
use Rattle.cw_data.specs.declared.entry.DataEntry.TheVariants.{Mark}
use Rattle.cw_data.specs.Log.{marker_of, mark_in}
use Rattle.cw_data.specs.Rows.{WaitsAt}
use Rattle.cw_data.specs.Tables.{marks_in, name_order, NextAt, RoomAt}
use Rattle.cw_data.specs.Unmarked.{places_at, KeepsPlaces}
use Rattle.cw_data.proofs.Waiting.{waits_stay, waits_from_topic}
use Rattle.cw_data.proofs.Waits.{falls_by, first_before}
use Rattle.cw_data.proofs.Places.{room_behind, rows_kept, next_behind, stays_marked, marker_of-push}
use Rattle.cw_data.proofs.tables.Tables.add_mark.Goals as goal

pub mark-requires : goal.mark-requires
mark-requires c = c.requires.has.rows (Mark c.args.tag.now c.args.committed) (0, omega arith, refl)

pub advance_all-requires-clause-waits : goal.advance_all-requires-clause-waits
advance_all-requires-clause-waits c name =
    subst (λ (l : List DataEntry). WaitsAt (marks_in c.mark.new.marks) l name (get name_order c.args.self.now.topics name)) (sym c.requires.last.last)
    (waits_stay (marks_in c.args.self.now.marks) (marks_in c.mark.new.marks) (stays_marked (marks_in c.args.self.now.marks) c.args.tag.now c.args.committed (marks_in c.mark.new.marks) c.mark.ensures.marked)
    (take c.args.place c.args.entries.now) (Mark c.args.tag.now c.args.committed) name (get name_order c.args.self.now.topics name) refl
    (waits_from_topic (marks_in c.args.self.now.marks) (take c.args.place c.args.entries.now) name (get name_order c.args.self.now.topics name) (c.requires.kept.topics name)))

pub advance_all-requires-clause-next : goal.advance_all-requires-clause-next
advance_all-requires-clause-next c name =
    subst (λ (places : List ℕ). NextAt (marks_in c.mark.new.marks) c.args.entries.now name places (get name_order c.args.self.now.topics name)) (sym c.places_of.ensures)
    (subst (λ (l : List DataEntry). NextAt (marks_in c.mark.new.marks) l name (places_at c.args.self.now.unmarked.places c.args.tag.now) (get name_order c.args.self.now.topics name)) (sym c.requires.last.last)
    (next_behind (marks_in c.args.self.now.marks) (marks_in c.mark.new.marks) c.args.tag.now c.args.committed
    (falls_by (marks_in c.args.self.now.marks) c.args.tag.now c.args.committed (marks_in c.mark.new.marks) c.mark.ensures.marked)
    (take c.args.place c.args.entries.now) name (places_at c.args.self.now.unmarked.places c.args.tag.now) (c.requires.kept.unmarked.places c.args.tag.now) (get name_order c.args.self.now.topics name) (c.requires.kept.topics name)))

pub add_mark-requires : goal.add_mark-requires
add_mark-requires c = record {
  small = let small = c.requires.has.unmarked.small in omega (arith, small);
  before = first_before (marks_in c.args.self.now.marks) (take c.args.place c.args.entries.now) c.args.self.now.unmarked c.requires.kept.unmarked c.args.tag.now;
}

pub returns-clause-kept : goal.returns-clause-kept
returns-clause-kept c = record {
  marks = λ q. c.mark.ensures.marked q ∙ ap (λ o. option_or o (mark_in q (Mark c.args.tag.now c.args.committed))) (c.requires.kept.marks q)
      ∙ sym (ap (marker_of q) c.requires.last.last ∙ marker_of-push q (take c.args.place c.args.entries.now) (Mark c.args.tag.now c.args.committed));
  unmarked = subst (λ (l : List DataEntry). KeepsPlaces (marks_in c.mark.new.marks) l c.add_mark.new.self) (sym c.requires.last.last)
      (c.add_mark.ensures.kept (marks_in c.args.self.now.marks) (marks_in c.mark.new.marks) (take c.args.place c.args.entries.now) c.args.committed c.mark.ensures.marked c.requires.kept.unmarked);
  topics = c.advance_all.ensures.topics;
}

pub returns-clause-has : goal.returns-clause-has
returns-clause-has c front back was =
    room_behind c.args.self.now (record { marks = c.mark.new.marks; unmarked = c.add_mark.new.self; topics = c.advance_all.new.topics }) (Mark c.args.tag.now c.args.committed)
    (rows_kept c.args.self.now (record { marks = c.mark.new.marks; unmarked = c.add_mark.new.self; topics = c.advance_all.new.topics }) c.advance_all.ensures.rows c.mark.ensures.rows)
    (c.add_mark.ensures.has c.args.committed)
    (λ n name room. let e : n + 0 ≡ n = omega arith in c.advance_all.ensures.room n name (subst (λ k. RoomAt k (get name_order c.args.self.now.topics name)) e room))
    front back was
