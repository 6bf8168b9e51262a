use Rattle.std.proofs.Common.{◌≡◌, refl}
use Rattle.cw_offset.specs.declared.call.OffsetCall.TheVariants.{Stand}
use Rattle.cw_offset.specs.declared.under.Under.{Under}
use Rattle.cw_offset.specs.Rows.{begun}
use Rattle.cw_offset.proofs.Done.{stand_keeps}
use Rattle.cw_offset.proofs.Rooms.{one_there, changed_under, changed_parts, parts_as_before, not_before}
use Rattle.cw_offset.proofs.tables.Tables.stand.Goals as goal

pub begin_at-begins-requires : goal.begin_at-begins-requires
begin_at-begins-requires c = c.requires.rows (Stand c.args.tag) (one_there (Stand c.args.tag))

pub returns-clause-kept : goal.returns-clause-kept
returns-clause-kept c calls kept =
    stand_keeps c.args.self.now _ calls kept c.args.tag refl c.begin_at-begins.ensures.changes c.begin_at-begins.result c.begin_at-begins.ensures.begins c.fill_place.ensures.rows refl

pub returns-clause-room : goal.returns-clause-room
returns-clause-room c = record {
  next = refl;
  parts = λ q has. has;
  under = changed_under (λ (was now : Under). now ≡ begun c.args.self.now.next was) c.args.tag c.args.self.now.waiting c.begin_at-begins.new.waiting c.begin_at-begins.ensures.changes;
  parts_in = changed_parts (λ (was now : Under). now ≡ begun c.args.self.now.next was) c.args.tag c.args.self.now.waiting c.begin_at-begins.new.waiting c.begin_at-begins.ensures.changes
      (λ q has. parts_as_before (begun c.args.self.now.next c.begin_at-begins.ensures.changes.was) c.begin_at-begins.ensures.changes.now c.begin_at-begins.ensures.changes.change q has);
  places = λ n lt has. c.fill_place.ensures.kept n (not_before c.args.self.now.next n lt) has;
}
