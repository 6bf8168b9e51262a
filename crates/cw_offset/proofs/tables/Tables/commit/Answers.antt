use Rattle.std.proofs.Common.{refl, sym, ◌∙◌}
use Rattle.cw_offset.proofs.Done.{commit_keeps}
use Rattle.cw_offset.proofs.Rooms.{ended_under, ended_parts_in, emptied, place_before, not_before}
use Rattle.cw_offset.proofs.tables.Tables.commit.Goals as goal

pub returns-clause-kept : goal.returns-clause-kept
returns-clause-kept c calls kept =
    commit_keeps c.args.self.now _ calls kept c.args.tag.now refl c.end_at-first.ensures.rows
    (λ m. emptied c.args.self.now.next m _ _ _ _ _ (c.empty_place-2.ensures.rows m) (c.empty_place.ensures.rows m) c.end_at-first.ensures.first) c.settle_under.ensures.settled c.settle_under.ensures.kept

pub returns-clause-room : goal.returns-clause-room
returns-clause-room c = record {
  next = refl;
  parts = c.settle_under.ensures.kept;
  under = ended_under c.args.tag.now c.args.self.now.waiting c.end_at-first.new.waiting c.end_at-first.ensures.rows;
  parts_in = ended_parts_in c.args.tag.now c.args.self.now.waiting c.end_at-first.new.waiting c.end_at-first.ensures.rows;
  places = λ n lt has. c.empty_place-2.ensures.kept n (not_before c.args.self.now.next n lt)
      (c.empty_place.ensures.kept n (place_before c.args.self.now.next c.end_at-first.result (λ m e. c.requires.before m (sym c.end_at-first.ensures.first ∙ e)) n lt) has);
}
