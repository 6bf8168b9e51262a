use Rattle.std.proofs.Common.{rules, ◌∙◌, ◌≤◌, Err, ap, sym, subst}
use Rattle.cw_desk.specs.Keeping.{KeepsJournal}
use Rattle.cw_serve.specs.Sharing.{SharedState, IsShared}
use Rattle.cw_model.specs.declared.journal.JournalEntry.{JournalEntry}
use Rattle.cw_serve.specs.Following.{Covers}
use Rattle.cw_serve.proofs.Boarding.{stays-boarded}
use Rattle.cw_serve.proofs.Following.{all-covered, covers-itself, seen-follows}
use Rattle.cw_serve.proofs.Keeping.{keeps_shared, counts_one, all_behind}
use Rattle.cw_serve.proofs.shared.Shared.keep_seen.Goals as goal

pub invariant_of-self-in_err-noted : goal.invariant_of-self-in_err-noted
invariant_of-self-in_err-noted g c =
    let has = c.self.invariant in
    let keeps : KeepsJournal c.self.inside.world.state c.keep_seen.new.world.state =
    record { journal = c.in_err-noted.ensures.unkept; live = c.keep_seen.ensures.live } in (
      keeps_shared has.0 (c.keep_seen.ensures.goes_on g.J.Begun.start) keeps,
      record { unused = c.make_room.ensures.same ∙ has.1.unused; room = search rules },
      stays-boarded has.2 c.keep_seen.ensures.grows,
    )

pub invariant_of-kept-2-clause-named : goal.invariant_of-kept-2-clause-named
invariant_of-kept-2-clause-named g c =
    all_behind g.J.Begun.start.name c.args.kept.now.receipts.items c.make_room.new.receipts.items c.push_reserved.new.self.items c.in_ok-noted.noted
    c.args.kept.now.named (c.in_ok-noted.ensures.shows.1 ∙ c.self.invariant.0.goes_on.name) c.make_room.ensures.receipts c.push_reserved.ensures.items

pub invariant_of-self-2 : goal.invariant_of-self-2
invariant_of-self-2 g c =
    let has = c.self.invariant in
    let shared = counts_one c.in_ok-noted.noted.entry has.0 (c.keep_seen.ensures.goes_on g.J.Begun.start) c.keep_seen.ensures.live c.in_ok-noted.ensures.kept in (
      subst (λ total. IsShared g.D.Disk g.J.Begun.start g.J.BoardNaming.workers total c.keep_seen.new.world) (sym c.add.ensures.total) shared,
      record { unused = c.make_room.ensures.same ∙ has.1.unused; room = search rules },
      stays-boarded has.2 c.keep_seen.ensures.grows,
    )

pub invariant_of-kept-2-clause-covered : goal.invariant_of-kept-2-clause-covered
invariant_of-kept-2-clause-covered g c =
    all-covered c.args.kept.now.receipts.items c.make_room.new.receipts.items c.push_reserved.new.self.items c.in_ok-noted.noted
    c.make_room.ensures.receipts c.push_reserved.ensures.items c.args.kept.now.least c.args.entry.prefix c.args.kept.now.covered c.requires.least
    (subst (λ (e : JournalEntry). Covers c.args.entry.prefix e) (sym c.in_ok-noted.ensures.asked)
    (covers-itself c.args.entry (c.requires.holds.board c.requires.board).deed))

pub invariant_of-kept-2-clause-follow : goal.invariant_of-kept-2-clause-follow
invariant_of-kept-2-clause-follow g c =
    seen-follows c.args.kept.now.receipts.items c.make_room.new.receipts.items c.push_reserved.new.self.items c.in_ok-noted.noted
    c.make_room.ensures.receipts c.push_reserved.ensures.items c.args.kept.now.least c.args.kept.now.follow c.args.kept.now.covered
    (subst (λ (e : JournalEntry). c.args.kept.now.least ≤ e.prefix) (sym c.in_ok-noted.ensures.asked) c.requires.least)

pub returns-in_err-make_room-clause-keeps : goal.returns-in_err-make_room-clause-keeps
returns-in_err-make_room-clause-keeps g c =
    (Err c.in_err-make_room.field-0.0, ap (λ (s : SharedState g.row.D.Denot). s.world) c.self.view_is)
