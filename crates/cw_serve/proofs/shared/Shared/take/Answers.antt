use Rattle.std.proofs.Common.{rules, ◌∙◌, Ok, sym, subst, arith}
use Rattle.cw_desk.specs.Keeping.{KeepsJournal}
use Rattle.cw_serve.specs.Sharing.{IsShared}
use Rattle.cw_model.specs.Lookups.{row_of}
use Rattle.cw_serve.proofs.Boarding.{stays-boarded}
use Rattle.cw_serve.proofs.Following.{all-covered, covers-last, covers-more, if-locked, locked-follows}
use Rattle.cw_serve.proofs.Keeping.{keeps_shared, counts_one, all_behind}
use Rattle.cw_serve.proofs.shared.Shared.take.Goals as goal

pub invariant_of-self-in_err-receipt : goal.invariant_of-self-in_err-receipt
invariant_of-self-in_err-receipt g c =
    let has = c.self.invariant in
    let keeps : KeepsJournal c.self.inside.world.state c.answer.new.world.state =
    record { journal = c.in_err-receipt.ensures.unkept; live = c.answer.ensures.live } in (
      keeps_shared has.0 (c.answer.ensures.goes_on g.J.Begun.start) keeps,
      record { unused = c.make_room.ensures.same ∙ has.1.unused; room = search rules },
      stays-boarded has.2 c.answer.ensures.grows,
    )

pub invariant_of-kept-2-clause-named : goal.invariant_of-kept-2-clause-named
invariant_of-kept-2-clause-named g c =
    all_behind g.J.Begun.start.name c.args.kept.now.receipts.items c.make_room.new.receipts.items c.push_reserved.new.self.items c.in_ok-receipt.receipt
    c.args.kept.now.named (c.in_ok-receipt.ensures.shows.1 ∙ c.self.invariant.0.goes_on.name) c.make_room.ensures.receipts c.push_reserved.ensures.items

pub invariant_of-self-2 : goal.invariant_of-self-2
invariant_of-self-2 g c =
    let has = c.self.invariant in
    let shared = counts_one c.in_ok-receipt.receipt.entry has.0 (c.answer.ensures.goes_on g.J.Begun.start) c.answer.ensures.live c.in_ok-receipt.ensures.kept in (
      subst (λ total. IsShared g.D.Disk g.J.Begun.start g.J.BoardNaming.workers total c.answer.new.world) (sym c.add.ensures.total) shared,
      record { unused = c.make_room.ensures.same ∙ has.1.unused; room = search rules },
      stays-boarded has.2 c.answer.ensures.grows,
    )

pub invariant_of-kept-2-clause-covered : goal.invariant_of-kept-2-clause-covered
invariant_of-kept-2-clause-covered g c =
    let s = c.answer.new.world.state in
    let entry = c.in_ok-receipt.receipt.entry in
    let most = c.max.ensures in
    let read = c.read_of.ensures in
    all-covered c.args.kept.now.receipts.items c.make_room.new.receipts.items c.push_reserved.new.self.items c.in_ok-receipt.receipt
    c.make_room.ensures.receipts c.push_reserved.ensures.items c.args.kept.now.least c.max.result c.args.kept.now.covered (omega (arith, most))
    (covers-more (row_of c.args.w s).prefix c.max.result entry (omega (arith, most, read))
    (covers-last c.answer.new.world.setting s c.self.inside.world.state.journal entry c.args.w c.is_safe.ensures.journal
    c.in_ok-receipt.ensures.kept c.in_ok-receipt.ensures.asked.0))

pub invariant_of-kept-2-clause-follow : goal.invariant_of-kept-2-clause-follow
invariant_of-kept-2-clause-follow g c =
    locked-follows c.args.kept.now.receipts.items c.make_room.new.receipts.items c.push_reserved.new.self.items c.in_ok-receipt.receipt
    c.make_room.ensures.receipts c.push_reserved.ensures.items c.args.kept.now.follow
    (if-locked g.D.Disk c.args.w c.args.call c.self.inside.world c.answer.new.world (Ok c.in_ok-receipt.receipt) c.in_ok-receipt.ensures.turn)
