use Rattle.std.proofs.Common.{sym, subst}
use Rattle.cw_model.specs.declared.journal.JournalEntry.{JournalEntry}
use Rattle.cw_model.specs.Journal.{IsTrueEntry}
use Rattle.cw_serve.specs.Boarding.{known_of}
use Rattle.cw_serve.proofs.Standing.{seen-true}
use Rattle.cw_serve.proofs.Following.{turned}
use Rattle.cw_serve.specs.Boarding.{entry_seen}
use Rattle.cw_serve.proofs.shared.Shared.answer_seen.Goals as goal

pub keep_seen-requires-clause-holds : goal.keep_seen-requires-clause-holds
keep_seen-requires-clause-holds g c =
    let world = c.args.self.now.world in
    subst (λ (e : JournalEntry). IsTrueEntry world.setting world.state world.state.journal e) (sym c.entry_seen.ensures)
    (seen-true world.setting world.state c.args.w c.args.call c.args.seen (known_of c.args.w c.args.kept.now.board) c.requires.seen (c.stands.ensures c.if-stands.true))

pub returns-else-stands-clause-turn : goal.returns-else-stands-clause-turn
returns-else-stands-clause-turn g c =
    turned _ _ g.D.Disk c.args.w c.args.call (entry_seen c.args.w c.args.call c.args.seen) c.args.self.now.world c.answer.new.self.world c.answer.result
    c.answer.ensures.done c.answer.ensures.wants
