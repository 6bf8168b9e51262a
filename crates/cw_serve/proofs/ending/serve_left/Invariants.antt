use Rattle.std.proofs.Common.{◌≡◌, List, ◌++◌}
use Rattle.cw_model.specs.declared.journal.JournalEntry.{JournalEntry}
use Rattle.cw_serve.specs.Talking.{AreTalks, entries_in}
use Rattle.cw_serve.proofs.ending.serve_left.Given as goal

abbrev pub invariant-loop : goal.invariant-loop
invariant-loop g l =
    (l.acceptor.parts ≡ 1024) × (l.acceptor.pushed ≡ l.fn.acceptor.pushed)
    × ((others : List JournalEntry) → AreTalks g.L.Link l.fn.acceptor.taken (others ++ entries_in l.fn.own.receipts.items) →
    AreTalks g.L.Link l.acceptor.taken (others ++ entries_in l.own.receipts.items))
