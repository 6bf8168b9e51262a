use Rattle.cw_types.specs.declared.ids.PartKey.{PartKey}
use Rattle.cw_txn.specs.History.{history}
use Rattle.cw_txn.proofs.Chained.{spans_chain}
use Rattle.cw_txn.proofs.coordinator.Coordinator.commit.Goals as goal

pub append-requires-clause-chains : goal.append-requires-clause-chains
append-requires-clause-chains c part = spans_chain part (λ (q : PartKey). history q c.args.self.now.entries) c.args.spans.now c.requires.next.distinct c.requires.next.go_on
