use Rattle.std.proofs.Common.{◌+◌, ◌∙◌, Some, ap}
use Rattle.cw_data.proofs.Waiting.{waits_past, waits_kept}
use Rattle.cw_data.proofs.topic.Topic.pass.Goals as goal
use Rattle.cw_data.proofs.topic.Topic.pass.Goals.{then-committed, else-committed}

pub returns-clause-waits : goal.returns-clause-waits
returns-clause-waits c marks entries name marked was =
    elim c.if-committed.branch [
      | then-committed w ↦ waits_kept marks entries name c.args.self.now was c.args.row c.requires.within c.requires.there
          (record { end = c.if-committed.self.end; rows = c.if-committed.self.rows; kept = c.if-committed.self.kept; passed = c.if-committed.self.passed + 1 })
          (marked ∙ ap Some w.if-committed.true)
          (ap (λ t. t.rows.items) w.self-is ∙ w.keep.ensures.rows) (ap (λ t. t.end) w.self-is ∙ w.keep.ensures.same.0)
          (ap (λ t. t.kept) w.self-is ∙ w.keep.ensures.kept) (ap (λ t. t.passed + 1) w.self-is ∙ ap (λ n. n + 1) w.keep.ensures.same.1)
      | else-committed w ↦ waits_past marks entries name c.args.self.now was c.args.row c.requires.within c.requires.there
          (record { end = c.if-committed.self.end; rows = c.if-committed.self.rows; kept = c.if-committed.self.kept; passed = c.if-committed.self.passed + 1 })
          (marked ∙ ap Some w.if-committed.false)
          (ap (λ t. t.rows.items) w.self-is) (ap (λ t. t.end) w.self-is) (ap (λ t. t.kept) w.self-is) (ap (λ t. t.passed + 1) w.self-is)
    ]
