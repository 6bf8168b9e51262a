use Rattle.std.proofs.Common.{length, ap, sym, subst, ◌∙◌}
use Rattle.cw_data.specs.Log.{records}
use Rattle.cw_data.specs.Rows.{TopicAt}
use Rattle.cw_data.specs.Tables.{marks_in}
use Rattle.cw_data.proofs.state.DataState.end.Goals as goal

pub returns-in-Some : goal.returns-in-Some
returns-in-Some c =
    let kept = subst (TopicAt (marks_in c.self.inside.tables.marks) c.self.inside.entries.items c.args.topic.now) (sym c.in-Some.ensures) (c.self.invariant.kept.topics c.args.topic.now) in
    kept.waits.end ∙ ap (λ log. length (records c.args.topic.now log.entries)) c.self.view_is
