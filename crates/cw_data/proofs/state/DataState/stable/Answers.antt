use Rattle.std.proofs.Common.{ap, sym, subst, ◌∙◌}
use Rattle.cw_data.specs.Log.{stable}
use Rattle.cw_data.specs.Rows.{TopicAt}
use Rattle.cw_data.specs.Tables.{marks_in}
use Rattle.cw_data.proofs.Looks.{stable_is}
use Rattle.cw_data.proofs.state.DataState.stable.Goals as goal

pub returns-in-Some : goal.returns-in-Some
returns-in-Some c =
    c.stable.ensures
    ∙ stable_is (marks_in c.self.inside.tables.marks) c.self.inside.entries.items c.self.invariant.kept.marks c.args.topic.now c.in-Some.kept.now
    (subst (TopicAt (marks_in c.self.inside.tables.marks) c.self.inside.entries.items c.args.topic.now) (sym c.in-Some.ensures) (c.self.invariant.kept.topics c.args.topic.now))
    ∙ ap (λ log. stable c.args.topic.now log.entries) c.self.view_is
