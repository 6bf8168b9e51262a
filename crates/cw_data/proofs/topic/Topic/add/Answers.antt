use Rattle.std.proofs.Common.{◌+◌, ◌++◌, List, length, take, refl, sym, ap, subst, ◌∙◌}
use Rattle.cw_data.specs.declared.entry.DataEntry.{DataEntry}
use Rattle.cw_data.specs.declared.topic.Row.{Row}
use Rattle.cw_data.specs.Rows.{Waits, rows_in}
use Rattle.cw_data.specs.Tables.{marks_in}
use Rattle.cw_data.proofs.Waiting.{waits_more}
use Rattle.cw_data.proofs.topic.Topic.add.Goals as goal

pub returns-clause-topic : goal.returns-clause-topic
returns-clause-topic c name entry last count was =
    let items = c.push_row.ensures.items ∙ ap (λ (l : List Row). c.args.self.now.rows.items ++ l) (ap (λ n. rows_in n c.args.self.now.end c.args.count) last.at ∙ ap (rows_in (length (take c.args.place c.args.entries.now)) c.args.self.now.end) count) in
    c.advance.ensures.topic name (subst (λ (l : List DataEntry). Waits (marks_in c.args.marks.now) l name c.push_row.new.self) (sym last.last)
    (waits_more (marks_in c.args.marks.now) (marks_in c.args.marks.now) (λ tag marked. refl) (take c.args.place c.args.entries.now) entry name c.args.self.now c.push_row.new.self
    items (c.push_row.ensures.end ∙ ap (λ n. c.args.self.now.end + n) count) c.push_row.ensures.same.0 c.push_row.ensures.same.1 was.waits))
