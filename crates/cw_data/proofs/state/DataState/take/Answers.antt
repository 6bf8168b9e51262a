use Rattle.std.proofs.Common.{ℕ, ◌-◌, max, List, Bor, Option, sym, ap, subst, ◌∙◌}
use Rattle.std.specs.Prelude.{slice_get}
use Rattle.std.specs.Option.{option_map}
use Rattle.cw_data.specs.declared.entry.DataEntry.{DataEntry}
use Rattle.cw_data.specs.declared.topic.Row.{Row}
use Rattle.cw_data.specs.Log.{taken}
use Rattle.cw_data.specs.Rows.{TopicAt, values_in, batch_at}
use Rattle.cw_data.specs.Tables.{marks_in}
use Rattle.cw_data.proofs.Looks.{taken_is, in_row_is, rising, told, pair}
use Rattle.cw_data.proofs.Takes.{in_row}
use Rattle.cw_data.proofs.state.DataState.take.Goals as goal

pub find-requires-clause-rising : goal.find-requires-clause-rising
find-requires-clause-rising c =
    rising (marks_in c.self.inside.tables.marks) c.self.inside.entries.items c.self.invariant.kept.marks c.args.topic.now c.in_ok-topic.field-0.now
    (subst (TopicAt (marks_in c.self.inside.tables.marks) c.self.inside.entries.items c.args.topic.now) (sym c.in_ok-topic.ensures) (c.self.invariant.kept.topics c.args.topic.now)) c.args.from

pub returns-in_err-row : goal.returns-in_err-row
returns-in_err-row c =
    ap (option_map {T = ℕ × Bor (List ℕ)} {U = ℕ × List ℕ} (λ p. (p.0, p.1.now))) c.from_residual-in_err-row.ensures
    ∙ sym (sym (ap (λ log. taken c.args.topic.now c.args.from log.entries) c.self.view_is)
    ∙ taken_is (marks_in c.self.inside.tables.marks) c.self.inside.entries.items c.self.invariant.kept.marks c.args.topic.now c.in_ok-topic.field-0.now
    (subst (TopicAt (marks_in c.self.inside.tables.marks) c.self.inside.entries.items c.args.topic.now) (sym c.in_ok-topic.ensures) (c.self.invariant.kept.topics c.args.topic.now)) c.args.from
    ∙ ap (λ (o : Option Row). told (in_row c.self.inside.entries.items c.args.from o)) (sym c.find.ensures ∙ c.in_err-row.was))

pub returns-in_err-value : goal.returns-in_err-value
returns-in_err-value c =
    ap (option_map {T = ℕ × Bor (List ℕ)} {U = ℕ × List ℕ} (λ p. (p.0, p.1.now))) c.from_residual-in_err-value.ensures
    ∙ sym (sym (ap (λ log. taken c.args.topic.now c.args.from log.entries) c.self.view_is)
    ∙ taken_is (marks_in c.self.inside.tables.marks) c.self.inside.entries.items c.self.invariant.kept.marks c.args.topic.now c.in_ok-topic.field-0.now
    (subst (TopicAt (marks_in c.self.inside.tables.marks) c.self.inside.entries.items c.args.topic.now) (sym c.in_ok-topic.ensures) (c.self.invariant.kept.topics c.args.topic.now)) c.args.from
    ∙ ap (λ (o : Option Row). told (in_row c.self.inside.entries.items c.args.from o)) (sym c.find.ensures ∙ c.in_ok-row.was) ∙ in_row_is c.self.inside.entries.items c.args.from c.in_ok-row.row
    ∙ ap (option_map {T = List ℕ} {U = ℕ × List ℕ} (λ v. (max c.in_ok-row.row.first c.args.from, v)))
    (sym (c.in_err-value.ensures ∙ ap (λ (l : List DataEntry). slice_get (values_in (batch_at l c.in_ok-row.row.place)) (c.max-offset.result - c.in_ok-row.row.first)) c.deref.ensures.value
    ∙ ap (λ k. slice_get (values_in (batch_at c.self.inside.entries.items c.in_ok-row.row.place)) (k - c.in_ok-row.row.first)) c.max-offset.ensures)))

pub returns : goal.returns
returns c =
    ap (λ k. pair k c.in_ok-value.value.now) c.max-offset.ensures
    ∙ sym (sym (ap (λ log. taken c.args.topic.now c.args.from log.entries) c.self.view_is)
    ∙ taken_is (marks_in c.self.inside.tables.marks) c.self.inside.entries.items c.self.invariant.kept.marks c.args.topic.now c.in_ok-topic.field-0.now
    (subst (TopicAt (marks_in c.self.inside.tables.marks) c.self.inside.entries.items c.args.topic.now) (sym c.in_ok-topic.ensures) (c.self.invariant.kept.topics c.args.topic.now)) c.args.from
    ∙ ap (λ (o : Option Row). told (in_row c.self.inside.entries.items c.args.from o)) (sym c.find.ensures ∙ c.in_ok-row.was) ∙ in_row_is c.self.inside.entries.items c.args.from c.in_ok-row.row
    ∙ ap (option_map {T = List ℕ} {U = ℕ × List ℕ} (λ v. (max c.in_ok-row.row.first c.args.from, v)))
    (sym (c.in_ok-value.ensures ∙ ap (λ (l : List DataEntry). slice_get (values_in (batch_at l c.in_ok-row.row.place)) (c.max-offset.result - c.in_ok-row.row.first)) c.deref.ensures.value
    ∙ ap (λ k. slice_get (values_in (batch_at c.self.inside.entries.items c.in_ok-row.row.place)) (k - c.in_ok-row.row.first)) c.max-offset.ensures)))
