-- The spans that have a batch, batch by batch.
use Rattle.std.proofs.Common.{◌≡◌, ◌↔◌, ℕ, ◌+◌, ◌<◌, ◌≤◌, ◌==◌, Bool, true, false, ◌||◌, ◌&&◌, cond, IsTrue, is_some, List, [], ◌∷◌, ◌++◌, length, take, get_or, Some, refl, sym, ap, subst, ◌∙◌, arith}
use Rattle.std.specs.List.{list_any, Any}
use Rattle.std.specs.BTreeMap.{get, is_at}
use Rattle.std.specs.Ordering.{is_eq, nat_cmp, ordering_then}
use Rattle.std.specs.declared.cmp.Ordering.{Ordering}
use Rattle.std.specs.declared.cmp.Ordering.TheVariants.{Less, Equal, Greater}
use Rattle.std.proofs.lemmas.Bool.{and_parts, and_from}
use Rattle.std.proofs.lemmas.Bool.Decides.{nat_tests}
use Rattle.std.proofs.lemmas.List.{append-nil, take_all, take_more}
use Rattle.std.proofs.lemmas.List.Elements.{filter_map-append}
use Rattle.std.proofs.lemmas.List.Folds.{list_any-append, Any-from_list_any, list_any-from_Any}
use Rattle.cw_types.specs.declared.ids.Tag.{Tag}
use Rattle.cw_types.specs.declared.ids.Span.{Span}
use Rattle.cw_types.specs.Same.{same_tag, same_part, tag_order, part_order}
use Rattle.cw_types.proofs.SameLemmas.{tag_at, part_at, same_tag-flip, same_part-flip}
use Rattle.cw_data.specs.declared.entry.Batch.{Batch}
use Rattle.cw_data.specs.declared.entry.DataEntry.{DataEntry}
use Rattle.cw_data.specs.declared.entry.DataEntry.TheVariants.{Batch as InBatch, Mark}
use Rattle.cw_model.specs.Committed.{batch_in, batches_of, is_batch_of}
use Rattle.cw_model.specs.StandsFor.{IsBatchFor}
use Rattle.cw_open.specs.declared.spans.SpanKey.{SpanKey}
use Rattle.cw_open.specs.declared.spans.BatchSpans.{BatchSpans}
use Rattle.cw_open.specs.Backing.{span_order, is_batch_at, AreBatchSpans}
use Rattle.cw_open.proofs.TagLemmas.{or_false, is_some-cond}

-- ---- keys

pub is_eq-then : (o p : Ordering) → is_eq (ordering_then o p) ≡ (is_eq o && is_eq p)
is_eq-then Less p = refl
is_eq-then Equal p = refl
is_eq-then Greater p = refl

is_eq-number : (a b : ℕ) → is_eq (nat_cmp a b) ≡ (b == a)
is_eq-number a b = grind (arith, nat_tests)

both : (o p : Ordering) (x y : Bool) → is_eq o ≡ x → is_eq p ≡ y → is_eq (ordering_then o p) ≡ (x && y)
both o p x y first second = is_eq-then o p ∙ ap (λ (b : Bool). b && is_eq p) first ∙ ap (λ (b : Bool). x && b) second

grouped : (x y z : Bool) → (x && (y && z)) ≡ ((x && y) && z)
grouped true y z = refl
grouped false y z = refl

abbrev of_batch : Batch → SpanKey
of_batch batch = record { tag = batch.tag; part = batch.part; from = batch.from; to = batch.to }

key_at : (batch : Batch) (q : SpanKey) → is_at (span_order (of_batch batch)) q ≡ is_batch_at q batch
key_at batch q =
    both (tag_order batch.tag q.tag) (ordering_then (part_order batch.part q.part) (ordering_then (nat_cmp batch.from q.from) (nat_cmp batch.to q.to)))
    (same_tag q.tag batch.tag) (same_part q.part batch.part && ((q.from == batch.from) && (q.to == batch.to)))
    (tag_at batch.tag q.tag ∙ same_tag-flip batch.tag q.tag)
    (both (part_order batch.part q.part) (ordering_then (nat_cmp batch.from q.from) (nat_cmp batch.to q.to)) (same_part q.part batch.part) ((q.from == batch.from) && (q.to == batch.to))
    (part_at batch.part q.part ∙ same_part-flip batch.part q.part)
    (both (nat_cmp batch.from q.from) (nat_cmp batch.to q.to) (q.from == batch.from) (q.to == batch.to) (is_eq-number batch.from q.from) (is_eq-number batch.to q.to)))
    ∙ grouped (same_tag q.tag batch.tag) (same_part q.part batch.part) ((q.from == batch.from) && (q.to == batch.to))

-- ---- one entry more

pub spans_batch : (log : List DataEntry) (batch : Batch) (key : SpanKey) (old new : BatchSpans) → AreBatchSpans old log → key ≡ record { tag = batch.tag; part = batch.part; from = batch.from; to = batch.to }
    → ((q : SpanKey) → get span_order new.rows q ≡ cond (is_at (span_order key) q) (Some true) (get span_order old.rows q)) → AreBatchSpans new (log ++ InBatch batch ∷ [])
spans_batch log batch key old new kept of rows = record {
  rows = λ q.
      is_some-cond (is_at (span_order key) q) (get span_order new.rows q) (get span_order old.rows q) (rows q)
      ∙ ap (λ (x : Bool). x || is_at (span_order key) q) (kept.rows q)
      ∙ ap (λ (k : SpanKey). list_any (is_batch_at q) (batches_of log) || is_at (span_order k) q) of
      ∙ ap (λ (x : Bool). list_any (is_batch_at q) (batches_of log) || x) (key_at batch q ∙ sym (or_false (is_batch_at q batch)))
      ∙ sym (list_any-append (is_batch_at q) (batches_of log) (batch ∷ []))
      ∙ ap (list_any (is_batch_at q)) (sym (filter_map-append batch_in log (InBatch batch ∷ [])));
}

pub spans_mark : (log : List DataEntry) (tag : Tag) (committed : Bool) (spans : BatchSpans) → AreBatchSpans spans log → AreBatchSpans spans (log ++ Mark tag committed ∷ [])
spans_mark log tag committed spans kept = record {
  rows = λ q. kept.rows q ∙ ap (list_any (is_batch_at q)) (sym (append-nil (batches_of log)) ∙ sym (filter_map-append batch_in log (Mark tag committed ∷ [])));
}

-- a walk over the log
module _ (log : List DataEntry) (at : ℕ) (now new : BatchSpans) (walked : AreBatchSpans now (take at log)) (x : DataEntry) (within : at < length log) (is : x ≡ get_or log at x) where
  pub spans_more : ((l : List DataEntry) → AreBatchSpans now l → AreBatchSpans new (l ++ x ∷ [])) → AreBatchSpans new (take (at + 1) log)
  spans_more step = subst (AreBatchSpans new) (sym (take_more log at x within ∙ ap (λ (y : DataEntry). take at log ++ y ∷ []) (sym is))) (step (take at log) walked)

pub spans_all : (log : List DataEntry) (at : ℕ) (now : BatchSpans) → AreBatchSpans now (take at log) → length log ≤ at → AreBatchSpans now log
spans_all log at now walked all = subst (AreBatchSpans now) (take_all at log all) walked

-- ---- a span

same-number : (a b : ℕ) → (a == b) ≡ true → b ≡ a
same-number a b e = grind (arith, nat_tests)

equal-number : (a b : ℕ) → b ≡ a → (a == b) ≡ true
equal-number a b e = grind (arith, nat_tests)

abbrev of_span : Tag → Span → SpanKey
of_span tag span = record { tag = tag; part = span.part; from = span.from; to = span.to }

for-from : (tag : Tag) (span : Span) (batch : Batch) → is_batch_at (of_span tag span) batch ≡ true → IsBatchFor tag span batch
for-from tag span batch e =
    let parts = and_parts (is_batch_of tag span.part batch) ((span.from == batch.from) && (span.to == batch.to)) e in
    let ends = and_parts (span.from == batch.from) (span.to == batch.to) parts.1 in
    record { is_of = parts.0; begins = same-number span.from batch.from ends.0; ends = same-number span.to batch.to ends.1 }

from-for : (tag : Tag) (span : Span) (batch : Batch) → IsBatchFor tag span batch → is_batch_at (of_span tag span) batch ≡ true
from-for tag span batch h =
    and_from (is_batch_of tag span.part batch) ((span.from == batch.from) && (span.to == batch.to)) h.is_of
    (and_from (span.from == batch.from) (span.to == batch.to) (equal-number span.from batch.from h.begins) (equal-number span.to batch.to h.ends))

any-so : {A : Type 0} (P Q : A → Type 0) (xs : List A) → ((x : A) → P x → Q x) → Any P xs → Any Q xs
any-so P Q xs so any = (any.0, any.1, any.2, any.3, so any.1 any.4)

module _ (spans : BatchSpans) (log : List DataEntry) (kept : AreBatchSpans spans log) (tag : Tag) (span : Span) where
  test : (b : Bool) → b ≡ is_some (get span_order spans.rows (of_span tag span)) → IsTrue b ↔ Any (IsBatchFor tag span) (batches_of log)
  test b is = (
    λ there. any-so (λ batch. is_batch_at (of_span tag span) batch ≡ true) (IsBatchFor tag span) (batches_of log) (for-from tag span)
        (Any-from_list_any (is_batch_at (of_span tag span)) (batches_of log) (sym (kept.rows (of_span tag span)) ∙ sym is ∙ there)),
    λ any. is ∙ kept.rows (of_span tag span) ∙ list_any-from_Any (is_batch_at (of_span tag span)) (batches_of log)
        (any-so (IsBatchFor tag span) (λ batch. is_batch_at (of_span tag span) batch ≡ true) (batches_of log) (from-for tag span) any),
  )

  pub has_span : (key : SpanKey) → key ≡ record { tag = tag; part = span.part; from = span.from; to = span.to } → (b : Bool) → b ≡ is_some (get span_order spans.rows key) → IsTrue b ↔ Any (IsBatchFor tag span) (batches_of log)
  has_span key of b is = test b (is ∙ ap (λ (k : SpanKey). is_some (get span_order spans.rows k)) of)
