-- What is committed of a source's part is what it yields, in a whole transaction list whose commits have their batches
-- and whose batches agree with the feeds.
use Rattle.std.proofs.Common.{◌≡◌, ℕ, zero, suc, ◌++◌, ◌∷◌, [], ◌&&◌, ◌||◌, Bool, true, false, cond, List, Option, Some, None, unwrap_or, length, map, refl, sym, ap, subst, ◌∙◌, arith, append-nil, append_assoc}
use Rattle.std.proofs.lemmas.Bool.{and_parts}
use Rattle.std.specs.Bool.{⊤}
use Rattle.std.specs.Option.{option_map_or}
use Rattle.std.specs.List.{AllByRecursion, filter, flat_map, fold, list_any, cons_option, IsDistinct, Any}
use Rattle.std.proofs.lemmas.List.Concat.{flat_map-append}
use Rattle.std.proofs.lemmas.List.Elements.{recursion_from_All, filter_map-append}
use Rattle.std.proofs.lemmas.List.Folds.{list_any-append}
use Rattle.std.proofs.lemmas.Map.Keys.{IsDistinct-head, IsDistinct-tail}
use Rattle.cw_types.specs.declared.ids.Tid.{Tid}
use Rattle.cw_types.specs.declared.ids.Tid.TheVariants.{Lead, Task, Raw as RawId}
use Rattle.cw_types.specs.declared.ids.Epoch.{Epoch}
use Rattle.cw_types.specs.declared.ids.Tag.{Tag}
use Rattle.cw_types.specs.declared.ids.PartKey.{PartKey}
use Rattle.cw_types.specs.declared.ids.PartKey.TheVariants.{Raw, File, Seq, Sink}
use Rattle.cw_types.specs.declared.ids.Span.{Span}
use Rattle.cw_types.specs.Same.{same_tag, same_part}
use Rattle.cw_types.proofs.SameLemmas.{same_tag-Decides, same_part-Decides}
use Rattle.cw_bytes.specs.Frames.{EachFrom}
use Rattle.cw_io.specs.Shelf.{Files}
use Rattle.cw_feed.specs.Feeds.{IsOfSource}
use Rattle.cw_feed.specs.Yield.{Yield}
use Rattle.cw_txn.specs.declared.entry.Entry.{Entry}
use Rattle.cw_txn.specs.declared.entry.Entry.TheVariants.{Bump, Commit, Set}
use Rattle.cw_txn.specs.declared.entry.SetOffset.{SetOffset}
use Rattle.cw_txn.specs.declared.history.History.{History}
use Rattle.cw_txn.specs.Allowed.{IsRaw, CommitsOwn, IsAllowedBehind}
use Rattle.cw_txn.specs.History.{base_of, history, after_span, SpansChain, GoesOn}
use Rattle.cw_txn.specs.Legal.{is_commit_of, is_committed, ChainsBehind}
use Rattle.cw_txn.proofs.Walks.{history-push}
use Rattle.cw_data.specs.declared.entry.Batch.{Batch}
use Rattle.cw_data.specs.declared.entry.DataEntry.{DataEntry}
use Rattle.cw_data.specs.declared.entry.DataEntry.TheVariants.{Batch as InBatch, Mark}
use Rattle.cw_model.specs.Lookups.{end_or_start}
use Rattle.cw_model.specs.Allowed.{IsAllowedData}
use Rattle.cw_offset.specs.Compaction.{sets_part}
use Rattle.cw_model.specs.Committed.{is_task, batch_in, batches_of, is_batch_of, is_span_of, tags_of, tag_committing, values_of, committed_records, BatchAgrees, Agrees}
use Rattle.cw_model.specs.Safe.{HasBatch, HasBatches}
use Rattle.cw_model.specs.StandsFor.{IsBatchFor, HasSomeBatches}
use Rattle.cw_laws.proofs.Lists.{each-weaker}
use Rattle.cw_laws.proofs.DataPush.{batches-push}
use Rattle.cw_laws.proofs.BatchFinds.{find-first}
use Rattle.cw_laws.proofs.EntryPush.{LeavesPart, base-stays, end-stays, set-leaves, set-just, tags-push, tags-set}
use Rattle.cw_laws.proofs.Yields.{yields-joined, yields-none, yields-same}

-- ---- one batch of a transaction and a part

-- no batch before has its transaction and part
abbrev IsFirst : List Batch → Batch → Type 0
IsFirst before b = list_any (is_batch_of b.tag b.part) before ≡ false

firsts : (entries : List Entry) (before log : List DataEntry) → EachFrom (IsAllowedData entries) before log → EachFrom IsFirst (batches_of before) (batches_of log)
firsts entries before [] each = tt
firsts entries before (InBatch batch ∷ log) each =
    (each.0.first, subst (λ bs. EachFrom IsFirst bs (batches_of log)) (batches-push before batch) (firsts entries (before ++ InBatch batch ∷ []) log each.1))
firsts entries before (Mark tag committed ∷ log) each =
    subst (λ bs. EachFrom IsFirst bs (batches_of log)) (no-batch before tag committed) (firsts entries (before ++ Mark tag committed ∷ []) log each.1)
  where
    no-batch : (l : List DataEntry) (t : Tag) (c : Bool) → batches_of (l ++ Mark t c ∷ []) ≡ batches_of l
    no-batch l t c = filter_map-append batch_in l (Mark t c ∷ []) ∙ append-nil (batches_of l)

module _ (tag : Tag) (span : Span) where
  abbrev passes : Batch → Bool
  passes = is_batch_of tag span.part

  -- a batch that passes is first of just these
  first-of : (before : List Batch) (b : Batch) → passes b ≡ true → IsFirst before b → list_any passes before ≡ false
  first-of before b is first =
      let two : (same_tag tag b.tag ≡ true) × (same_part span.part b.part ≡ true) = and_parts (same_tag tag b.tag) (same_part span.part b.part) is in
      subst (λ (t : Tag). list_any (is_batch_of t span.part) before ≡ false) (sym ((same_tag-Decides tag b.tag).0 two.0))
      (subst (λ (p : PartKey). list_any (is_batch_of b.tag p) before ≡ false) (sym ((same_part-Decides span.part b.part).0 two.1)) first)

  more : (before : List Batch) (b : Batch) → list_any passes before ≡ true → list_any passes (before ++ b ∷ []) ≡ true
  more before b there = list_any-append passes before (b ∷ []) ∙ ap (λ (c : Bool). c || (passes b || false)) there

  now : (before : List Batch) (b : Batch) → passes b ≡ true → list_any passes (before ++ b ∷ []) ≡ true
  now before b is = list_any-append passes before (b ∷ []) ∙ ap (λ (c : Bool). list_any passes before || (c || false)) is ∙ last (list_any passes before)
    where
      last : (c : Bool) → (c || true) ≡ true
      last true = refl
      last false = refl

  -- where one stands before, none passes
  none-later : (before bs : List Batch) → EachFrom IsFirst before bs → list_any passes before ≡ true → filter passes bs ≡ []
  none-later before [] each there = refl
  none-later before (b ∷ bs) each there = by (passes b) refl (none-later (before ++ b ∷ []) bs each.1 (more before b there))
    where
      by : (c : Bool) → passes b ≡ c → filter passes bs ≡ [] → cond c (b ∷ filter passes bs) (filter passes bs) ≡ []
      by true is rest = absurd (let never : list_any passes before ≡ false = first-of before b is each.0 in cc)
      by false is rest = rest

  none-any : (before bs : List Batch) → EachFrom IsFirst before bs → list_any passes before ≡ true → Any (IsBatchFor tag span) bs → ⊥
  none-any before [] each there any = absurd (omega (arith, any.2))
  none-any before (b ∷ bs) each there (zero, x, within, at, is) =
      absurd (let never : list_any passes before ≡ false = first-of before b (subst (λ (y : Batch). passes y ≡ true) (sym at) is.is_of) each.0 in cc)
  none-any before (b ∷ bs) each there (suc k, x, within, at, is) = none-any (before ++ b ∷ []) bs each.1 (more before b there) (k, x, omega (arith, within), at, is)

  -- so where there is one, it is the only one
  only-one : (log : List DataEntry) (before bs : List Batch) → EachFrom IsFirst before bs → Any (IsBatchFor tag span) bs → (batch : Batch) × (filter passes bs ≡ batch ∷ []) × IsBatchFor tag span batch
  only-one log before [] each any = absurd (omega (arith, any.2))
  only-one log before (b ∷ bs) each any = by (passes b) refl any (λ later. only-one log (before ++ b ∷ []) bs each.1 later)
    where
      by : (c : Bool) → passes b ≡ c → Any (IsBatchFor tag span) (b ∷ bs) → (Any (IsBatchFor tag span) bs → (batch : Batch) × (filter passes bs ≡ batch ∷ []) × IsBatchFor tag span batch)
          → (batch : Batch) × (cond c (b ∷ filter passes bs) (filter passes bs) ≡ batch ∷ []) × IsBatchFor tag span batch
      by true is (zero, x, within, at, here) behind = (b, ap (λ (l : List Batch). b ∷ l) (none-later (before ++ b ∷ []) bs each.1 (now before b is)), subst (IsBatchFor tag span) (sym at) here)
      by true is (suc k, x, within, at, here) behind = absurd (none-any (before ++ b ∷ []) bs each.1 (now before b is) (k, x, omega (arith, within), at, here))
      by false fails (zero, x, within, at, here) behind = absurd (let passed : passes b ≡ true = subst (λ (y : Batch). passes y ≡ true) (sym at) here.is_of in cc)
      by false fails (suc k, x, within, at, here) behind = behind (k, x, omega (arith, within), at, here)

  pub has-batch : (entries : List Entry) (log : List DataEntry) → EachFrom (IsAllowedData entries) [] log → Any (IsBatchFor tag span) (batches_of log) → HasBatch log tag span
  has-batch entries log each any =
      let one : (batch : Batch) × (filter passes (batches_of log) ≡ batch ∷ []) × IsBatchFor tag span batch = only-one log [] (batches_of log) (firsts entries [] log each) any in
      record { batch = one.0; only = one.1; begins = one.2.begins; ends = one.2.ends }

pub has-batches : (entries : List Entry) (log : List DataEntry) → EachFrom (IsAllowedData entries) [] log → (e : Entry) → HasSomeBatches log e → HasBatches log e
has-batches entries log each (Bump tid) has = tt
has-batches entries log each (Commit tag generation spans) has =
    λ task. each-weaker (λ span. Any (IsBatchFor tag span) (batches_of log)) (HasBatch log tag) spans (λ span any. has-batch tag span entries log each any) (has task)
has-batches entries log each (Set tid epoch list) has = tt

-- ---- the spans of a commit

leaves-span : (part : PartKey) (h : History) (span : Span) → same_part part span.part ≡ false → after_span part h span ≡ h
leaves-span part h span other = ap (λ (b : Bool). cond b (record { base = h.base; end = Some span.to }) h) other

leaves-spans : (part : PartKey) (h : History) (spans : List Span) → AllByRecursion (λ (span : Span). same_part part span.part ≡ false) spans → fold (after_span part) h spans ≡ h
leaves-spans part h [] each = refl
leaves-spans part h (span ∷ spans) each = ap (λ (k : History). fold (after_span part) k spans) (leaves-span part h span each.0) ∙ leaves-spans part h spans each.1

none-of : (part : PartKey) (spans : List Span) → list_any (is_span_of part) spans ≡ false → AllByRecursion (λ (span : Span). same_part part span.part ≡ false) spans
none-of part [] e = tt
none-of part (span ∷ spans) e = by (same_part part span.part) refl e (none-of part spans)
  where
    by : (b : Bool) → same_part part span.part ≡ b → (b || list_any (is_span_of part) spans) ≡ false → (list_any (is_span_of part) spans ≡ false → AllByRecursion (λ (s : Span). same_part part s.part ≡ false) spans)
        → AllByRecursion (λ (s : Span). same_part part s.part ≡ false) (span ∷ spans)
    by true is e rest = absurd (cc)
    by false is e rest = (is, rest e)

-- the span of a part, which goes on from where that was
record IsSpanHere (Q : Span → Type 0) (part : PartKey) (h : History) (spans : List Span) : Type 0 where
  span : Span
  own : part ≡ span.part
  goes : GoesOn h span
  moves : fold (after_span part) h spans ≡ record { base = h.base; end = Some span.to }
  has : Q span

others-of : (part : PartKey) (spans : List Span) → AllByRecursion (λ (p : PartKey). same_part part p ≡ false) (map (λ (s : Span). s.part) spans) → AllByRecursion (λ (s : Span). same_part part s.part ≡ false) spans
others-of part [] each = tt
others-of part (span ∷ spans) each = (each.0, others-of part spans each.1)

span-here : (Q : Span → Type 0) (part : PartKey) (h : History) (spans : List Span) → IsDistinct same_part (map (λ (s : Span). s.part) spans) → SpansChain part h spans →
    list_any (is_span_of part) spans ≡ true → AllByRecursion Q spans → IsSpanHere Q part h spans
span-here Q part h [] distinct chain any each = absurd (cc)
span-here Q part h (span ∷ spans) distinct chain any each =
    by (same_part part span.part) refl any
    (λ (other : same_part part span.part ≡ false) (later : list_any (is_span_of part) spans ≡ true).
    span-here Q part h spans (IsDistinct-tail same_part span.part (map (λ (s : Span). s.part) spans) distinct)
    (subst (λ (k : History). SpansChain part k spans) (leaves-span part h span other) chain.1) later each.1)
  where
    by : (b : Bool) → same_part part span.part ≡ b → (b || list_any (is_span_of part) spans) ≡ true
        → (same_part part span.part ≡ false → list_any (is_span_of part) spans ≡ true → IsSpanHere Q part h spans) → IsSpanHere Q part h (span ∷ spans)
    by true is any behind =
        let own : part ≡ span.part = (same_part-Decides part span.part).0 is in
        let others : AllByRecursion (λ (s : Span). same_part part s.part ≡ false) spans =
        others-of part spans (subst (λ (p : PartKey). AllByRecursion (λ (q : PartKey). same_part p q ≡ false) (map (λ (s : Span). s.part) spans)) (sym own)
        (IsDistinct-head same_part span.part (map (λ (s : Span). s.part) spans) distinct)) in
        record {
          span = span;
          own = own;
          goes = chain.0 is;
          moves = ap (λ (c : Bool). fold (after_span part) (cond c (record { base = h.base; end = Some span.to }) h) spans) is ∙ leaves-spans part (record { base = h.base; end = Some span.to }) spans others;
          has = each.0;
        }
    by false is any behind =
        let later : IsSpanHere Q part h spans = behind is any in
        record {
          span = later.span;
          own = later.own;
          goes = later.goes;
          moves = ap (λ (k : History). fold (after_span part) k spans) (leaves-span part h span is) ∙ later.moves;
          has = later.has;
        }

-- ---- entry by entry

-- each span of a source's part that a task commits has its yield as values
abbrev SpansYield : Files → List DataEntry → Tag → List Span → Type 0
SpansYield feeds log tag spans = AllByRecursion (λ (span : Span). IsOfSource span.part → Yield feeds span.part span.from span.to (values_of span.part log tag)) spans

abbrev EntryYields : Files → List DataEntry → Entry → Type 0
EntryYields feeds log (Bump tid) = ⊤
EntryYields feeds log (Commit tag generation spans) = is_task tag.tid ≡ true → SpansYield feeds log tag spans
EntryYields feeds log (Set tid epoch list) = ⊤

raw-other : (part p : PartKey) → IsOfSource part → IsRaw p → same_part part p ≡ false
raw-other (Raw m) p source raw = absurd source
raw-other (Sink a b) p source raw = absurd source
raw-other (File a b) (Raw n) source raw = refl
raw-other (File a b) (File c d) source raw = absurd raw
raw-other (File a b) (Seq c d) source raw = absurd raw
raw-other (File a b) (Sink c d) source raw = absurd raw
raw-other (Seq a b) (Raw n) source raw = refl
raw-other (Seq a b) (File c d) source raw = absurd raw
raw-other (Seq a b) (Seq c d) source raw = absurd raw
raw-other (Seq a b) (Sink c d) source raw = absurd raw

raw-spans : (part : PartKey) → IsOfSource part → (spans : List Span) → AllByRecursion IsRaw (map (λ (s : Span). s.part) spans) → AllByRecursion (λ (s : Span). same_part part s.part ≡ false) spans
raw-spans part source [] each = tt
raw-spans part source (span ∷ spans) each = (raw-other part span.part source each.0, raw-spans part source spans each.1)

-- a producer that is no task commits a script's parts alone
not-task : (tid : Tid) (number place : ℕ) (parts : List PartKey) → is_task tid ≡ false → CommitsOwn tid number place parts → AllByRecursion IsRaw parts
not-task Lead number place parts fails own = absurd own
not-task (Task id) number place parts fails own = absurd (cc)
not-task (RawId n) number place parts fails own = recursion_from_All IsRaw parts own.1

module _ (feeds : Files) (log : List DataEntry) (part : PartKey) (source : IsOfSource part) where
  abbrev Y : List Entry → Type 0
  Y entries = Yield feeds part (base_of part entries) (end_or_start part entries) (committed_records part entries log)

  yields-left : (before : List Entry) (e : Entry) → LeavesPart part e → sets_part part e ≡ false → tag_committing part e ≡ None → Y before → Y (before ++ e ∷ [])
  yields-left before e leaves none untagged yields =
      yields-same feeds part (base_of part before) (base_of part (before ++ e ∷ [])) (end_or_start part before) (end_or_start part (before ++ e ∷ []))
      (committed_records part before log) (committed_records part (before ++ e ∷ []) log)
      (base-stays part before e leaves) (end-stays part before e leaves)
      (ap (flat_map (values_of part log)) (tags-push part before e none ∙ ap (λ (o : Option Tag). tags_of part before ++ cons_option o []) untagged ∙ append-nil (tags_of part before))) yields

  yields-set : (before : List Entry) (tid : Tid) (epoch : Epoch) (list : List SetOffset) → list_any (λ set. same_part part set.part) list ≡ true → Y (before ++ Set tid epoch list ∷ [])
  yields-set before tid epoch list sets =
      let at : ℕ = end_or_start part (before ++ Set tid epoch list ∷ []) in
      yields-same feeds part at (base_of part (before ++ Set tid epoch list ∷ [])) at at [] (committed_records part (before ++ Set tid epoch list ∷ []) log)
      (set-just part before tid epoch list sets) refl (ap (flat_map (values_of part log)) (tags-set part before (Set tid epoch list) sets)) (yields-none feeds part at source)

  -- a commit of the part by a task
  yields-span : (before : List Entry) (tag : Tag) (generation : ℕ) (spans : List Span) → is_task tag.tid ≡ true → list_any (is_span_of part) spans ≡ true →
      IsSpanHere (λ span. IsOfSource span.part → Yield feeds span.part span.from span.to (values_of span.part log tag)) part (history part before) spans →
      Y before → Y (before ++ Commit tag generation spans ∷ [])
  yields-span before tag generation spans task any here yields =
      let e : Entry = Commit tag generation spans in
      let span : Span = here.span in
      let moved : history part (before ++ e ∷ []) ≡ record { base = base_of part before; end = Some span.to } = history-push part before e ∙ here.moves in
      let values : Yield feeds part span.from span.to (values_of part log tag) =
      subst (λ (p : PartKey). Yield feeds p span.from span.to (values_of p log tag)) (sym here.own) (here.has (subst IsOfSource here.own source)) in
      let up_to : Yield feeds part (base_of part before) span.from (committed_records part before log) =
      subst (λ (n : ℕ). Yield feeds part (base_of part before) n (committed_records part before log)) (sym here.goes.0) yields in
      let tagged : tag_committing part e ≡ Some tag =
      ap (λ (b : Bool). cond (b && list_any (is_span_of part) spans) (Some tag) None) task ∙ ap (λ (b : Bool). cond b (Some tag) None) any in
      let records : committed_records part (before ++ e ∷ []) log ≡ committed_records part before log ++ values_of part log tag =
      ap (flat_map (values_of part log)) (tags-push part before e refl ∙ ap (λ (o : Option Tag). tags_of part before ++ cons_option o []) tagged)
      ∙ flat_map-append (values_of part log) (tags_of part before) (tag ∷ [])
      ∙ ap (λ (l : List (List ℕ)). committed_records part before log ++ l) (append-nil (values_of part log tag)) in
      yields-same feeds part (base_of part before) (base_of part (before ++ e ∷ [])) span.to (end_or_start part (before ++ e ∷ []))
      (committed_records part before log ++ values_of part log tag) (committed_records part (before ++ e ∷ []) log)
      (ap (λ (h : History). h.base) moved) (ap (λ (h : History). unwrap_or h.end 0) moved) records
      (yields-joined feeds part (base_of part before) span.from span.to (committed_records part before log) (values_of part log tag) up_to values)

  yields-commit : (before : List Entry) (tag : Tag) (generation : ℕ) (spans : List Span) → IsAllowedBehind before (Commit tag generation spans) → SpansChain part (history part before) spans →
      EntryYields feeds log (Commit tag generation spans) → (task any : Bool) → is_task tag.tid ≡ task → list_any (is_span_of part) spans ≡ any → Y before → Y (before ++ Commit tag generation spans ∷ [])
  yields-commit before tag generation spans allowed chain each true true task any yields =
      yields-span before tag generation spans task any (span-here _ part (history part before) spans allowed.distinct chain any (each task)) yields
  yields-commit before tag generation spans allowed chain each true false task any yields =
      yields-left before (Commit tag generation spans) (λ h. leaves-spans part h spans (none-of part spans any)) refl
      (ap (λ (b : Bool). cond (b && list_any (is_span_of part) spans) (Some tag) None) task ∙ ap (λ (b : Bool). cond b (Some tag) None) any) yields
  yields-commit before tag generation spans allowed chain each false any fails is yields =
      let raw : AllByRecursion (λ (s : Span). same_part part s.part ≡ false) spans =
      raw-spans part source spans (not-task tag.tid tag.number (length before) (map (λ (s : Span). s.part) spans) fails allowed.own) in
      yields-left before (Commit tag generation spans) (λ h. leaves-spans part h spans raw) refl (ap (λ (b : Bool). cond (b && list_any (is_span_of part) spans) (Some tag) None) fails) yields

  yields-by : (before : List Entry) (tid : Tid) (epoch : Epoch) (list : List SetOffset) (b : Bool) → list_any (λ set. same_part part set.part) list ≡ b → Y before → Y (before ++ Set tid epoch list ∷ [])
  yields-by before tid epoch list true sets yields = yields-set before tid epoch list sets
  yields-by before tid epoch list false other yields = yields-left before (Set tid epoch list) (set-leaves part tid epoch list other) other refl yields

  yields-entry : (before : List Entry) (e : Entry) → IsAllowedBehind before e → ChainsBehind part before e → EntryYields feeds log e → Y before → Y (before ++ e ∷ [])
  yields-entry before (Bump tid) allowed chain each yields = yields-left before (Bump tid) (λ h. refl) refl refl yields
  yields-entry before (Commit tag generation spans) allowed chain each yields =
      yields-commit before tag generation spans allowed chain each (is_task tag.tid) (list_any (is_span_of part) spans) refl refl yields
  yields-entry before (Set tid epoch list) allowed chain each yields = yields-by before tid epoch list (list_any (λ set. same_part part set.part) list) refl yields

  yields-walk : (before xs : List Entry) → EachFrom IsAllowedBehind before xs → EachFrom (ChainsBehind part) before xs → AllByRecursion (EntryYields feeds log) xs → Y before → Y (before ++ xs)
  yields-walk before [] allowed chains each yields = subst Y (sym (append-nil before)) yields
  yields-walk before (e ∷ xs) allowed chains each yields =
      subst Y (append_assoc before (e ∷ []) xs)
      (yields-walk (before ++ e ∷ []) xs allowed.1 chains.1 each.1 (yields-entry before e allowed.0 chains.0 each.0 yields))

  -- what is committed of the part is what it yields
  pub yields-all : (entries : List Entry) → EachFrom IsAllowedBehind [] entries → EachFrom (ChainsBehind part) [] entries → AllByRecursion (EntryYields feeds log) entries → Y entries
  yields-all entries allowed chains each = yields-walk [] entries allowed chains each (yields-none feeds part 0 source)

-- ---- the feeds agree

found-each : (P : Batch → Type 0) (p : Batch → Bool) (bs : List Batch) (batch : Batch) → filter p bs ≡ batch ∷ [] → AllByRecursion P bs → P batch × (p batch ≡ true)
found-each P p [] batch only each = absurd (cc)
found-each P p (b ∷ bs) batch only each = by (p b) refl only (λ later. found-each P p bs batch later each.1)
  where
    by : (c : Bool) → p b ≡ c → cond c (b ∷ filter p bs) (filter p bs) ≡ batch ∷ [] → (filter p bs ≡ batch ∷ [] → P batch × (p batch ≡ true)) → P batch × (p batch ≡ true)
    by true is only behind = let same : b ≡ batch = cc in (subst P same each.0, subst (λ (x : Batch). p x ≡ true) same is)
    by false is only behind = behind only

-- a batch that is committed, by one of the entries
span-yields : (feeds : Files) (entries : List Entry) (log : List DataEntry) (tag : Tag) (span : Span) → Agrees feeds entries log → is_committed tag entries ≡ true → HasBatch log tag span →
    IsOfSource span.part → Yield feeds span.part span.from span.to (values_of span.part log tag)
span-yields feeds entries log tag span agrees committed has source =
    let batch : Batch = has.batch in
    let there : BatchAgrees feeds entries batch × (is_batch_of tag span.part batch ≡ true) = found-each (BatchAgrees feeds entries) (is_batch_of tag span.part) (batches_of log) batch has.only agrees in
    let two : (same_tag tag batch.tag ≡ true) × (same_part span.part batch.part ≡ true) = and_parts (same_tag tag batch.tag) (same_part span.part batch.part) there.1 in
    let tags : tag ≡ batch.tag = (same_tag-Decides tag batch.tag).0 two.0 in
    let parts : span.part ≡ batch.part = (same_part-Decides span.part batch.part).0 two.1 in
    let its : Yield feeds batch.part batch.from batch.to batch.values = there.0 (subst IsOfSource parts source) (subst (λ (t : Tag). is_committed t entries ≡ true) tags committed) in
    let values : values_of span.part log tag ≡ batch.values =
    ap (λ (o : Option Batch). option_map_or (λ (b : Batch). b.values) o []) (find-first (is_batch_of tag span.part) (batches_of log) batch [] has.only) in
    yields-same feeds span.part batch.from span.from batch.to span.to batch.values (values_of span.part log tag) (sym has.begins) (sym has.ends) values
    (subst (λ (p : PartKey). Yield feeds p batch.from batch.to batch.values) (sym parts) its)

itself-committed : (tag : Tag) (generation : ℕ) (spans : List Span) (before behind : List Entry) → is_committed tag (before ++ Commit tag generation spans ∷ behind) ≡ true
itself-committed tag generation spans [] behind = ap (λ (b : Bool). b || is_committed tag behind) ((same_tag-Decides tag tag).1 refl)
itself-committed tag generation spans (e ∷ before) behind = later (is_commit_of tag e) (itself-committed tag generation spans before behind)
  where
    later : (a : Bool) → is_committed tag (before ++ Commit tag generation spans ∷ behind) ≡ true → (a || is_committed tag (before ++ Commit tag generation spans ∷ behind)) ≡ true
    later true there = refl
    later false there = there

entry-agrees : (feeds : Files) (entries : List Entry) (log : List DataEntry) → Agrees feeds entries log → (before : List Entry) (e : Entry) (behind : List Entry) → before ++ e ∷ behind ≡ entries → HasBatches log e →
    EntryYields feeds log e
entry-agrees feeds entries log agrees before (Bump tid) behind split has = tt
entry-agrees feeds entries log agrees before (Commit tag generation spans) behind split has = λ task.
    each-weaker (HasBatch log tag) (λ (span : Span). IsOfSource span.part → Yield feeds span.part span.from span.to (values_of span.part log tag)) spans
    (λ span batch. span-yields feeds entries log tag span agrees (subst (λ (l : List Entry). is_committed tag l ≡ true) split (itself-committed tag generation spans before behind)) batch) (has task)
entry-agrees feeds entries log agrees before (Set tid epoch list) behind split has = tt

agrees-each : (feeds : Files) (entries : List Entry) (log : List DataEntry) → Agrees feeds entries log → (before xs : List Entry) → before ++ xs ≡ entries → AllByRecursion (HasBatches log) xs →
    AllByRecursion (EntryYields feeds log) xs
agrees-each feeds entries log agrees before [] split has = tt
agrees-each feeds entries log agrees before (e ∷ xs) split has = (
  entry-agrees feeds entries log agrees before e xs split has.0,
  agrees-each feeds entries log agrees (before ++ e ∷ []) xs (append_assoc before (e ∷ []) xs ∙ split) has.1,
)

pub yields-agreed : (feeds : Files) (entries : List Entry) (log : List DataEntry) → Agrees feeds entries log → EachFrom IsAllowedBehind [] entries → AllByRecursion (HasBatches log) entries →
    (part : PartKey) → IsOfSource part → EachFrom (ChainsBehind part) [] entries → Yield feeds part (base_of part entries) (end_or_start part entries) (committed_records part entries log)
yields-agreed feeds entries log agrees allowed has part source chains = yields-all feeds log part source entries allowed chains (agrees-each feeds entries log agrees [] entries refl has)
