-- A topic's rows behind one entry more, and behind one row passed.
use Rattle.std.proofs.Common.{◌≡◌, ℕ, zero, suc, ◌+◌, ◌<◌, ◌≤◌, Bool, true, false, cond, ◌||◌, List, [], ◌∷◌, ◌++◌, length, take, drop, get_or, Option, None, Some, is_some, refl, sym, ap, subst, ◌∙◌, arith, append_assoc, length-append}
use Rattle.std.specs.Prelude.{slice_set}
use Rattle.std.specs.List.{filter, list_any, AllByRecursion}
use Rattle.std.proofs.lemmas.Grind.{flat_map-append}
use Rattle.std.proofs.lemmas.Slice.Eq.{bytes_eq-Decides}
use Rattle.std.proofs.lemmas.List.{append-nil, take-append-le, drop-append-le, length-map, get_or-drop, drop_more, drop_all}
use Rattle.std.proofs.lemmas.List.Elements.{All-more, All-from_recursion, recursion_from_All}
use Rattle.std.proofs.lemmas.List.Filters.{FiltersInPlace, FiltersInPlace-more_no, FiltersInPlace-more_set}
use Rattle.cw_types.specs.declared.ids.Tag.{Tag}
use Rattle.cw_data.specs.declared.entry.Batch.{Batch}
use Rattle.cw_data.specs.declared.entry.DataEntry.{DataEntry}
use Rattle.cw_data.specs.declared.entry.DataEntry.TheVariants.{Batch as InBatch}
use Rattle.cw_data.specs.declared.topic.Row.{Row}
use Rattle.cw_data.specs.declared.topic.Topic.{Topic}
use Rattle.cw_data.specs.Log.{Record, records_of, records_in, records, is_commit}
use Rattle.cw_data.specs.Rows.{Marks, batch_in, batch_at, mark_of_batch, mark_at, commits, is_marked, rows_in, rows_from, rows_of, BeginsUnmarked, Waits, IsTopic, WaitsAt, TopicAt}
use Rattle.cw_data.specs.Tables.{is_in_topic, NextAt}
use Rattle.cw_data.proofs.Lists.{slice_get-left, each_taken, each_both, each_one, filter_alike}

rows_at : (place at first end count : ℕ) → place ≡ at → first ≡ end → rows_in place first count ≡ rows_in at end count
rows_at place at first end count same where' = ap (λ n. rows_in n first count) same ∙ ap (λ n. rows_in at n count) where'

pub rows_from-push : (topic : List ℕ) (place first : ℕ) (entries : List DataEntry) (entry : DataEntry) →
    rows_from topic place first (entries ++ entry ∷ []) ≡ rows_from topic place first entries ++ rows_in (place + length entries) (first + length (records topic entries)) (length (records_in topic entry))
rows_from-push topic place first [] entry = append-nil (rows_in place first (length (records_in topic entry))) ∙ rows_at place (place + 0) first (first + 0) (length (records_in topic entry)) (omega arith) (omega arith)
rows_from-push topic place first (e ∷ es) entry =
    ap (λ (l : List Row). rows_in place first (length (records_in topic e)) ++ l)
    (rows_from-push topic (place + 1) (first + length (records_in topic e)) es entry)
    ∙ sym (append_assoc (rows_in place first (length (records_in topic e))) (rows_from topic (place + 1) (first + length (records_in topic e)) es)
    (rows_in (place + 1 + length es) (first + length (records_in topic e) + length (records topic es)) (length (records_in topic entry))))
    ∙ ap (λ (l : List Row). rows_in place first (length (records_in topic e)) ++ rows_from topic (place + 1) (first + length (records_in topic e)) es ++ l)
    (rows_at (place + 1 + length es) (place + suc (length es)) (first + length (records_in topic e) + length (records topic es)) (first + length (records topic (e ∷ es))) (length (records_in topic entry))
    (omega arith) (omega (arith, length-append (records_in topic e) (records topic es))))

pub records-push : (topic : List ℕ) (entries : List DataEntry) (entry : DataEntry) → records topic (entries ++ entry ∷ []) ≡ records topic entries ++ records_in topic entry
records-push topic entries entry = flat_map-append (records_in topic) entries (entry ∷ []) ∙ ap (λ (l : List Record). records topic entries ++ l) (append-nil (records_in topic entry))

-- each row's batch stands among the entries
here : (n place first count : ℕ) (rows : List Row) → place < n → AllByRecursion (λ (row : Row). row.place < n) rows → AllByRecursion (λ (row : Row). row.place < n) (rows_in place first count ++ rows)
here n place first zero rows within each = each
here n place first (suc more) rows within each = (within, each)

pub rows_from-within : (topic : List ℕ) (place first : ℕ) (entries : List DataEntry) (n : ℕ) → place + length entries ≤ n → AllByRecursion (λ (row : Row). row.place < n) (rows_from topic place first entries)
rows_from-within topic place first [] n within = tt
rows_from-within topic place first (e ∷ es) n within =
    here n place first (length (records_in topic e)) (rows_from topic (place + 1) (first + length (records_in topic e)) es) (omega (arith, within))
    (rows_from-within topic (place + 1) (first + length (records_in topic e)) es n (omega (arith, within)))

-- marks that stay where they are
module _ (marks now : Marks) (stay : (tag : Tag) → is_some (marks tag) ≡ true → now tag ≡ marks tag) where
  mark_stays : (o : Option Batch) → is_some (mark_of_batch marks o) ≡ true → mark_of_batch now o ≡ mark_of_batch marks o
  mark_stays None marked = refl
  mark_stays (Some batch) marked = stay batch.tag marked

  module _ (entries : List DataEntry) (entry : DataEntry) where
    mark_at-stays : (place : ℕ) → place < length entries → is_some (mark_at marks entries place) ≡ true → mark_at now (entries ++ entry ∷ []) place ≡ mark_at marks entries place
    mark_at-stays place within marked =
        ap (λ o. mark_of_batch now (batch_in o)) (slice_get-left entries (entry ∷ []) place within) ∙ mark_stays (batch_at entries place) marked

    module _ (name : List ℕ) (topic next : Topic) (items : next.rows.items ≡ topic.rows.items ++ rows_in (length entries) topic.end (length (records_in name entry)))
        (end : next.end ≡ topic.end + length (records_in name entry)) (kept : next.kept ≡ topic.kept) (passed : next.passed ≡ topic.passed) (was : Waits marks entries name topic) where
      more : List Row
      more = rows_in (length entries) topic.end (length (records_in name entry))

      rows_are : rows_of name (entries ++ entry ∷ []) ≡ rows_of name entries ++ rows_in (length entries) topic.end (length (records_in name entry))
      rows_are = rows_from-push name 0 0 entries entry
          ∙ ap (λ (l : List Row). rows_of name entries ++ l) (rows_at (0 + length entries) (length entries) (0 + length (records name entries)) topic.end (length (records_in name entry)) (omega arith) (omega (arith, was.end)))

      within : topic.passed ≤ length (rows_of name entries)
      within = omega (arith, was.within, was.long)

      front_is : take next.passed (rows_of name (entries ++ entry ∷ [])) ≡ take topic.passed (rows_of name entries)
      front_is = ap (λ n. take n (rows_of name (entries ++ entry ∷ []))) passed ∙ ap (take topic.passed) rows_are
          ∙ take-append-le topic.passed (rows_of name entries) (rows_in (length entries) topic.end (length (records_in name entry))) within

      same : AllByRecursion (λ (row : Row). mark_at now (entries ++ entry ∷ []) row.place ≡ mark_at marks entries row.place) (take topic.passed (rows_of name entries))
      same = each_both (λ (row : Row). row.place < length entries) (λ (row : Row). is_marked marks entries row ≡ true) (λ (row : Row). mark_at now (entries ++ entry ∷ []) row.place ≡ mark_at marks entries row.place)
          (λ row within marked. mark_at-stays row.place within marked) (take topic.passed (rows_of name entries))
          (each_taken (λ (row : Row). row.place < length entries) topic.passed (rows_of name entries) (rows_from-within name 0 0 entries (length entries) (omega arith)))
          was.marked

      -- a topic behind one entry more
      pub waits_more : Waits now (entries ++ entry ∷ []) name next
      waits_more = record {
        front = ap (λ n. take n next.rows.items) kept ∙ ap (take topic.kept) items
            ∙ take-append-le topic.kept topic.rows.items (rows_in (length entries) topic.end (length (records_in name entry))) (omega (arith, was.behind, was.within))
            ∙ was.front
            ∙ filter_alike (commits marks entries) (commits now (entries ++ entry ∷ [])) (take topic.passed (rows_of name entries))
            (each_one (λ (row : Row). mark_at now (entries ++ entry ∷ []) row.place ≡ mark_at marks entries row.place) (λ (row : Row). commits marks entries row ≡ commits now (entries ++ entry ∷ []) row)
            (λ row e. sym (ap is_commit e)) (take topic.passed (rows_of name entries)) same)
            ∙ ap (filter (commits now (entries ++ entry ∷ []))) (sym front_is);
        marked = subst (AllByRecursion (λ (row : Row). is_marked now (entries ++ entry ∷ []) row ≡ true)) (sym front_is)
            (each_both (λ (row : Row). mark_at now (entries ++ entry ∷ []) row.place ≡ mark_at marks entries row.place) (λ (row : Row). is_marked marks entries row ≡ true) (λ (row : Row). is_marked now (entries ++ entry ∷ []) row ≡ true)
            (λ row e marked. ap is_some e ∙ marked) (take topic.passed (rows_of name entries)) same was.marked);
        back = ap (λ n. drop n next.rows.items) passed ∙ ap (drop topic.passed) items
            ∙ drop-append-le topic.passed topic.rows.items (rows_in (length entries) topic.end (length (records_in name entry))) was.within
            ∙ ap (λ (l : List Row). l ++ rows_in (length entries) topic.end (length (records_in name entry))) was.back
            ∙ sym (drop-append-le topic.passed (rows_of name entries) (rows_in (length entries) topic.end (length (records_in name entry))) within)
            ∙ ap (drop topic.passed) (sym rows_are) ∙ ap (λ n. drop n (rows_of name (entries ++ entry ∷ []))) (sym passed);
        behind = omega (arith, was.behind, kept, passed);
        within = omega (arith, was.within, passed, ap length items, length-append topic.rows.items (rows_in (length entries) topic.end (length (records_in name entry))));
        long = ap length items ∙ length-append topic.rows.items (rows_in (length entries) topic.end (length (records_in name entry)))
            ∙ ap (λ n. n + length (rows_in (length entries) topic.end (length (records_in name entry)))) was.long
            ∙ sym (length-append (rows_of name entries) (rows_in (length entries) topic.end (length (records_in name entry)))) ∙ ap length (sym rows_are);
        end = end ∙ ap (λ n. n + length (records_in name entry)) was.end ∙ sym (length-append (records name entries) (records_in name entry)) ∙ ap length (sym (records-push name entries entry));
      }

-- one row passed
module _ (marks : Marks) (entries : List DataEntry) (name : List ℕ) (topic : Topic) (was : Waits marks entries name topic) (row : Row)
    (within : topic.passed < length topic.rows.items) (there : row ≡ get_or topic.rows.items topic.passed row) where
  in_place : FiltersInPlace (commits marks entries) (rows_of name entries) topic.rows.items topic.kept topic.passed
  in_place = record { front = was.front; rest = was.back; behind = was.behind; within = omega (arith, was.within, was.long); long = was.long }

  row_is : row ≡ get_or (rows_of name entries) topic.passed row
  row_is = there ∙ ap (λ n. get_or topic.rows.items n row) (omega arith) ∙ sym (get_or-drop topic.passed topic.rows.items 0 row)
      ∙ ap (λ (l : List Row). get_or l 0 row) was.back ∙ get_or-drop topic.passed (rows_of name entries) 0 row ∙ ap (λ n. get_or (rows_of name entries) n row) (omega arith)

  marked_more : is_marked marks entries row ≡ true → AllByRecursion (λ (r : Row). is_marked marks entries r ≡ true) (take (topic.passed + 1) (rows_of name entries))
  marked_more marked = recursion_from_All (λ (r : Row). is_marked marks entries r ≡ true) (take (topic.passed + 1) (rows_of name entries))
      (All-more (λ (r : Row). is_marked marks entries r ≡ true) (rows_of name entries) topic.passed row (omega (arith, within, was.long))
      (All-from_recursion (λ (r : Row). is_marked marks entries r ≡ true) (take topic.passed (rows_of name entries)) was.marked)
      (subst (λ (r : Row). is_marked marks entries r ≡ true) row_is marked))

  pub waits_past : (next : Topic) → mark_at marks entries row.place ≡ Some false → next.rows.items ≡ topic.rows.items → next.end ≡ topic.end → next.kept ≡ topic.kept → next.passed ≡ topic.passed + 1
      → Waits marks entries name next
  waits_past next marked items end kept passed =
      let moved = FiltersInPlace-more_no {p = commits marks entries} {xs = rows_of name entries} {ys = topic.rows.items} {k = topic.kept} {i = topic.passed} {x = row} in_place within (ap is_commit marked) there in
      record {
        front = rw (kept, items, passed) moved.front;
        marked = rw passed (marked_more (ap is_some marked));
        back = rw (passed, items) moved.rest;
        behind = omega (arith, kept, passed, moved.behind);
        within = omega (arith, passed, moved.within, moved.long, ap length items);
        long = rw items moved.long;
        end = end ∙ was.end;
      }

  pub waits_kept : (next : Topic) → mark_at marks entries row.place ≡ Some true → next.rows.items ≡ slice_set topic.rows.items topic.kept row → next.end ≡ topic.end → next.kept ≡ topic.kept + 1 → next.passed ≡ topic.passed + 1
      → Waits marks entries name next
  waits_kept next marked items end kept passed =
      let moved = FiltersInPlace-more_set {p = commits marks entries} {xs = rows_of name entries} {ys = topic.rows.items} {k = topic.kept} {i = topic.passed} {x = row} in_place within (ap is_commit marked) there in
      record {
        front = rw (kept, items, passed) moved.front;
        marked = rw passed (marked_more (ap is_some marked));
        back = rw (passed, items) moved.rest;
        behind = omega (arith, kept, passed, moved.behind);
        within = omega (arith, passed, moved.within, moved.long, ap length items);
        long = rw items moved.long;
        end = end ∙ was.end;
      }

  -- a row that isn't marked is the next one
  pub next_is : mark_at marks entries row.place ≡ None → IsTopic marks entries name topic
  next_is unmarked = record {
    waits = was;
    next = subst (BeginsUnmarked marks entries) (sym (drop_more (rows_of name entries) topic.passed row (omega (arith, within, was.long))))
        (subst (λ (r : Row). is_marked marks entries r ≡ false) row_is (ap is_some unmarked));
  }

-- all rows passed
pub all_passed : (marks : Marks) (entries : List DataEntry) (name : List ℕ) (topic : Topic) → Waits marks entries name topic → length topic.rows.items ≤ topic.passed → IsTopic marks entries name topic
all_passed marks entries name topic was past = record {
  waits = was;
  next = subst (BeginsUnmarked marks entries) (sym (drop_all topic.passed (rows_of name entries) (omega (arith, past, was.long)))) tt;
}

-- a topic without records has no row
pub rows_from-none : (topic : List ℕ) (place first : ℕ) (entries : List DataEntry) → length (records topic entries) ≡ 0 → rows_from topic place first entries ≡ []
rows_from-none topic place first [] none = refl
rows_from-none topic place first (e ∷ es) none =
    let both = length-append (records_in topic e) (records topic es) in
    let front : length (records_in topic e) ≡ 0 = omega (arith, both, none) in
    let back : length (records topic es) ≡ 0 = omega (arith, both, none) in
    ap (λ n. rows_in place first n ++ rows_from topic (place + 1) (first + length (records_in topic e)) es) front
    ∙ rows_from-none topic (place + 1) (first + length (records_in topic e)) es back

pub new_topic : (marks : Marks) (entries : List DataEntry) (name : List ℕ) (topic : Topic) → topic.rows.items ≡ [] → topic.end ≡ 0 → topic.kept ≡ 0 → topic.passed ≡ 0
    → records name entries ≡ [] → IsTopic marks entries name topic
new_topic marks entries name topic items end kept passed none =
    let empty = rows_from-none name 0 0 entries (ap length none) in
    record {
      waits = record {
        front = rw (kept, passed) refl;
        marked = rw passed tt;
        back = rw (passed, items) (sym empty);
        behind = omega (arith, kept, passed);
        within = omega (arith, passed);
        long = ap length (items ∙ sym empty);
        end = end ∙ sym (ap length none);
      };
      next = subst (BeginsUnmarked marks entries) (sym (ap (λ n. drop n (rows_of name entries)) passed ∙ empty)) tt;
    }

-- a topic that has only more room
pub same_waits : (marks : Marks) (entries : List DataEntry) (name : List ℕ) (topic next : Topic) → next.rows.items ≡ topic.rows.items → next.end ≡ topic.end → next.kept ≡ topic.kept → next.passed ≡ topic.passed
    → Waits marks entries name topic → Waits marks entries name next
same_waits marks entries name topic next items end kept passed was = record {
  front = rw (kept, items, passed) was.front;
  marked = rw passed was.marked;
  back = rw (passed, items) was.back;
  behind = omega (arith, kept, passed, was.behind);
  within = omega (arith, passed, was.within, ap length items);
  long = ap length items ∙ was.long;
  end = end ∙ was.end;
}

pub same_topic : (marks : Marks) (entries : List DataEntry) (name : List ℕ) (topic next : Topic) → next.rows.items ≡ topic.rows.items → next.end ≡ topic.end → next.kept ≡ topic.kept → next.passed ≡ topic.passed
    → IsTopic marks entries name topic → IsTopic marks entries name next
same_topic marks entries name topic next items end kept passed was = record {
  waits = same_waits marks entries name topic next items end kept passed was.waits;
  next = rw passed was.next;
}

-- marks that agree at each transaction, and a topic to which an entry adds nothing
pub waits_on : (marks now : Marks) (stay : (tag : Tag) → is_some (marks tag) ≡ true → now tag ≡ marks tag) (entries : List DataEntry) (entry : DataEntry) (name : List ℕ) (topic : Topic)
    → records_in name entry ≡ [] → Waits marks entries name topic → Waits now (entries ++ entry ∷ []) name topic
waits_on marks now stay entries entry name topic none was =
    let n : length (records_in name entry) ≡ 0 = ap length none in
    waits_more marks now stay entries entry name topic topic
    (sym (ap (λ k. topic.rows.items ++ rows_in (length entries) topic.end k) n ∙ append-nil topic.rows.items)) (omega (arith, n)) refl refl was

-- by what is kept of a topic
pub waits_from_topic : (marks : Marks) (entries : List DataEntry) (name : List ℕ) (o : Option Topic) → TopicAt marks entries name o → WaitsAt marks entries name o
waits_from_topic marks entries name None was = was
waits_from_topic marks entries name (Some topic) was = was.waits

begins_on : (marks : Marks) (entries : List DataEntry) (entry : DataEntry) (rows : List Row) → AllByRecursion (λ (row : Row). row.place < length entries) rows → BeginsUnmarked marks entries rows → BeginsUnmarked marks (entries ++ entry ∷ []) rows
begins_on marks entries entry [] each begins = tt
begins_on marks entries entry (row ∷ rows) each begins = ap (λ o. is_some (mark_of_batch marks (batch_in o))) (slice_get-left entries (entry ∷ []) row.place each.0) ∙ begins

pub each_dropped : {A : Type 0} (P : A → Type 0) (n : ℕ) (xs : List A) → AllByRecursion P xs → AllByRecursion P (drop n xs)
each_dropped P zero xs each = each
each_dropped P (suc n) [] each = tt
each_dropped P (suc n) (x ∷ xs) each = each_dropped P n xs each.1

pub rows_stay : (name : List ℕ) (entries : List DataEntry) (entry : DataEntry) → records_in name entry ≡ [] → rows_of name (entries ++ entry ∷ []) ≡ rows_of name entries
rows_stay name entries entry none = rows_from-push name 0 0 entries entry
    ∙ ap (λ (l : List Record). rows_of name entries ++ rows_in (0 + length entries) (0 + length (records name entries)) (length l)) none ∙ append-nil (rows_of name entries)

pub records_stay : (name : List ℕ) (entries : List DataEntry) (entry : DataEntry) → records_in name entry ≡ [] → records name (entries ++ entry ∷ []) ≡ records name entries
records_stay name entries entry none = records-push name entries entry ∙ ap (λ (l : List Record). records name entries ++ l) none ∙ append-nil (records name entries)

-- an entry that adds nothing to a topic, where the marks stay
pub topic_stays : (marks : Marks) (entries : List DataEntry) (entry : DataEntry) (name : List ℕ) (o : Option Topic) → records_in name entry ≡ [] → TopicAt marks entries name o → TopicAt marks (entries ++ entry ∷ []) name o
topic_stays marks entries entry name None none was = records_stay name entries entry none ∙ was
topic_stays marks entries entry name (Some topic) none was = record {
  waits = waits_on marks marks (λ tag marked. refl) entries entry name topic none was.waits;
  next = subst (λ (l : List Row). BeginsUnmarked marks (entries ++ entry ∷ []) (drop topic.passed l)) (sym (rows_stay name entries entry none))
      (begins_on marks entries entry (drop topic.passed (rows_of name entries))
      (each_dropped (λ (row : Row). row.place < length entries) topic.passed (rows_of name entries) (rows_from-within name 0 0 entries (length entries) (omega arith))) was.next);
}

-- the same for the waiting of a topic, where marks may come
pub waits_stay : (marks now : Marks) (stay : (tag : Tag) → is_some (marks tag) ≡ true → now tag ≡ marks tag) (entries : List DataEntry) (entry : DataEntry) (name : List ℕ) (o : Option Topic)
    → records_in name entry ≡ [] → WaitsAt marks entries name o → WaitsAt now (entries ++ entry ∷ []) name o
waits_stay marks now stay entries entry name None none was = records_stay name entries entry none ∙ was
waits_stay marks now stay entries entry name (Some topic) none was = waits_on marks now stay entries entry name topic none was

-- one step of passing what a marker settles
module _ (marks : Marks) (entries : List DataEntry) (name : List ℕ) where
  pub next_from_topic : (places : List ℕ) (o : Option Topic) → TopicAt marks entries name o → NextAt marks entries name places o
  next_from_topic places None was = tt
  next_from_topic places (Some topic) was = λ none. was.next

  pub next_on : (place : ℕ) (places : List ℕ) (o : Option Topic) → is_in_topic name (batch_at entries place) ≡ false → NextAt marks entries name (place ∷ places) o → NextAt marks entries name places o
  next_on place places None other was = tt
  next_on place places (Some topic) other was = λ none. was (ap (λ b. b || list_any (λ p. is_in_topic name (batch_at entries p)) places) other ∙ none)

  pub topic_from : (o : Option Topic) → WaitsAt marks entries name o → NextAt marks entries name [] o → TopicAt marks entries name o
  topic_from None waits next = waits
  topic_from (Some topic) waits next = record { waits = waits; next = next refl }

pub by_bool : {P : Type 0} (b : Bool) → (b ≡ true → P) → (b ≡ false → P) → P
by_bool true yes' no' = yes' refl
by_bool false yes' no' = no' refl

-- a batch adds its values to its topic
pub count_is : (batch : Batch) (name : List ℕ) → name ≡ batch.topic → length (records_in name (InBatch batch)) ≡ length batch.values
count_is batch name same =
    ap (λ b. length (cond b (records_of batch) [])) ((bytes_eq-Decides name batch.topic).1 same) ∙ length-map batch.values (λ (value : List ℕ). record { tag = batch.tag; value = value })
