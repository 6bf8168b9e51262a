-- The log's end, what a marker settles, and how marks and room are behind an entry.
use Rattle.std.proofs.Common.{◌≡◌, ℕ, zero, suc, ◌+◌, ◌<◌, ◌≤◌, Bool, true, false, not, ◌&&◌, cond, List, [], ◌∷◌, ◌++◌, length, take, drop, get_or, Contains, Option, None, Some, is_some, is_none, IsSome, Result, Ok, Err, OnOk, refl, sym, ap, subst, ◌∙◌, arith, append_assoc, ⊎_elim}
use Rattle.std.specs.Prelude.{slice_get}
use Rattle.std.specs.Option.{option_or}
use Rattle.std.specs.declared.alloc.AllocError.{AllocError}
use Rattle.std.specs.Str.{bytes_eq}
use Rattle.std.specs.BTreeMap.{get}
use Rattle.std.specs.List.{list_any, count_by, AllByRecursion}
use Rattle.std.proofs.lemmas.List.{append-nil, length_push, take_more, drop_more, drop_all, take_all, same_from_push, length-take-le, take_at, drop_at}
use Rattle.std.proofs.lemmas.List.Elements.{Contains-append_left, Contains-append_right, Contains-append_cases, Contains-push_cases}
use Rattle.cw_types.specs.declared.ids.Tag.{Tag}
use Rattle.cw_data.specs.declared.entry.Batch.{Batch}
use Rattle.cw_data.specs.declared.entry.DataEntry.{DataEntry}
use Rattle.cw_data.specs.declared.entry.DataEntry.TheVariants.{Batch as InBatch, Mark}
use Rattle.cw_data.specs.declared.topic.Row.{Row}
use Rattle.cw_data.specs.declared.topic.Topic.{Topic}
use Rattle.cw_data.specs.declared.tables.Tables.{Tables}
use Rattle.cw_types.specs.Same.{same_tag, tag_order}
use Rattle.cw_data.specs.Log.{Record, records_of, records_in, mark_in, marker_of}
use Rattle.cw_data.specs.Rows.{Marks, batch_in, batch_at, mark_of_batch, is_marked, rows_in, rows_from, rows_of, BeginsUnmarked, TopicAt, EndsWith}
use Rattle.cw_data.specs.Tables.{marks_in, name_order, is_in_topic, NextAt, is_batch_of, after_mark, HasRows, RoomAt, HasRoom, Keeps}
use Rattle.cw_types.proofs.SameLemmas.{same_tag-Decides}
use Rattle.cw_data.proofs.Lists.{slice_get-left, slice_get-here, option_or-some, count-split}
use Rattle.cw_data.specs.Unmarked.{places_from, unmarked_of, KeepsPlaces, HasPlaces, Roomier}
use Rattle.cw_data.proofs.Waits.{in_places, keeps_roomier, has_roomier}
use Rattle.cw_data.proofs.Waiting.{rows_stay, rows_from-within, each_dropped}

-- the log's end
pub ends_with : (entries : List DataEntry) (place : ℕ) (entry : DataEntry) → length entries ≡ place + 1 → entry ≡ get_or entries place entry → EndsWith entries place entry
ends_with entries place entry long there =
    let within : place < length entries = omega (arith, long) in
    record {
      last = sym (take_all (place + 1) entries (omega (arith, long))) ∙ take_more entries place entry within ∙ ap (λ (e : DataEntry). take place entries ++ e ∷ []) (sym there);
      at = sym (length-take-le place entries (omega (arith, long)));
    }

pub drop_last : (entries : List DataEntry) (place : ℕ) (entry : DataEntry) → length entries ≡ place + 1 → entry ≡ get_or entries place entry → drop place entries ≡ entry ∷ []
drop_last entries place entry long there =
    let within : place < length entries = omega (arith, long) in
    drop_more entries place entry within ∙ ap (λ (e : DataEntry). e ∷ drop (place + 1) entries) (sym there) ∙ ap (λ (l : List DataEntry). entry ∷ l) (drop_all (place + 1) entries (omega (arith, long)))

pub one_last : (entries : List DataEntry) (place : ℕ) (a b : DataEntry) → EndsWith entries place a → EndsWith entries place b → a ≡ b
one_last entries place a b ends too = (same_from_push (take place entries) (take place entries) a b (sym ends.last ∙ too.last)).1

-- how a transaction is marked behind one entry more
or_assoc : {A : Type 0} (a b c : Option A) → option_or a (option_or b c) ≡ option_or (option_or a b) c
or_assoc None b c = refl
or_assoc (Some a) b c = refl

or_none : {A : Type 0} (a : Option A) → option_or a None ≡ a
or_none None = refl
or_none (Some a) = refl

pub marker_of-push : (tag : Tag) (entries : List DataEntry) (entry : DataEntry) → marker_of tag (entries ++ entry ∷ []) ≡ option_or (marker_of tag entries) (mark_in tag entry)
marker_of-push tag [] entry = or_none (mark_in tag entry)
marker_of-push tag (e ∷ es) entry = ap (option_or (mark_in tag e)) (marker_of-push tag es entry) ∙ or_assoc (mark_in tag e) (marker_of tag es) (mark_in tag entry)

pub marker_of-batch : (tag : Tag) (entries : List DataEntry) (batch : Batch) → marker_of tag (entries ++ InBatch batch ∷ []) ≡ marker_of tag entries
marker_of-batch tag entries batch = marker_of-push tag entries (InBatch batch) ∙ or_none (marker_of tag entries)

-- each row's batch is of its topic
pub record RowIn (entries : List DataEntry) (name : List ℕ) (row : Row) : Type 0 where
  pub batch : Batch
  pub there : slice_get entries row.place ≡ Some (InBatch batch)
  pub named : bytes_eq name batch.topic ≡ true

names : (b : Bool) (these : List Record) → 1 ≤ length (cond b these []) → b ≡ true
names true these some = refl
names false these some = absurd (omega (arith, some))

row_in : (all : List DataEntry) (name : List ℕ) (place first : ℕ) (entry : DataEntry) → slice_get all place ≡ Some entry → 1 ≤ length (records_in name entry) → (end : ℕ) → RowIn all name (record { first = first; end = end; place = place })
row_in all name place first (InBatch batch) there some end = record { batch = batch; there = there; named = names (bytes_eq name batch.topic) (records_of batch) some }
row_in all name place first (Mark tag committed) there some end = absurd (omega (arith, some))

rows_in_all : (all : List DataEntry) (name : List ℕ) (place first count : ℕ) (rows : List Row) → ((end : ℕ) → 1 ≤ count → RowIn all name (record { first = first; end = end; place = place })) → AllByRecursion (RowIn all name) rows → AllByRecursion (RowIn all name) (rows_in place first count ++ rows)
rows_in_all all name place first zero rows head each = each
rows_in_all all name place first (suc more) rows head each = (head (first + suc more) (omega arith), each)

pub each_row : (name : List ℕ) (front es : List DataEntry) (first : ℕ) → AllByRecursion (RowIn (front ++ es) name) (rows_from name (length front) first es)
each_row name front [] first = tt
each_row name front (e ∷ es) first =
    rows_in_all (front ++ e ∷ es) name (length front) first (length (records_in name e)) (rows_from name (length front + 1) (first + length (records_in name e)) es)
    (λ end some. row_in (front ++ e ∷ es) name (length front) first e (slice_get-here front e es) some end)
    (subst (λ n. AllByRecursion (RowIn (front ++ e ∷ es) name) (rows_from name n (first + length (records_in name e)) es)) (length_push front e)
    (subst (λ (l : List DataEntry). AllByRecursion (RowIn l name) (rows_from name (length (front ++ e ∷ [])) (first + length (records_in name e)) es)) (append_assoc front (e ∷ []) es)
    (each_row name (front ++ e ∷ []) es (first + length (records_in name e)))))

-- a topic whose next batch is another transaction's stays where it is
module _ (marks now : Marks) (tag : Tag) (committed : Bool) (falls : (q : Tag) → is_none (now q) ≡ (is_none (marks q) && not (same_tag tag q)))
    (entries : List DataEntry) (name : List ℕ) (places : List ℕ) (are : places ≡ unmarked_of marks entries tag) where
  unmarked_is : (o : Option Bool) → is_some o ≡ false → is_none o ≡ true
  unmarked_is None none = refl
  unmarked_is (Some b) none = cc

  marked_isnt : (o : Option Bool) → is_none o ≡ true → is_some o ≡ false
  marked_isnt None none = refl
  marked_isnt (Some b) none = cc

  abbrev in_topic : ℕ → Bool
  in_topic place = is_in_topic name (batch_at (entries ++ Mark tag committed ∷ []) place)

  -- the batch is of another transaction, since none of that one's places is in the topic
  other_tag : (row : Row) (at : RowIn entries name row) → row.place < length entries → is_none (marks at.batch.tag) ≡ true → list_any in_topic places ≡ false → (b : Bool) → same_tag tag at.batch.tag ≡ b → b ≡ false
  other_tag row at within unmarked none true same =
      let there : batch_at (entries ++ Mark tag committed ∷ []) row.place ≡ Some at.batch = ap batch_in (slice_get-left entries (Mark tag committed ∷ []) row.place within ∙ at.there) in
      let here : row.place ≡ 0 + row.place = omega arith in
      let free : is_none (marks tag) ≡ true = ap (λ (t : Tag). is_none (marks t)) ((same_tag-Decides tag at.batch.tag).0 same) ∙ unmarked in
      let all : places ≡ places_from tag 0 entries = are ∙ ap (λ (b : Bool). cond b (places_from tag 0 entries) []) free in
      let passes : in_topic (0 + row.place) ≡ true = subst (λ n. in_topic n ≡ true) here (ap (is_in_topic name) there ∙ at.named) in
      sym (ap (list_any in_topic) all ∙ in_places tag in_topic 0 row.place entries (InBatch at.batch) at.there same passes) ∙ none
  other_tag row at within unmarked none false same = refl

  still : (row : Row) → RowIn entries name row → row.place < length entries → is_marked marks entries row ≡ false
      → list_any in_topic places ≡ false → is_marked now (entries ++ Mark tag committed ∷ []) row ≡ false
  still row at within was none =
      let unmarked = unmarked_is (marks at.batch.tag) (sym (ap (λ o. is_some (mark_of_batch marks (batch_in o))) at.there) ∙ was) in
      let other = other_tag row at within unmarked none (same_tag tag at.batch.tag) refl in
      ap (λ o. is_some (mark_of_batch now (batch_in o))) (slice_get-left entries (Mark tag committed ∷ []) row.place within ∙ at.there)
      ∙ marked_isnt (now at.batch.tag) (falls at.batch.tag ∙ ap (λ a. a && not (same_tag tag at.batch.tag)) unmarked ∙ ap not other)

  begins_still : (rows : List Row) → AllByRecursion (RowIn entries name) rows → AllByRecursion (λ (row : Row). row.place < length entries) rows → BeginsUnmarked marks entries rows
      → list_any in_topic places ≡ false → BeginsUnmarked now (entries ++ Mark tag committed ∷ []) rows
  begins_still [] rows within was none = tt
  begins_still (row ∷ rows) all each was none = still row all.0 each.0 was none

  pub next_behind : (o : Option Topic) → TopicAt marks entries name o → NextAt now (entries ++ Mark tag committed ∷ []) name places o
  next_behind None was = tt
  next_behind (Some topic) was = λ none.
      subst (λ (l : List Row). BeginsUnmarked now (entries ++ Mark tag committed ∷ []) (drop topic.passed l)) (sym (rows_stay name entries (Mark tag committed) refl))
      (begins_still (drop topic.passed (rows_of name entries))
      (each_dropped (RowIn entries name) topic.passed (rows_of name entries) (each_row name [] entries 0))
      (each_dropped (λ (row : Row). row.place < length entries) topic.passed (rows_of name entries) (rows_from-within name 0 0 entries (length entries) (omega arith)))
      was.next none)

-- marks behind a marker
pub stays_marked : (marks : Marks) (tag : Tag) (committed : Bool) (now : Marks) → ((q : Tag) → now q ≡ after_mark marks tag committed q) → (q : Tag) → is_some (marks q) ≡ true → now q ≡ marks q
stays_marked marks tag committed now is q marked = is q ∙ option_or-some (marks q) (cond (same_tag q tag) (Some committed) None) marked

-- room behind an entry
pub contains_more : (front : List DataEntry) (entry : DataEntry) (back : List DataEntry) (e : DataEntry) → Contains (front ++ back) e → Contains (front ++ entry ∷ back) e
contains_more front entry back e there = ⊎_elim
    (λ (a : Contains front e). Contains-append_left front (entry ∷ back) e a)
    (λ (b : Contains back e). Contains-append_right front (entry ∷ back) e (Contains-append_right (entry ∷ []) back e b))
    (Contains-append_cases front back e there)

pub room_behind : (old now : Tables) (entry : DataEntry) → ((e : DataEntry) → HasRows old e → HasRows now e)
    → ((front back : List DataEntry) → HasPlaces old.unmarked (front ++ entry ∷ back) → HasPlaces now.unmarked (front ++ back))
    → ((n : ℕ) (name : List ℕ) → RoomAt (n + cond (is_batch_of name entry) 1 0) (get name_order old.topics name) → RoomAt n (get name_order now.topics name))
    → (front back : List DataEntry) → HasRoom old (front ++ entry ∷ back) → HasRoom now (front ++ back)
room_behind old now entry rows unmarked topics front back was = record {
  rows = λ e there. rows e (was.rows e (contains_more front entry back e there));
  unmarked = unmarked front back was.unmarked;
  topics = λ name. topics (count_by (is_batch_of name) (front ++ back)) name (subst (λ n. RoomAt n (get name_order old.topics name)) (count-split (is_batch_of name) front entry back) (was.topics name));
}

pub rows_kept : (old now : Tables) → ((name : List ℕ) → IsSome (get name_order old.topics name) → IsSome (get name_order now.topics name)) → ((q : Tag) → IsSome (get tag_order old.marks q) → IsSome (get tag_order now.marks q))
    → (entry : DataEntry) → HasRows old entry → HasRows now entry
rows_kept old now topics marks (InBatch batch) had = topics batch.topic had
rows_kept old now topics marks (Mark tag committed) had = marks tag had

pub none_is : (o : Option Bool) (b : Bool) → is_some o ≡ not b → b ≡ is_none o
none_is None true e = refl
none_is None false e = cc
none_is (Some c) true e = cc
none_is (Some c) false e = refl

-- tables that read as before
fun_path : {A B : Type 0} {f g : A → B} → ((x : A) → f x ≡ g x) → f ≡ g
fun_path same = λ i x. same x i

pub reads_as_before : (old now : Tables) → ((q : Tag) → marks_in now.marks q ≡ marks_in old.marks q) → Roomier old.unmarked now.unmarked
    → ((marks : Marks) (entries : List DataEntry) (name : List ℕ) → TopicAt marks entries name (get name_order old.topics name) → TopicAt marks entries name (get name_order now.topics name))
    → (entries : List DataEntry) → Keeps old entries → Keeps now entries
reads_as_before old now marks unmarked topics entries was =
    let same : marks_in old.marks ≡ marks_in now.marks = fun_path (λ q. sym (marks q)) in
    record {
      marks = λ q. marks q ∙ was.marks q;
      unmarked = subst (λ (m : Marks). KeepsPlaces m entries now.unmarked) same (keeps_roomier (marks_in old.marks) entries old.unmarked now.unmarked unmarked was.unmarked);
      topics = λ name. subst (λ (m : Marks). TopicAt m entries name (get name_order now.topics name)) same (topics (marks_in old.marks) entries name (was.topics name));
    }

-- the same room, and room for one entry more
pub same_room : (old now : Tables) → ((entry : DataEntry) → HasRows old entry → HasRows now entry) → Roomier old.unmarked now.unmarked
    → (reserved : List DataEntry) → ((name : List ℕ) → RoomAt (count_by (is_batch_of name) reserved) (get name_order old.topics name) → RoomAt (count_by (is_batch_of name) reserved) (get name_order now.topics name))
    → HasRoom old reserved → HasRoom now reserved
same_room old now rows unmarked reserved topics was = record {
  rows = λ entry there. rows entry (was.rows entry there);
  unmarked = has_roomier old.unmarked now.unmarked reserved unmarked was.unmarked;
  topics = λ name. topics name (was.topics name);
}

pub more_room : (now : Tables) (reserved : List DataEntry) (entry : DataEntry) → HasRoom now reserved → HasRows now entry → HasPlaces now.unmarked (reserved ++ entry ∷ [])
    → ((name : List ℕ) → RoomAt (count_by (is_batch_of name) reserved + cond (is_batch_of name entry) 1 0) (get name_order now.topics name)) → HasRoom now (reserved ++ entry ∷ [])
more_room now reserved entry was has unmarked topics = record {
  rows = λ e there. ⊎_elim (λ (old : Contains reserved e). was.rows e old) (λ (one : entry ≡ e). subst (λ (x : DataEntry). HasRows now x) one has) (Contains-push_cases reserved entry e there);
  unmarked = unmarked;
  topics = λ name. subst (λ n. RoomAt n (get name_order now.topics name)) (sym (count-split (is_batch_of name) reserved entry [] ∙ ap (λ (l : List DataEntry). count_by (is_batch_of name) l + cond (is_batch_of name entry) 1 0) (append-nil reserved))) (topics name);
}

-- what two facts of a call that gave no error say together
pub on_both : {P Q R : Type 0} (r : Result (Unit {0}) AllocError) → OnOk r P → OnOk r Q → (P → Q → R) → OnOk r R
on_both (Ok x) p q both = both p q
on_both (Err e) p q both = tt

pub on_three : {P Q S R : Type 0} (r : Result (Unit {0}) AllocError) → OnOk r P → OnOk r Q → OnOk r S → (P → Q → S → R) → OnOk r R
on_three (Ok x) p q s all = all p q s
on_three (Err e) p q s all = tt

pub on_any : {P : Type 0} (r : Result (Unit {0}) AllocError) → P → OnOk r P
on_any (Ok x) p = p
on_any (Err e) p = tt

-- a log behind a push
pub pushed_front : (now old : List DataEntry) (entry : DataEntry) (place : ℕ) → now ≡ old ++ entry ∷ [] → place ≡ length old → take place now ≡ old
pushed_front now old entry place is at = ap (take place) is ∙ take_at old (entry ∷ []) place (sym at)

pub pushed_end : (now old : List DataEntry) (entry : DataEntry) (place : ℕ) → now ≡ old ++ entry ∷ [] → place ≡ length old → drop place now ≡ entry ∷ []
pushed_end now old entry place is at = ap (drop place) is ∙ drop_at old (entry ∷ []) place (sym at)

pub pushed_last : (now old : List DataEntry) (entry : DataEntry) (place : ℕ) → now ≡ old ++ entry ∷ [] → (last : DataEntry) → EndsWith now place last → last ≡ entry
pushed_last now old entry place is last ends = (same_from_push (take place now) old last entry (sym ends.last ∙ is)).1
