-- The statuses that a compaction leaves say what all of them say.
use Rattle.std.proofs.Common.{◌≡◌, ℕ, ◌+◌, ◌≤◌, Bool, true, false, ◌||◌, cond, max, List, [], ◌∷◌, ◌++◌, ◌⊎◌, inl, inr, ⊎_elim, Result, Ok, Err, Option, None, Some, IsSome, refl, ap, sym, subst, ◌∙◌, arith}
use Rattle.std.specs.Option.{option_and_then, unwrap_or}
use Rattle.std.specs.List.{filter, filter_map, cons_option, fold, list_any, AllByRecursion}
use Rattle.std.specs.Str.{bytes_eq}
use Rattle.std.proofs.lemmas.List.Sums.{fold-append}
use Rattle.std.proofs.lemmas.Slice.Eq.{bytes_eq-Decides}
use Rattle.cw_types.specs.declared.ids.Item.{Item}
use Rattle.cw_types.specs.declared.ids.Item.TheVariants.{Connector}
use Rattle.cw_bytes.specs.declared.applied.Applied.{Applied}
use Rattle.cw_bytes.specs.Frames.{EachFrom, joined, next_after, is_last}
use Rattle.cw_bytes.proofs.Compacted.{OffsetsRise, ends, next_after-ends, repeats, keep_last, kept_last, joined-staying}
use Rattle.cw_keys.specs.Statuses.{status_item, status_of, status_value, with_item}
use Rattle.cw_keys.specs.declared.fault.KeyFault.{KeyFault}
use Rattle.cw_keys.specs.declared.state.State.TheVariants.{Running}
use Rattle.cw_keys.specs.declared.status.StatusValue.{StatusValue}
use Rattle.cw_json.specs.Reading.{reading}
use Rattle.cw_status.specs.declared.record.StatusRecord.{StatusRecord}
use Rattle.cw_status.specs.Statuses.{is_item, after_record, latest}
use Rattle.cw_status.specs.Compaction.{compact_statuses, record_with, record_in, records_in, IsAllowedStatus, AreAllowedStatuses, SaysTheSame}

-- ---- records as they are read

-- what no reading gives
abbrev unread : Applied → StatusRecord
unread a = record { offset = a.offset; item = Connector []; value = record { state = Running; trace = None; worker = 0; round = 0 } }

-- the record that fields are
abbrev read : Applied → StatusRecord
read a = unwrap_or (record_in a) (unread a)

abbrev AreRead : List Applied → Type 0
AreRead xs = AllByRecursion (λ a. IsSome (record_in a)) xs

some_is : {A : Type 0} (o : Option A) (d : A) → IsSome o → o ≡ Some (unwrap_or o d)
some_is None d is = cc
some_is (Some x) d is = refl

read-cons : (a : Applied) (xs : List Applied) → IsSome (record_in a) → filter_map record_in (a ∷ xs) ≡ read a ∷ filter_map record_in xs
read-cons a xs is = ap (λ (o : Option StatusRecord). cons_option o (filter_map record_in xs)) (some_is (record_in a) (unread a) is)

item_by : (a : Applied) (item : Option Item) (status : Option StatusValue) → IsSome (record_with a (with_item item status)) → item ≡ Some (unwrap_or (record_with a (with_item item status)) (unread a)).item
item_by a None status some = cc
item_by a (Some item) None some = cc
item_by a (Some item) (Some status) some = refl

item_in : (a : Applied) (value : Option (List ℕ)) → IsSome (option_and_then (λ text. record_with a (status_of a.key text)) value)
    → status_item a.key ≡ Some (unwrap_or (option_and_then (λ text. record_with a (status_of a.key text)) value) (unread a)).item
item_in a None some = cc
item_in a (Some text) some = item_by a (status_item a.key) (option_and_then status_value (reading text)) some

-- a record's item is that which its key names
item_of : (a : Applied) → IsSome (record_in a) → status_item a.key ≡ Some (read a).item
item_of a some = item_in a a.value some

same_item : (x y : Applied) → IsSome (record_in x) → IsSome (record_in y) → bytes_eq y.key x.key ≡ true → (read y).item ≡ (read x).item
same_item x y is_x is_y same =
    let spelled : y.key ≡ x.key = (bytes_eq-Decides y.key x.key).0 same in
    let one : Some (read y).item ≡ Some (read x).item = sym (item_of y is_y) ∙ ap status_item spelled ∙ item_of x is_x in
    cc one

-- ---- of each key the last record

either : (a b : Bool) → (a || b) ≡ true → (a ≡ true) ⊎ (b ≡ true)
either true b e = inl refl
either false b e = inr e

module _ (item : Item) where
  -- a later record of the item takes the place of what was before
  replaced : (x : Applied) → IsSome (record_in x) → is_item (read x).item item ≡ true → (xs : List Applied) → AreRead xs → repeats x.key xs ≡ true → (s t : Option StatusValue)
      → fold (after_record item) s (filter_map record_in xs) ≡ fold (after_record item) t (filter_map record_in xs)
  replaced x is of [] all e s t = cc
  replaced x is of (y ∷ xs) all e s t =
      ap (fold (after_record item) s) (read-cons y xs all.0)
      ∙ ⊎_elim
      (λ (here : bytes_eq y.key x.key ≡ true).
      let one : is_item (read y).item item ≡ true = ap (λ (i : Item). is_item i item) (same_item x y is all.0 here) ∙ of in
      ap (λ (b : Bool). fold (after_record item) (cond b (Some (read y).value) s) (filter_map record_in xs)) one
      ∙ sym (ap (λ (b : Bool). fold (after_record item) (cond b (Some (read y).value) t) (filter_map record_in xs)) one))
      (λ (later : repeats x.key xs ≡ true). replaced x is of xs all.1 later (after_record item s (read y)) (after_record item t (read y)))
      (either (bytes_eq y.key x.key) (repeats x.key xs) e)
      ∙ sym (ap (fold (after_record item) t) (read-cons y xs all.0))

  -- a record that comes again may go
  passed : (b : Bool) (s : Option StatusValue) (v : StatusValue) (rest : List StatusRecord)
      → (b ≡ true → fold (after_record item) s rest ≡ fold (after_record item) (Some v) rest) → fold (after_record item) s rest ≡ fold (after_record item) (cond b (Some v) s) rest
  passed true s v rest w = w refl
  passed false s v rest w = refl

  dropped_or_not : (b : Bool) (x : Applied) (kept all : List Applied) (s : Option StatusValue) → IsSome (record_in x)
      → ((t : Option StatusValue) → fold (after_record item) t (filter_map record_in kept) ≡ fold (after_record item) t (filter_map record_in all))
      → (b ≡ true → fold (after_record item) s (filter_map record_in all) ≡ fold (after_record item) (after_record item s (read x)) (filter_map record_in all))
      → fold (after_record item) s (filter_map record_in (cond b kept (x ∷ kept))) ≡ fold (after_record item) s (filter_map record_in (x ∷ all))
  dropped_or_not true x kept all s is same again = same s ∙ again refl ∙ sym (ap (fold (after_record item) s) (read-cons x all is))
  dropped_or_not false x kept all s is same again =
      ap (fold (after_record item) s) (read-cons x kept is) ∙ same (after_record item s (read x)) ∙ sym (ap (fold (after_record item) s) (read-cons x all is))

  latest_kept : (xs : List Applied) → AreRead xs → (s : Option StatusValue)
      → fold (after_record item) s (filter_map record_in (keep_last xs)) ≡ fold (after_record item) s (filter_map record_in xs)
  latest_kept [] all s = refl
  latest_kept (x ∷ xs) all s =
      dropped_or_not (repeats x.key xs) x (keep_last xs) xs s all.0 (latest_kept xs all.1)
      (λ (again : repeats x.key xs ≡ true).
      passed (is_item (read x).item item) s (read x).value (filter_map record_in xs)
      (λ (of : is_item (read x).item item ≡ true). replaced x all.0 of xs all.1 again s (Some (read x).value)))

-- ---- what is allowed rises, and is read

ends-push : (before : List Applied) (r : Applied) → next_after before ≤ r.offset → next_after (before ++ r ∷ []) ≡ r.offset + 1
ends-push before r above =
    let e : next_after before ≡ ends 0 before = next_after-ends before in
    let pushed : ends 0 (before ++ r ∷ []) ≡ max (ends 0 before) (r.offset + 1) = fold-append (λ end (q : Applied). max end (q.offset + 1)) 0 before (r ∷ []) in
    next_after-ends (before ++ r ∷ []) ∙ pushed ∙ omega (arith, e, above)

rises : (before xs : List Applied) (low : ℕ) → next_after before ≡ low → EachFrom IsAllowedStatus before xs → OffsetsRise low xs
rises before [] low is all = tt
rises before (x ∷ xs) low is all =
    (subst (λ (n : ℕ). n ≤ x.offset) is all.0.above, rises (before ++ x ∷ []) xs (x.offset + 1) (ends-push before x all.0.above) all.1)

are_read : (before xs : List Applied) → EachFrom IsAllowedStatus before xs → AreRead xs
are_read before [] all = tt
are_read before (x ∷ xs) all = (all.0.grammar, are_read (before ++ x ∷ []) xs all.1)

pub compacted : (frames : List (List Applied)) → AreAllowedStatuses frames → SaysTheSame (records_in (compact_statuses frames)) (records_in frames)
compacted frames all more item =
    let kept : latest item (records_in (compact_statuses frames)) ≡ latest item (records_in frames) =
    ap (λ (l : List Applied). latest item (filter_map record_in l)) (joined-staying (is_last (joined frames)) frames)
    ∙ ap (λ (l : List Applied). latest item (filter_map record_in l)) (kept_last (joined frames) (rises [] (joined frames) 0 refl all))
    ∙ latest_kept item (joined frames) (are_read [] (joined frames) all) None in
    fold-append (after_record item) None (records_in (compact_statuses frames)) more
    ∙ ap (λ (o : Option StatusValue). fold (after_record item) o more) kept
    ∙ sym (fold-append (after_record item) None (records_in frames) more)
