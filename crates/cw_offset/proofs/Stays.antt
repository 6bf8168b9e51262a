-- The entries of the offset log that a compaction leaves are allowed where they stand.
use Rattle.std.proofs.Common.{◌≡◌, ℕ, ◌+◌, ◌≤◌, ◌==◌, Bool, true, false, not, ◌||◌, cond, max, List, [], ◌∷◌, ◌++◌, length, map, refl, ap, sym, subst, ◌∙◌, append_assoc, arith}
use Rattle.std.specs.List.{filter, filter_map, flat_map, list_any}
use Rattle.std.proofs.lemmas.List.{map-append, append-nil}
use Rattle.std.proofs.lemmas.List.Elements.{filter-append, filter_map-append}
use Rattle.std.proofs.lemmas.List.Folds.{list_any-append}
use Rattle.std.proofs.lemmas.List.Sums.{fold-append}
use Rattle.cw_types.specs.declared.ids.Tag.{Tag}
use Rattle.cw_types.specs.Same.{same_tag}
use Rattle.cw_types.proofs.SameLemmas.{same_tag-Decides}
use Rattle.cw_bytes.specs.declared.applied.Applied.{Applied}
use Rattle.cw_bytes.specs.Frames.{EachFrom, next_after}
use Rattle.cw_bytes.proofs.Compacted.{ends, next_after-ends}
use Rattle.cw_txn.specs.declared.entry.Entry.{Entry}
use Rattle.cw_offset.specs.declared.body.OffsetEntry.{OffsetEntry}
use Rattle.cw_offset.specs.declared.body.OffsetEntry.TheVariants.{Records, Mark}
use Rattle.cw_offset.specs.Log.{offset_records, offset_tag, offset_mark, has_records, is_marked}
use Rattle.cw_offset.specs.Acceptance.{IsAllowedOffset, IsAllowedStored, AreAllowedStored}
use Rattle.cw_offset.specs.Compaction.{offset_goes, records_staying, is_filled, offset_stays, compact_offsets}

-- ---- ends of lists

ends_more : (low high : ℕ) (xs : List Applied) → low ≤ high → ends low xs ≤ ends high xs
ends_more low high [] less = less
ends_more low high (x ∷ xs) less = let more : max low (x.offset + 1) ≤ max high (x.offset + 1) = omega (arith, less) in ends_more (max low (x.offset + 1)) (max high (x.offset + 1)) xs more

ends_low : (low : ℕ) (xs : List Applied) → low ≤ ends low xs
ends_low low [] = omega arith
ends_low low (x ∷ xs) =
    let rest : max low (x.offset + 1) ≤ ends (max low (x.offset + 1)) xs = ends_low (max low (x.offset + 1)) xs in
    let first : low ≤ max low (x.offset + 1) = omega arith in
    omega (arith, rest, first)

ends_filtered : (stays : Applied → Bool) (low : ℕ) (xs : List Applied) → ends low (filter stays xs) ≤ ends low xs
ends_filtered stays low [] = omega arith
ends_filtered stays low (x ∷ xs) = by (stays x) (ends_filtered stays (max low (x.offset + 1)) xs)
  where
    by : (b : Bool) → ends (max low (x.offset + 1)) (filter stays xs) ≤ ends (max low (x.offset + 1)) xs → ends low (cond b (x ∷ filter stays xs) (filter stays xs)) ≤ ends (max low (x.offset + 1)) xs
    by true rest = rest
    by false rest =
        let less : low ≤ max low (x.offset + 1) = omega arith in
        let grown : ends low (filter stays xs) ≤ ends (max low (x.offset + 1)) (filter stays xs) = ends_more low (max low (x.offset + 1)) (filter stays xs) less in
        omega (arith, grown, rest)

ends-append : (low : ℕ) (xs ys : List Applied) → ends low (xs ++ ys) ≡ ends (ends low xs) ys
ends-append low xs ys = fold-append (λ end (r : Applied). max end (r.offset + 1)) low xs ys

-- ---- records, those that stay

ends-push : (before : List Applied) (r : Applied) → next_after before ≤ r.offset → next_after (before ++ r ∷ []) ≡ r.offset + 1
ends-push before r above =
    let e : next_after before ≡ ends 0 before = next_after-ends before in
    let pushed : ends 0 (before ++ r ∷ []) ≡ max (ends 0 before) (r.offset + 1) = ends-append 0 before (r ∷ []) in
    next_after-ends (before ++ r ∷ []) ∙ pushed ∙ omega (arith, e, above)

-- offset records stay allowed where less stands before them, and where some of them go
still_allowed : (stays : Applied → Bool) (fewer before xs : List Applied) → next_after fewer ≤ next_after before → EachFrom IsAllowedOffset before xs → EachFrom IsAllowedOffset fewer (filter stays xs)
still_allowed stays fewer before [] less all = tt
still_allowed stays fewer before (x ∷ xs) less all =
    let above : next_after before ≤ x.offset = all.0.above in
    let lower : next_after fewer ≤ x.offset = omega (arith, less, above) in
    let after : next_after (before ++ x ∷ []) ≡ x.offset + 1 = ends-push before x above in
    let after_fewer : next_after (fewer ++ x ∷ []) ≡ x.offset + 1 = ends-push fewer x lower in
    let with_it : next_after (fewer ++ x ∷ []) ≤ next_after (before ++ x ∷ []) = omega (arith, after, after_fewer) in
    let without : next_after fewer ≤ next_after (before ++ x ∷ []) = omega (arith, after, lower) in
    by (stays x) (record { above = lower; grammar = all.0.grammar }) (still_allowed stays (fewer ++ x ∷ []) (before ++ x ∷ []) xs with_it all.1) (still_allowed stays fewer (before ++ x ∷ []) xs without all.1)
  where
    by : (b : Bool) → IsAllowedOffset fewer x → EachFrom IsAllowedOffset (fewer ++ x ∷ []) (filter stays xs) → EachFrom IsAllowedOffset fewer (filter stays xs)
        → EachFrom IsAllowedOffset fewer (cond b (x ∷ filter stays xs) (filter stays xs))
    by true here more rest = (here, more)
    by false here more rest = rest

neither : (a b : Bool) → (a || b) ≡ false → (a ≡ false) × (b ≡ false)
neither true b e = cc
neither false b e = (refl, e)

-- ---- what is left of a part of the log

module _ (entries : List Entry) (all : List OffsetEntry) where
  abbrev kept : List OffsetEntry → List OffsetEntry
  kept log = map (records_staying entries all) log

  abbrev left : List OffsetEntry → List OffsetEntry
  left log = filter (offset_stays (kept all)) (kept log)

  left-append : (xs ys : List OffsetEntry) → left (xs ++ ys) ≡ left xs ++ left ys
  left-append xs ys = ap (filter (offset_stays (kept all))) (map-append (records_staying entries all) xs ys) ∙ filter-append (offset_stays (kept all)) (kept xs) (kept ys)

  marks_chosen : (b : Bool) (m : OffsetEntry) (rest : List OffsetEntry) (test : Tag → Bool) → list_any test (filter_map offset_mark (m ∷ rest)) ≡ false
      → list_any test (filter_map offset_mark rest) ≡ false → list_any test (filter_map offset_mark (cond b (m ∷ rest) rest)) ≡ false
  marks_chosen true m rest test with without = with
  marks_chosen false m rest test with without = without

  -- no marker comes
  unmarked_left : (test : Tag → Bool) (log : List OffsetEntry) → list_any test (filter_map offset_mark log) ≡ false → list_any test (filter_map offset_mark (left log)) ≡ false
  unmarked_left test [] e = refl
  unmarked_left test (Records tag records ∷ log) e =
      let rest : list_any test (filter_map offset_mark (left log)) ≡ false = unmarked_left test log e in
      marks_chosen (offset_stays (kept all) (records_staying entries all (Records tag records))) (records_staying entries all (Records tag records)) (left log) test rest rest
  unmarked_left test (Mark mark ∷ log) e =
      let two : (test mark.tag ≡ false) × (list_any test (filter_map offset_mark log) ≡ false) = neither (test mark.tag) (list_any test (filter_map offset_mark log)) e in
      let rest : list_any test (filter_map offset_mark (left log)) ≡ false = unmarked_left test log two.1 in
      marks_chosen (offset_stays (kept all) (Mark mark)) (Mark mark) (left log) test (ap (λ (b : Bool). b || list_any test (filter_map offset_mark (left log))) two.0 ∙ rest) rest

  abbrev stored : List OffsetEntry → List Applied
  stored log = flat_map offset_records log

  ends_chosen : (b : Bool) (low high : ℕ) (e : OffsetEntry) (rest : List OffsetEntry) → ends low (stored (e ∷ rest)) ≤ high → ends low (stored rest) ≤ high → ends low (stored (cond b (e ∷ rest) rest)) ≤ high
  ends_chosen true low high e rest with without = with
  ends_chosen false low high e rest with without = without

  -- what is left ends no later
  ends_left : (low : ℕ) (log : List OffsetEntry) → ends low (stored (left log)) ≤ ends low (stored log)
  ends_left low [] = omega arith
  ends_left low (Records tag records ∷ log) =
      let some : List Applied = filter (λ r. not (offset_goes entries all tag r)) records in
      let whole : ends low (records ++ stored log) ≡ ends (ends low records) (stored log) = ends-append low records (stored log) in
      let part : ends low (some ++ stored (left log)) ≡ ends (ends low some) (stored (left log)) = ends-append low some (stored (left log)) in
      let fewer : ends low some ≤ ends low records = ends_filtered (λ r. not (offset_goes entries all tag r)) low records in
      let grown : ends (ends low some) (stored (left log)) ≤ ends (ends low records) (stored (left log)) = ends_more (ends low some) (ends low records) (stored (left log)) fewer in
      let rest : ends (ends low records) (stored (left log)) ≤ ends (ends low records) (stored log) = ends_left (ends low records) log in
      let lower : low ≤ ends low records = ends_low low records in
      let without : ends low (stored (left log)) ≤ ends (ends low records) (stored (left log)) = ends_more low (ends low records) (stored (left log)) lower in
      ends_chosen (offset_stays (kept all) (records_staying entries all (Records tag records))) low (ends low (records ++ stored log)) (Records tag some) (left log)
      (omega (arith, whole, part, grown, rest)) (omega (arith, whole, without, rest))
  ends_left low (Mark mark ∷ log) =
      ends_chosen (offset_stays (kept all) (Mark mark)) low (ends low (stored log)) (Mark mark) (left log) (ends_left low log) (ends_left low log)

  -- ---- a marker that stays finds records

  tag_chosen : (b : Bool) (tag : Tag) (e : OffsetEntry) (rest : List OffsetEntry) → has_records tag (e ∷ rest) ≡ has_records tag rest → has_records tag (cond b (e ∷ rest) rest) ≡ has_records tag rest
  tag_chosen true tag e rest same = same
  tag_chosen false tag e rest same = refl

  -- entries with records stay
  filled_stay : (tag : Tag) (log : List OffsetEntry) → has_records tag (filter is_filled log) ≡ has_records tag (filter (offset_stays (kept all)) log)
  filled_stay tag [] = refl
  filled_stay tag (Records other records ∷ log) = by (not (length records == 0)) (filled_stay tag log)
    where
      by : (b : Bool) → has_records tag (filter is_filled log) ≡ has_records tag (filter (offset_stays (kept all)) log)
          → has_records tag (cond b (Records other records ∷ filter is_filled log) (filter is_filled log))
          ≡ has_records tag (cond b (Records other records ∷ filter (offset_stays (kept all)) log) (filter (offset_stays (kept all)) log))
      by true same = ap (λ (b : Bool). same_tag tag other || b) same
      by false same = same
  filled_stay tag (Mark mark ∷ log) =
      filled_stay tag log ∙ sym (tag_chosen (offset_stays (kept all) (Mark mark)) tag (Mark mark) (filter (offset_stays (kept all)) log) refl)

  has-append : (tag : Tag) (xs ys : List OffsetEntry) → has_records tag (xs ++ ys) ≡ (has_records tag xs || has_records tag ys)
  has-append tag xs ys = ap (list_any (same_tag tag)) (filter_map-append offset_tag xs ys) ∙ list_any-append (same_tag tag) (filter_map offset_tag xs) (filter_map offset_tag ys)

  marked-append : (tag : Tag) (xs ys : List OffsetEntry) → is_marked tag (xs ++ ys) ≡ (is_marked tag xs || is_marked tag ys)
  marked-append tag xs ys = ap (list_any (same_tag tag)) (filter_map-append offset_mark xs ys) ∙ list_any-append (same_tag tag) (filter_map offset_mark xs) (filter_map offset_mark ys)

  other_tag : (tag other : Tag) (log : List OffsetEntry) → is_marked tag log ≡ true → is_marked other log ≡ false → same_tag tag other ≡ false
  other_tag tag other log marked unmarked = by (same_tag tag other) (λ e. (same_tag-Decides tag other).0 e)
    where
      by : (b : Bool) → (b ≡ true → tag ≡ other) → b ≡ false
      by false same = refl
      by true same =
          let one : is_marked other log ≡ true = ap (λ (t : Tag). is_marked t log) (sym (same refl)) ∙ marked in
          let no : true ≡ false = sym one ∙ unmarked in
          cc no

  or_true : (a b : Bool) → a ≡ true → (a || b) ≡ true
  or_true true b e = refl
  or_true false b e = cc

  or_none : (a b : Bool) → a ≡ false → b ≡ false → (a || b) ≡ false
  or_none true b e f = cc
  or_none false b e f = f

  filled_chosen : (b : Bool) (tag : Tag) (e : OffsetEntry) (rest : List OffsetEntry) → has_records tag (e ∷ rest) ≡ false → has_records tag rest ≡ false → has_records tag (cond b (e ∷ rest) rest) ≡ false
  filled_chosen true tag e rest with without = with
  filled_chosen false tag e rest with without = without

  -- behind its marker a transaction has no records
  none_behind : (tag : Tag) (before rest : List OffsetEntry) → is_marked tag before ≡ true → EachFrom (IsAllowedStored entries) before rest → has_records tag (filter is_filled (kept rest)) ≡ false
  none_behind tag before [] marked allowed = refl
  none_behind tag before (Records other records ∷ rest) marked allowed =
      let still : is_marked tag (before ++ Records other records ∷ []) ≡ true = marked-append tag before (Records other records ∷ []) ∙ or_true (is_marked tag before) false marked in
      let none : has_records tag (filter is_filled (kept rest)) ≡ false = none_behind tag (before ++ Records other records ∷ []) rest still allowed.1 in
      let apart : same_tag tag other ≡ false = other_tag tag other before marked allowed.0.unmarked in
      filled_chosen (is_filled (records_staying entries all (Records other records))) tag (records_staying entries all (Records other records)) (filter is_filled (kept rest))
      (or_none (same_tag tag other) (has_records tag (filter is_filled (kept rest))) apart none) none
  none_behind tag before (Mark mark ∷ rest) marked allowed =
      let still : is_marked tag (before ++ Mark mark ∷ []) ≡ true = marked-append tag before (Mark mark ∷ []) ∙ or_true (is_marked tag before) (same_tag tag mark.tag || false) marked in
      none_behind tag (before ++ Mark mark ∷ []) rest still allowed.1

  or_first : (a b c : Bool) → (a || b) ≡ c → b ≡ false → a ≡ c
  or_first true b c e f = e
  or_first false b c e f = sym f ∙ e

  or_marked : (tag : Tag) (before : List OffsetEntry) (rest : List OffsetEntry) → has_records tag (filter is_filled (kept (before ++ rest))) ≡ (has_records tag (filter is_filled (kept before)) || has_records tag (filter is_filled (kept rest)))
  or_marked tag before rest =
      ap (λ (l : List OffsetEntry). has_records tag (filter is_filled l)) (map-append (records_staying entries all) before rest)
      ∙ ap (has_records tag) (filter-append is_filled (kept before) (kept rest))
      ∙ has-append tag (filter is_filled (kept before)) (filter is_filled (kept rest))

  one_step : (P : List OffsetEntry → OffsetEntry → Type 0) (before : List OffsetEntry) (e : OffsetEntry) (rest : List OffsetEntry) (b : Bool) → (b ≡ true → P before e)
      → EachFrom P (before ++ cond b (e ∷ []) []) rest → EachFrom P before (cond b (e ∷ rest) rest)
  one_step P before e rest true here more = (here refl, more)
  one_step P before e rest false here more = subst (λ (l : List OffsetEntry). EachFrom P l rest) (append-nil before) more

  here_allowed : (before : List OffsetEntry) (e : OffsetEntry) (rest : List OffsetEntry) → all ≡ before ++ e ∷ rest → IsAllowedStored entries before e → EachFrom (IsAllowedStored entries) (before ++ e ∷ []) rest
      → offset_stays (kept all) (records_staying entries all e) ≡ true → IsAllowedStored entries (left before) (records_staying entries all e)
  here_allowed before (Records tag records) rest is allowed behind stays = record {
    known = allowed.known;
    unmarked = unmarked_left (same_tag tag) before allowed.unmarked;
    each =
        let e : next_after (stored before) ≡ ends 0 (stored before) = next_after-ends (stored before) in
        let f : next_after (stored (left before)) ≡ ends 0 (stored (left before)) = next_after-ends (stored (left before)) in
        let less : ends 0 (stored (left before)) ≤ ends 0 (stored before) = ends_left 0 before in
        still_allowed (λ r. not (offset_goes entries all tag r)) (stored (left before)) (stored before) records (omega (arith, e, f, less)) allowed.each;
  }
  here_allowed before (Mark mark) rest is allowed behind stays = record {
    known = allowed.known;
    stands =
        let marked : is_marked mark.tag (before ++ Mark mark ∷ []) ≡ true =
        marked-append mark.tag before (Mark mark ∷ []) ∙ or_last (is_marked mark.tag before) (same_tag mark.tag mark.tag) ((same_tag-Decides mark.tag mark.tag).1 refl) in
        let none : has_records mark.tag (filter is_filled (kept (Mark mark ∷ rest))) ≡ false = none_behind mark.tag (before ++ Mark mark ∷ []) rest marked behind in
        let there : has_records mark.tag (filter is_filled (kept (before ++ Mark mark ∷ rest))) ≡ true =
        ap (λ (l : List OffsetEntry). has_records mark.tag (filter is_filled (kept l))) (sym is) ∙ stays in
        sym (filled_stay mark.tag (kept before))
        ∙ or_first (has_records mark.tag (filter is_filled (kept before))) (has_records mark.tag (filter is_filled (kept (Mark mark ∷ rest)))) true (sym (or_marked mark.tag before (Mark mark ∷ rest)) ∙ there) none;
    first = unmarked_left (same_tag mark.tag) before allowed.first;
    tells = allowed.tells;
    ended = allowed.ended;
  }
    where
      or_last : (a b : Bool) → b ≡ true → (a || (b || false)) ≡ true
      or_last true b e = refl
      or_last false true e = refl
      or_last false false e = cc

  all_allowed : (before rest : List OffsetEntry) → all ≡ before ++ rest → EachFrom (IsAllowedStored entries) before rest → EachFrom (IsAllowedStored entries) (left before) (left rest)
  all_allowed before [] is allowed = tt
  all_allowed before (e ∷ rest) is allowed =
      one_step (IsAllowedStored entries) (left before) (records_staying entries all e) (left rest) (offset_stays (kept all) (records_staying entries all e))
      (here_allowed before e rest is allowed.0 allowed.1)
      (subst (λ (l : List OffsetEntry). EachFrom (IsAllowedStored entries) l (left rest)) (left-append before (e ∷ []))
      (all_allowed (before ++ e ∷ []) rest (is ∙ sym (append_assoc before (e ∷ []) rest)) allowed.1))

pub compacted : (entries : List Entry) (log : List OffsetEntry) → AreAllowedStored entries log → AreAllowedStored entries (compact_offsets entries log)
compacted entries log allowed = all_allowed entries log [] log refl allowed
