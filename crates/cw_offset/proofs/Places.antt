-- The first transaction to mark is by place in the log as it stands.
use Rattle.std.proofs.Common.{◌≡◌, ℕ, Bool, true, false, not, ◌||◌, ◌&&◌, cond, List, [], ◌∷◌, ◌++◌, map, Option, None, Some, refl, ap, sym, subst, ◌∙◌, append_assoc}
use Rattle.std.specs.Bool.{⊤}
use Rattle.std.specs.Option.{option_or, option_and_then, option_map, is_none}
use Rattle.std.specs.List.{filter, filter_map, flat_map, cons_option, find, list_any, AllByRecursion}
use Rattle.std.proofs.lemmas.Bool.{true≢false}
use Rattle.std.proofs.lemmas.List.{append-nil}
use Rattle.std.proofs.lemmas.List.Elements.{filter_map-append}
use Rattle.std.proofs.lemmas.List.Folds.{list_any-append, find-append}
use Rattle.cw_types.specs.declared.ids.Tag.{Tag}
use Rattle.cw_types.specs.declared.ids.PartKey.{PartKey}
use Rattle.cw_types.specs.declared.verdict.Verdict.{Verdict}
use Rattle.cw_types.specs.Same.{same_tag}
use Rattle.cw_types.specs.Verdict.{has_ended}
use Rattle.cw_bytes.specs.declared.applied.Applied.{Applied}
use Rattle.cw_keys.specs.Parts.{part_of}
use Rattle.cw_keys.specs.Offsets.{offset_of}
use Rattle.cw_txn.specs.declared.entry.Entry.{Entry}
use Rattle.cw_txn.specs.declared.entry.Entry.TheVariants as entry
use Rattle.cw_txn.specs.declared.entry.SetOffset.{SetOffset}
use Rattle.cw_txn.specs.Legal.{is_committed}
use Rattle.cw_offset.specs.declared.body.OffsetEntry.{OffsetEntry}
use Rattle.cw_offset.specs.declared.body.OffsetEntry.TheVariants.{Records, Mark}
use Rattle.cw_offset.specs.declared.call.OffsetCall.{OffsetCall}
use Rattle.cw_offset.specs.declared.call.OffsetCall.TheVariants.{Stand, Put, Commit, Abort, Set}
use Rattle.cw_offset.specs.Log.{offset_tag, offset_mark, is_marked, marks_in, first_unmarked}
use Rattle.cw_offset.specs.Offsets.{mark_in, marker_of, tag_in, if_unmarked, waiting, first_unmarked as first_of_calls}
use Rattle.cw_offset.specs.Replay.{put_in, puts_in, puts_of, calls_at, told_in, replayed, AreUnmarked, GoesByPlace}
use Rattle.cw_offset.proofs.Replays.{option_or-none, plain-append, ArePlain, marker_of-append, marker_of-plain, stands_plain, records_plain, puts_plain}
use Rattle.cw_offset.proofs.Same.{entries_plain}

-- ---- calls none of which stands behind its transaction's marker

abbrev NoneBehind : List OffsetCall → List OffsetCall → Type 0
NoneBehind before [] = ⊤
NoneBehind before (call ∷ calls) = ((tag : Tag) → tag_in call ≡ Some tag → marker_of tag before ≡ None) × NoneBehind (before ++ call ∷ []) calls

none-append : (before xs ys : List OffsetCall) → NoneBehind before xs → NoneBehind (before ++ xs) ys → NoneBehind before (xs ++ ys)
none-append before [] ys one two = subst (λ (l : List OffsetCall). NoneBehind l ys) (append-nil before) two
none-append before (x ∷ xs) ys one two = (one.0, none-append (before ++ x ∷ []) xs ys one.1 (subst (λ (l : List OffsetCall). NoneBehind l ys) (sym (append_assoc before (x ∷ []) xs)) two))

-- what is said of a transaction by a call that stands marks nothing
stand_plain : (call : OffsetCall) (tag : Tag) → tag_in call ≡ Some tag → (q : Tag) → mark_in q call ≡ None
stand_plain (Stand other) tag e q = refl
stand_plain (Put other part to) tag e q = refl
stand_plain (Commit other) tag e q = absurd (cc e)
stand_plain (Abort other) tag e q = absurd (cc e)
stand_plain (Set part to) tag e q = absurd (cc e)

marker_in_middle : (tag : Tag) (before : List OffsetCall) (call : OffsetCall) (calls : List OffsetCall) → marker_of tag before ≡ None → mark_in tag call ≡ None → marker_of tag (before ++ call ∷ calls) ≡ marker_of tag calls
marker_in_middle tag before call calls none plain =
    marker_of-append tag before (call ∷ calls) ∙ ap (λ o. option_or o (marker_of tag (call ∷ calls))) none ∙ ap (λ o. option_or o (marker_of tag calls)) plain

abbrev Free : List OffsetCall → Tag → Bool
Free calls tag = is_none (marker_of tag calls)

chosen : (b : Bool) (t : Tag) (l : List Tag) → cons_option (cond b (Some t) None) l ≡ cond b (t ∷ l) l
chosen true t l = refl
chosen false t l = refl

waits_by : (before : List OffsetCall) (call : OffsetCall) (calls : List OffsetCall) (o : Option Tag) → tag_in call ≡ o → ((tag : Tag) → o ≡ Some tag → marker_of tag before ≡ None)
    → waiting calls ≡ filter (Free ((before ++ call ∷ []) ++ calls)) (filter_map tag_in calls)
    → cons_option (option_and_then (if_unmarked calls) o) (waiting calls) ≡ filter (Free ((before ++ call ∷ []) ++ calls)) (cons_option o (filter_map tag_in calls))
waits_by before call calls None is none rest = rest
waits_by before call calls (Some tag) is none rest =
    let same : marker_of tag ((before ++ call ∷ []) ++ calls) ≡ marker_of tag calls = ap (marker_of tag) (append_assoc before (call ∷ []) calls) ∙ marker_in_middle tag before call calls (none tag refl) (stand_plain call tag is tag) in
    let more : List Tag = filter (Free ((before ++ call ∷ []) ++ calls)) (filter_map tag_in calls) in
    chosen (is_none (marker_of tag calls)) tag (waiting calls)
    ∙ ap (λ (l : List Tag). cond (is_none (marker_of tag calls)) (tag ∷ l) l) rest
    ∙ ap (λ (o : Option Bool). cond (is_none o) (tag ∷ more) more) (sym same)

-- those that wait are those that have no marker at all
waiting_are : (before calls : List OffsetCall) → NoneBehind before calls → waiting calls ≡ filter (Free (before ++ calls)) (filter_map tag_in calls)
waiting_are before [] all = refl
waiting_are before (call ∷ calls) all =
    waits_by before call calls (tag_in call) refl (λ tag is. all.0 tag is) (waiting_are (before ++ call ∷ []) calls all.1)
    ∙ ap (λ (l : List OffsetCall). filter (Free l) (cons_option (tag_in call) (filter_map tag_in calls))) (append_assoc before (call ∷ []) calls)

-- ---- the calls of an opening, and of further frames

abbrev AreFree : List OffsetCall → Type 0
AreFree before = (tag : Tag) → marker_of tag before ≡ None

free-push : (before : List OffsetCall) (call : OffsetCall) (tag : Tag) → marker_of tag before ≡ None → mark_in tag call ≡ None → marker_of tag (before ++ call ∷ []) ≡ None
free-push before call tag none plain = marker_in_middle tag before call [] none plain

plain_none : (before calls : List OffsetCall) → AreFree before → ArePlain calls → NoneBehind before calls
plain_none before [] free all = tt
plain_none before (call ∷ calls) free all = ((λ tag is. free tag), plain_none (before ++ call ∷ []) calls (λ tag. free-push before call tag (free tag) (all.0 tag)) all.1)

mark_stands : (c : Bool) (other : Tag) → tag_in (cond c (Commit other) (Abort other)) ≡ None
mark_stands true other = refl
mark_stands false other = refl

none_none : {P : Type 0} (tag : Tag) → ◌≡◌ {A = Option Tag} None (Some tag) → P
none_none tag e = absurd (cc e)

marks_none : (before : List OffsetCall) (frames : List OffsetEntry) → NoneBehind before (flat_map marks_in frames)
marks_none before [] = tt
marks_none before (Records tag records ∷ frames) = marks_none before frames
marks_none before (Mark mark ∷ frames) =
    ((λ tag is. none_none tag (sym (mark_stands mark.committed mark.tag) ∙ is)), marks_none (before ++ cond mark.committed (Commit mark.tag) (Abort mark.tag) ∷ []) frames)

-- the puts of a transaction stand under it
abbrev AreOf : Tag → List OffsetCall → Type 0
AreOf tag calls = AllByRecursion (λ call. tag_in call ≡ Some tag) calls

put_of_tag : (tag : Tag) (part : Option PartKey) (value : Option (List ℕ)) (rest : List OffsetCall) → AreOf tag rest
    → AreOf tag (cons_option (option_and_then (λ p. option_map (Put tag p) (option_and_then (offset_of p) value)) part) rest)
put_of_tag tag None value rest all = all
put_of_tag tag (Some p) value rest all = by (option_and_then (offset_of p) value)
  where
    by : (to : Option ℕ) → AreOf tag (cons_option (option_map (Put tag p) to) rest)
    by None = all
    by (Some to) = (refl, all)

puts_of_tag : (tag : Tag) (records : List Applied) → AreOf tag (filter_map (put_in tag) records)
puts_of_tag tag [] = tt
puts_of_tag tag (r ∷ records) = put_of_tag tag (part_of r.key) r.value (filter_map (put_in tag) records) (puts_of_tag tag records)

of_none : (tag : Tag) (before calls : List OffsetCall) → marker_of tag before ≡ None → AreOf tag calls → NoneBehind before calls
of_none tag before [] free all = tt
of_none tag before (call ∷ calls) free all =
    ((λ q is. ap (λ (t : Tag). marker_of t before) (one q is) ∙ free), of_none tag (before ++ call ∷ []) calls (free-push before call tag free (stand_plain call tag all.0 tag)) all.1)
  where
    one : (q : Tag) → tag_in call ≡ Some q → q ≡ tag
    one q is = let e : Some q ≡ Some tag = sym is ∙ all.0 in cc e

told_plain : (tag : Tag) (records : List Applied) → ArePlain (Stand tag ∷ filter_map (put_in tag) records)
told_plain tag records = ((λ _. refl), records_plain tag records)

or_none : (a b : Bool) → (a || b) ≡ false → (a ≡ false) × (b ≡ false)
or_none true b e = absurd (true≢false e)
or_none false b e = (refl, e)

marked-append : (tag : Tag) (xs ys : List OffsetEntry) → is_marked tag (xs ++ ys) ≡ (is_marked tag xs || is_marked tag ys)
marked-append tag xs ys = ap (list_any (same_tag tag)) (filter_map-append offset_mark xs ys) ∙ list_any-append (same_tag tag) (filter_map offset_mark xs) (filter_map offset_mark ys)

mark_other : (c : Bool) (tag other : Tag) → same_tag tag other ≡ false → mark_in tag (cond c (Commit other) (Abort other)) ≡ None
mark_other true tag other apart = ap (λ (b : Bool). cond b (Some true) None) apart
mark_other false tag other apart = ap (λ (b : Bool). cond b (Some false) None) apart

told_none : (before : List OffsetCall) (earlier frames : List OffsetEntry) → ((tag : Tag) → is_marked tag earlier ≡ false → marker_of tag before ≡ None) → AreUnmarked earlier frames → NoneBehind before (flat_map told_in frames)
told_none before earlier [] free all = tt
told_none before earlier (Records tag records ∷ frames) free all =
    none-append before (Stand tag ∷ filter_map (put_in tag) records) (flat_map told_in frames)
    (of_none tag before (Stand tag ∷ filter_map (put_in tag) records) (free tag (all.0 tag refl)) (refl, puts_of_tag tag records))
    (told_none (before ++ (Stand tag ∷ filter_map (put_in tag) records)) (earlier ++ Records tag records ∷ []) frames
    (λ q unmarked.
    let was = or_none (is_marked q earlier) false (sym (marked-append q earlier (Records tag records ∷ [])) ∙ unmarked) in
    marker_of-append q before (Stand tag ∷ filter_map (put_in tag) records) ∙ ap (λ o. option_or o (marker_of q (Stand tag ∷ filter_map (put_in tag) records))) (free q was.0) ∙ plain_free q (Stand tag ∷ filter_map (put_in tag) records) (told_plain tag records))
    all.1)
  where
    plain_free : (q : Tag) (calls : List OffsetCall) → ArePlain calls → marker_of q calls ≡ None
    plain_free q [] all = refl
    plain_free q (call ∷ calls) all = ap (λ o. option_or o (marker_of q calls)) (all.0 q) ∙ plain_free q calls all.1
told_none before earlier (Mark mark ∷ frames) free all = (
  (λ tag is. none_none tag (sym (mark_stands mark.committed mark.tag) ∙ is)),
  told_none (before ++ cond mark.committed (Commit mark.tag) (Abort mark.tag) ∷ []) (earlier ++ Mark mark ∷ []) frames
      (λ q unmarked.
      let was = or_none (is_marked q earlier) (same_tag q mark.tag || false) (sym (marked-append q earlier (Mark mark ∷ [])) ∙ unmarked) in
      let other = or_none (same_tag q mark.tag) false was.1 in
      free-push before (cond mark.committed (Commit mark.tag) (Abort mark.tag)) q (free q was.0) (mark_other mark.committed q mark.tag other.0))
      all.1,
)

-- ---- which transactions have a marker

none_or : (a b : Option Bool) → is_none (option_or a b) ≡ (is_none a && is_none b)
none_or None b = refl
none_or (Some c) b = refl

none_mark : (c : Bool) (tag other : Tag) → is_none (mark_in tag (cond c (Commit other) (Abort other))) ≡ not (same_tag tag other)
none_mark true tag other = by (same_tag tag other)
  where
    by : (b : Bool) → is_none (cond b (Some true) None) ≡ not b
    by true = refl
    by false = refl
none_mark false tag other = by (same_tag tag other)
  where
    by : (b : Bool) → is_none (cond b (Some false) None) ≡ not b
    by true = refl
    by false = refl

not_or : (a b : Bool) → (not a && not b) ≡ not (a || b)
not_or true b = refl
not_or false b = refl

marks_free : (tag : Tag) (frames : List OffsetEntry) → is_none (marker_of tag (flat_map marks_in frames)) ≡ not (is_marked tag frames)
marks_free tag [] = refl
marks_free tag (Records other records ∷ frames) = marks_free tag frames
marks_free tag (Mark mark ∷ frames) =
    none_or (mark_in tag (cond mark.committed (Commit mark.tag) (Abort mark.tag))) (marker_of tag (flat_map marks_in frames))
    ∙ ap (λ (b : Bool). b && is_none (marker_of tag (flat_map marks_in frames))) (none_mark mark.committed tag mark.tag)
    ∙ ap (λ (b : Bool). not (same_tag tag mark.tag) && b) (marks_free tag frames)
    ∙ not_or (same_tag tag mark.tag) (is_marked tag frames)

told_free : (tag : Tag) (frames : List OffsetEntry) → is_none (marker_of tag (flat_map told_in frames)) ≡ not (is_marked tag frames)
told_free tag [] = refl
told_free tag (Records other records ∷ frames) = ap is_none (marker_of-plain tag (Stand other ∷ filter_map (put_in other) records) (flat_map told_in frames) (told_plain other records)) ∙ told_free tag frames
told_free tag (Mark mark ∷ frames) =
    none_or (mark_in tag (cond mark.committed (Commit mark.tag) (Abort mark.tag))) (marker_of tag (flat_map told_in frames))
    ∙ ap (λ (b : Bool). b && is_none (marker_of tag (flat_map told_in frames))) (none_mark mark.committed tag mark.tag)
    ∙ ap (λ (b : Bool). not (same_tag tag mark.tag) && b) (told_free tag frames)
    ∙ not_or (same_tag tag mark.tag) (is_marked tag frames)

-- ---- which transactions stand in the log

module _ (test : Tag → Bool) where
  abbrev first_tag : List OffsetCall → Option Tag
  first_tag calls = find test (filter_map tag_in calls)

  first-append : (xs ys : List OffsetCall) → first_tag (xs ++ ys) ≡ option_or (first_tag xs) (first_tag ys)
  first-append xs ys = ap (find test) (filter_map-append tag_in xs ys) ∙ find-append test (filter_map tag_in xs) (filter_map tag_in ys)

  stands_first : (tags : List Tag) → filter_map tag_in (map Stand tags) ≡ tags
  stands_first [] = refl
  stands_first (tag ∷ tags) = ap (λ (l : List Tag). tag ∷ l) (stands_first tags)

  -- calls of one transaction, which fails the test or is found first
  of_first : (tag : Tag) (calls : List OffsetCall) → AreOf tag calls → test tag ≡ false → first_tag calls ≡ None
  of_first tag [] all fails = refl
  of_first tag (call ∷ calls) all fails =
      ap (λ o. find test (cons_option o (filter_map tag_in calls))) all.0
      ∙ ap (λ (b : Bool). cond b (Some tag) (first_tag calls)) fails
      ∙ of_first tag calls all.1 fails

  marks_first : (frames : List OffsetEntry) → first_tag (flat_map marks_in frames) ≡ None
  marks_first [] = refl
  marks_first (Records tag records ∷ frames) = marks_first frames
  marks_first (Mark mark ∷ frames) = ap (λ o. find test (cons_option o (filter_map tag_in (flat_map marks_in frames)))) (mark_stands mark.committed mark.tag) ∙ marks_first frames

  told_one : (b : Bool) (tag : Tag) (puts more : Option Tag) → (b ≡ false → puts ≡ None) → cond b (Some tag) (option_or puts more) ≡ cond b (Some tag) more
  told_one true tag puts more none = refl
  told_one false tag puts more none = ap (λ o. option_or o more) (none refl)

  told_first : (frames : List OffsetEntry) → first_tag (flat_map told_in frames) ≡ find test (filter_map offset_tag frames)
  told_first [] = refl
  told_first (Records tag records ∷ frames) =
      ap (cond (test tag) (Some tag)) (first-append (filter_map (put_in tag) records) (flat_map told_in frames))
      ∙ told_one (test tag) tag (first_tag (filter_map (put_in tag) records)) (first_tag (flat_map told_in frames)) (of_first tag (filter_map (put_in tag) records) (puts_of_tag tag records))
      ∙ ap (cond (test tag) (Some tag)) (told_first frames)
  told_first (Mark mark ∷ frames) = ap (λ o. find test (cons_option o (filter_map tag_in (flat_map told_in frames)))) (mark_stands mark.committed mark.tag) ∙ told_first frames

  not_found : (b : Bool) (h : Tag) (rest : Option Tag) → cond b (Some h) rest ≡ None → (b ≡ false) × (rest ≡ None)
  not_found true h rest e = none_none h (sym e)
  not_found false h rest e = (refl, e)

  puts_first : (of : Tag → Bool) (frames : List OffsetEntry) → find test (filter_map offset_tag frames) ≡ None → first_tag (puts_of of frames) ≡ None
  puts_first of [] none = refl
  puts_first of (Records tag records ∷ frames) none =
      let two = not_found (test tag) tag (find test (filter_map offset_tag frames)) none in
      first-append (puts_in of (Records tag records)) (puts_of of frames)
      ∙ ap (λ o. option_or o (first_tag (puts_of of frames))) (by (of tag) (of_first tag (filter_map (put_in tag) records) (puts_of_tag tag records) two.0))
      ∙ puts_first of frames two.1
    where
      by : (b : Bool) → first_tag (filter_map (put_in tag) records) ≡ None → first_tag (cond b (filter_map (put_in tag) records) []) ≡ None
      by true e = e
      by false e = refl
  puts_first of (Mark mark ∷ frames) none = puts_first of frames none

  sets_first : (sets : List SetOffset) → first_tag (map (λ set. Set set.part set.to) sets) ≡ None
  sets_first [] = refl
  sets_first (set ∷ sets) = sets_first sets

  listed_first : (frames : List OffsetEntry) (entries : List Entry) → find test (filter_map offset_tag frames) ≡ None → first_tag (flat_map (calls_at frames) entries) ≡ None
  listed_first frames [] none = refl
  listed_first frames (entry.Bump tid ∷ entries) none = listed_first frames entries none
  listed_first frames (entry.Commit tag generation spans ∷ entries) none =
      first-append (puts_of (same_tag tag) frames) (flat_map (calls_at frames) entries) ∙ ap (λ o. option_or o (first_tag (flat_map (calls_at frames) entries))) (puts_first (same_tag tag) frames none) ∙ listed_first frames entries none
  listed_first frames (entry.Set tid epoch sets ∷ entries) none =
      first-append (map (λ set. Set set.part set.to) sets) (flat_map (calls_at frames) entries) ∙ ap (λ o. option_or o (first_tag (flat_map (calls_at frames) entries))) (sets_first sets) ∙ listed_first frames entries none

or_skipped : (a b c : Option Tag) → (a ≡ None → b ≡ None) → option_or a (option_or b c) ≡ option_or a c
or_skipped None b c none = ap (λ o. option_or o c) (none refl)
or_skipped (Some t) b c none = refl

find-filter : (p q : Tag → Bool) (tags : List Tag) → find p (filter q tags) ≡ find (λ t. q t && p t) tags
find-filter p q [] = refl
find-filter p q (tag ∷ tags) = by (q tag) (find-filter p q tags)
  where
    by : (b : Bool) → find p (filter q tags) ≡ find (λ t. q t && p t) tags → find p (cond b (tag ∷ filter q tags) (filter q tags)) ≡ cond (b && p tag) (Some tag) (find (λ t. q t && p t) tags)
    by true same = ap (cond (p tag) (Some tag)) same
    by false same = same

find-same : (p q : Tag → Bool) → ((t : Tag) → p t ≡ q t) → (tags : List Tag) → find p tags ≡ find q tags
find-same p q same [] = refl
find-same p q same (tag ∷ tags) = ap (λ (b : Bool). cond b (Some tag) (find p tags)) (same tag) ∙ ap (cond (q tag) (Some tag)) (find-same p q same tags)

-- ---- the first of those that a log tells of

found_first : (verdict : Tag → Verdict) (calls : List OffsetCall) (free : Tag → Bool) → NoneBehind [] calls → ((tag : Tag) → Free calls tag ≡ free tag)
    → first_of_calls verdict calls ≡ find (λ tag. free tag && has_ended (verdict tag)) (filter_map tag_in calls)
found_first verdict calls free none same =
    ap (find (λ tag. has_ended (verdict tag))) (waiting_are [] calls none)
    ∙ find-filter (λ tag. has_ended (verdict tag)) (Free calls) (filter_map tag_in calls)
    ∙ find-same (λ tag. Free calls tag && has_ended (verdict tag)) (λ tag. free tag && has_ended (verdict tag)) (λ tag. ap (λ (b : Bool). b && has_ended (verdict tag)) (same tag)) (filter_map tag_in calls)

module _ (log : List OffsetEntry) where
  abbrev standing : List OffsetCall
  standing = map Stand (filter_map offset_tag log)

  all_stand : ArePlain standing
  all_stand = stands_plain (filter_map offset_tag log)

  standing_tags : (test : Tag → Bool) → find test (filter_map tag_in (standing ++ flat_map marks_in log)) ≡ find test (filter_map offset_tag log)
  standing_tags test =
      first-append test standing (flat_map marks_in log)
      ∙ ap (option_or (first_tag test standing)) (marks_first test log)
      ∙ option_or-none (first_tag test standing)
      ∙ ap (find test) (stands_first test (filter_map offset_tag log))

  -- it is the first that has no marker in the log
  pub first_unmarked_is : (verdict : Tag → Verdict) → first_unmarked verdict log ≡ find (λ tag. not (is_marked tag log) && has_ended (verdict tag)) (filter_map offset_tag log)
  first_unmarked_is verdict =
      found_first verdict (standing ++ flat_map marks_in log) (λ tag. not (is_marked tag log))
      (none-append [] standing (flat_map marks_in log) (plain_none [] standing (λ tag. refl) all_stand) (marks_none standing log))
      (λ tag. ap is_none (marker_of-plain tag standing (flat_map marks_in log) all_stand) ∙ marks_free tag log)
      ∙ standing_tags (λ tag. not (is_marked tag log) && has_ended (verdict tag))

-- ---- behind an opening, and further frames

module _ (entries : List Entry) (frames more : List OffsetEntry) where
  abbrev stood : List OffsetCall
  stood = map Stand (filter_map offset_tag frames)

  abbrev listed : List OffsetCall
  listed = flat_map (calls_at frames) entries

  abbrev waits : List OffsetCall
  waits = puts_of (λ tag. not (is_committed tag entries)) frames

  abbrev marks : List OffsetCall
  marks = flat_map marks_in frames

  abbrev told : List OffsetCall
  told = flat_map told_in more

  parts : replayed entries frames ++ told ≡ stood ++ (listed ++ (waits ++ (marks ++ told)))
  parts = simp append_assoc refl

  plain : ArePlain (stood ++ (listed ++ waits))
  plain = plain-append stood (listed ++ waits) (stands_plain (filter_map offset_tag frames)) (plain-append listed waits (entries_plain frames entries) (puts_plain (λ tag. not (is_committed tag entries)) frames))

  grouped : stood ++ (listed ++ (waits ++ (marks ++ told))) ≡ (stood ++ (listed ++ waits)) ++ (marks ++ told)
  grouped = simp append_assoc refl

  free_at : (tag : Tag) → Free (replayed entries frames ++ told) tag ≡ not (is_marked tag (frames ++ more))
  free_at tag =
      ap (λ (l : List OffsetCall). Free l tag) (parts ∙ grouped)
      ∙ ap is_none (marker_of-plain tag (stood ++ (listed ++ waits)) (marks ++ told) plain ∙ marker_of-append tag marks told)
      ∙ none_or (marker_of tag marks) (marker_of tag told)
      ∙ ap (λ (b : Bool). b && is_none (marker_of tag told)) (marks_free tag frames)
      ∙ ap (λ (b : Bool). not (is_marked tag frames) && b) (told_free tag more)
      ∙ not_or (is_marked tag frames) (is_marked tag more)
      ∙ ap not (sym (marked-append tag frames more))

  none_behind : AreUnmarked frames more → NoneBehind [] (replayed entries frames ++ told)
  none_behind all =
      subst (NoneBehind []) (sym (parts ∙ grouped))
      (none-append [] (stood ++ (listed ++ waits)) (marks ++ told) (plain_none [] (stood ++ (listed ++ waits)) (λ tag. refl) plain)
      (none-append (stood ++ (listed ++ waits)) marks told (marks_none (stood ++ (listed ++ waits)) frames)
      (told_none ((stood ++ (listed ++ waits)) ++ marks) frames more
      (λ tag unmarked. marker_of-plain tag (stood ++ (listed ++ waits)) marks plain ∙ is_none_of (marker_of tag marks) (marks_free tag frames ∙ ap not unmarked)) all)))
    where
      is_none_of : (o : Option Bool) → is_none o ≡ true → o ≡ None
      is_none_of None e = refl
      is_none_of (Some c) e = absurd (true≢false (sym e))

  tags_first : (test : Tag → Bool) → find test (filter_map tag_in (replayed entries frames ++ told)) ≡ find test (filter_map offset_tag (frames ++ more))
  tags_first test =
      ap (first_tag test) parts
      ∙ first-append test stood (listed ++ (waits ++ (marks ++ told)))
      ∙ ap (λ (l : List Tag). option_or (find test l) (first_tag test (listed ++ (waits ++ (marks ++ told))))) (stands_first test (filter_map offset_tag frames))
      ∙ ap (option_or (find test (filter_map offset_tag frames))) (first-append test listed (waits ++ (marks ++ told)))
      ∙ or_skipped (find test (filter_map offset_tag frames)) (first_tag test listed) (first_tag test (waits ++ (marks ++ told))) (listed_first test frames entries)
      ∙ ap (option_or (find test (filter_map offset_tag frames))) (first-append test waits (marks ++ told))
      ∙ or_skipped (find test (filter_map offset_tag frames)) (first_tag test waits) (first_tag test (marks ++ told)) (puts_first test (λ tag. not (is_committed tag entries)) frames)
      ∙ ap (option_or (find test (filter_map offset_tag frames))) (first-append test marks told ∙ ap (λ o. option_or o (first_tag test told)) (marks_first test frames) ∙ told_first test more)
      ∙ sym (ap (find test) (filter_map-append offset_tag frames more) ∙ find-append test (filter_map offset_tag frames) (filter_map offset_tag more))

pub goes_by_place : (entries : List Entry) (frames : List OffsetEntry) → GoesByPlace entries frames
goes_by_place entries frames verdict more all =
    found_first verdict (replayed entries frames ++ flat_map told_in more) (λ tag. not (is_marked tag (frames ++ more))) (none_behind entries frames more all) (free_at entries frames more)
    ∙ tags_first entries frames more (λ tag. not (is_marked tag (frames ++ more)) && has_ended (verdict tag))
    ∙ sym (first_unmarked_is (frames ++ more) verdict)
