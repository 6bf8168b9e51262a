-- Over a compacted log what is committed of a part is what it is over the whole one.
use Rattle.std.proofs.Common.{◌≡◌, ℕ, suc, ◌+◌, Bool, true, false, not, ◌||◌, ◌&&◌, cond, List, [], ◌∷◌, ◌++◌, map, drop, nat_lt, Option, None, Some, IsSome, refl, ap, sym, subst, ◌∙◌, append_assoc, arith}
use Rattle.std.specs.Option.{option_or, option_and_then, option_map, option_map_or, unwrap_or, IsSomeAnd}
use Rattle.std.specs.List.{filter, filter_map, flat_map, cons_option, list_any, after_first, position_or_len, AllByRecursion}
use Rattle.std.proofs.lemmas.Bool.{true≢false}
use Rattle.std.proofs.lemmas.List.Folds.{list_any-append}
use Rattle.cw_types.specs.declared.ids.Tag.{Tag}
use Rattle.cw_types.specs.declared.ids.PartKey.{PartKey}
use Rattle.cw_types.specs.Same.{same_tag, same_part}
use Rattle.cw_types.proofs.SameLemmas.{same_tag-Decides}
use Rattle.cw_bytes.specs.declared.applied.Applied.{Applied}
use Rattle.cw_bytes.specs.Frames.{EachFrom}
use Rattle.cw_keys.specs.Parts.{part_of}
use Rattle.cw_keys.specs.Offsets.{offset_of}
use Rattle.cw_txn.specs.declared.entry.Entry.{Entry}
use Rattle.cw_txn.specs.declared.entry.Entry.TheVariants as entry
use Rattle.cw_txn.specs.Legal.{is_commit_of, is_committed, verdict_of, IsLegal, IsLegalBehind}
use Rattle.cw_txn.specs.Legal as legal
use Rattle.cw_txn.specs.declared.entry.SetOffset.{SetOffset}
use Rattle.cw_offset.specs.declared.body.OffsetEntry.{OffsetEntry}
use Rattle.cw_offset.specs.declared.body.OffsetEntry.TheVariants.{Records, Mark}
use Rattle.cw_offset.specs.declared.call.OffsetCall.{OffsetCall}
use Rattle.cw_offset.specs.declared.call.OffsetCall.TheVariants.{Stand, Put, Commit, Abort, Set}
use Rattle.cw_offset.specs.Log.{offset_tag, offset_records, is_marked, marks_in}
use Rattle.cw_offset.specs.Acceptance.{IsOffsetOf, IsAllowedOffset, IsAllowedStored, AreAllowedStored}
use Rattle.cw_offset.specs.Offsets.{mark_in, marker_of, is_commit, said_in, said_of}
use Rattle.cw_offset.specs.Compaction.{is_record_of, stores, sets_part, replaces_part, is_aborted, is_outdated, records_staying, offset_stays, compact_offsets}
use Rattle.cw_offset.specs.Replay.{put_in, puts_of, calls_at, replayed, TellTheTruth, SaysTheSame}
use Rattle.cw_offset.proofs.Replays.{plain-append, option_or-none, said_by, said_by-same, said_by-append, ArePlain, marker_of-append, marker_of-plain, said_of-plain, stands_plain, stands_silent, puts_plain}
use Rattle.cw_offset.proofs.Compacted.{gone, log_kept, marker_kept}

cases : {P : Type 0} (b : Bool) → (b ≡ true → P) → (b ≡ false → P) → P
cases true here others = here refl
cases false here others = others refl

-- ---- what the calls of an opening say

sets_plain : (sets : List SetOffset) → ArePlain (map (λ set. Set set.part set.to) sets)
sets_plain [] = tt
sets_plain (set ∷ sets) = ((λ _. refl), sets_plain sets)

pub entries_plain : (log : List OffsetEntry) (entries : List Entry) → ArePlain (flat_map (calls_at log) entries)
entries_plain log [] = tt
entries_plain log (entry.Bump tid ∷ entries) = entries_plain log entries
entries_plain log (entry.Commit tag generation spans ∷ entries) = plain-append (puts_of (same_tag tag) log) (flat_map (calls_at log) entries) (puts_plain (same_tag tag) log) (entries_plain log entries)
entries_plain log (entry.Set tid epoch sets ∷ entries) = plain-append (map (λ set. Set set.part set.to) sets) (flat_map (calls_at log) entries) (sets_plain sets) (entries_plain log entries)

mark_silent : (part : PartKey) (m : Tag → Option Bool) (c : Bool) (tag : Tag) → said_in part m (cond c (Commit tag) (Abort tag)) ≡ None
mark_silent part m true tag = refl
mark_silent part m false tag = refl

marks_silent : (part : PartKey) (log : List OffsetEntry) (more : List OffsetCall) → said_of part (flat_map marks_in log ++ more) ≡ said_of part more
marks_silent part [] more = refl
marks_silent part (Records tag records ∷ log) more = marks_silent part log more
marks_silent part (Mark mark ∷ log) more =
    ap (option_or (said_of part (flat_map marks_in log ++ more))) (mark_silent part (λ tag. marker_of tag (flat_map marks_in log ++ more)) mark.committed mark.tag)
    ∙ option_or-none (said_of part (flat_map marks_in log ++ more))
    ∙ marks_silent part log more

module _ (part : PartKey) (entries : List Entry) (more : List OffsetCall) (log : List OffsetEntry) where
  abbrev markers : Tag → Option Bool
  markers tag = marker_of tag (flat_map marks_in log ++ more)

  abbrev listed : List OffsetCall
  listed = flat_map (calls_at log) entries

  abbrev open_ones : List OffsetCall
  open_ones = puts_of (λ tag. not (is_committed tag entries)) log

  abbrev ends : List OffsetCall
  ends = flat_map marks_in log ++ more

  joined : replayed entries log ++ more ≡ map Stand (filter_map offset_tag log) ++ (listed ++ (open_ones ++ ends))
  joined = simp append_assoc refl

  replay_says : said_of part (replayed entries log ++ more) ≡ option_or (option_or (said_of part more) (said_by part markers open_ones)) (said_by part markers listed)
  replay_says =
      ap (said_of part) joined
      ∙ said_of-plain part (map Stand (filter_map offset_tag log)) (listed ++ (open_ones ++ ends)) (stands_plain (filter_map offset_tag log))
      ∙ ap (option_or (said_of part (listed ++ (open_ones ++ ends)))) (stands_silent part (λ tag. marker_of tag (listed ++ (open_ones ++ ends))) (filter_map offset_tag log))
      ∙ option_or-none (said_of part (listed ++ (open_ones ++ ends)))
      ∙ said_of-plain part listed (open_ones ++ ends) (entries_plain log entries)
      ∙ ap (option_or (said_of part (open_ones ++ ends))) (said_by-same part (λ tag. marker_of tag (open_ones ++ ends)) markers listed (λ tag. marker_of-plain tag open_ones ends (puts_plain (λ t. not (is_committed t entries)) log)))
      ∙ ap (λ o. option_or o (said_by part markers listed)) (said_of-plain part open_ones ends (puts_plain (λ t. not (is_committed t entries)) log) ∙ ap (λ o. option_or o (said_by part markers open_ones)) (marks_silent part log more))

-- ---- what is allowed tells the truth

-- records are offsets, and a marker says how its transaction ended
abbrev EntryTells : List Entry → OffsetEntry → Type 0
EntryTells entries (Records tag records) = AllByRecursion (λ r. IsOffsetOf r.key r.value) records
EntryTells entries (Mark mark) = mark.committed ≡ is_committed mark.tag entries

abbrev LogTells : List Entry → List OffsetEntry → Type 0
LogTells entries log = AllByRecursion (EntryTells entries) log

records_tell : (before records : List Applied) → EachFrom IsAllowedOffset before records → AllByRecursion (λ r. IsOffsetOf r.key r.value) records
records_tell before [] all = tt
records_tell before (r ∷ records) all = (all.0.grammar, records_tell (before ++ r ∷ []) records all.1)

log_tells : (entries : List Entry) (before log : List OffsetEntry) → EachFrom (IsAllowedStored entries) before log → LogTells entries log
log_tells entries before [] all = tt
log_tells entries before (Records tag records ∷ log) all = (records_tell (flat_map offset_records before) records all.0.each, log_tells entries (before ++ Records tag records ∷ []) log all.1)
log_tells entries before (Mark mark ∷ log) all = (all.0.tells, log_tells entries (before ++ Mark mark ∷ []) log all.1)

mark_by : (c : Bool) (tag other : Tag) → mark_in tag (cond c (Commit other) (Abort other)) ≡ cond (same_tag tag other) (Some c) None
mark_by true tag other = refl
mark_by false tag other = refl

marker_by : (entries : List Entry) (same later : Bool) (tag other : Tag) (rest : Option Bool) (c : Bool) → same_tag tag other ≡ same → c ≡ is_committed other entries → rest ≡ cond later (Some (is_committed tag entries)) None
    → option_or (cond same (Some c) None) rest ≡ cond (same || later) (Some (is_committed tag entries)) None
marker_by entries true later tag other rest c is tells more = ap Some (tells ∙ ap (λ (t : Tag). is_committed t entries) (sym ((same_tag-Decides tag other).0 is)))
marker_by entries false later tag other rest c is tells more = more

marker_told : (entries : List Entry) (tag : Tag) (log : List OffsetEntry) → LogTells entries log → marker_of tag (flat_map marks_in log) ≡ cond (is_marked tag log) (Some (is_committed tag entries)) None
marker_told entries tag [] all = refl
marker_told entries tag (Records other records ∷ log) all = marker_told entries tag log all.1
marker_told entries tag (Mark mark ∷ log) all =
    ap (λ o. option_or o (marker_of tag (flat_map marks_in log))) (mark_by mark.committed tag mark.tag)
    ∙ marker_by entries (same_tag tag mark.tag) (is_marked tag log) tag mark.tag (marker_of tag (flat_map marks_in log)) mark.committed refl all.0 (marker_told entries tag log all.1)

aborted_open : (c d : Bool) → is_aborted (cond c Rattle.cw_types.specs.declared.verdict.Verdict.TheVariants.Committed (cond d Rattle.cw_types.specs.declared.verdict.Verdict.TheVariants.Aborted Rattle.cw_types.specs.declared.verdict.Verdict.TheVariants.Open)) ≡ true → c ≡ false
aborted_open true d e = sym e
aborted_open false d e = refl

-- ---- which entry of the transaction list counts

after_here : (p : Entry → Bool) (x : Entry) (xs : List Entry) → p x ≡ true → after_first p (x ∷ xs) ≡ xs
after_here p x xs e = ap (λ (b : Bool). drop (cond (not b) (1 + position_or_len p xs) 0 + 1) (x ∷ xs)) e

after_later : (p : Entry → Bool) (x : Entry) (xs : List Entry) → p x ≡ false → after_first p (x ∷ xs) ≡ after_first p xs
after_later p x xs e =
    ap (λ (b : Bool). drop (cond (not b) (1 + position_or_len p xs) 0 + 1) (x ∷ xs)) e
    ∙ ap (λ (n : ℕ). drop n (x ∷ xs)) (let same : 1 + position_or_len p xs + 1 ≡ suc (position_or_len p xs + 1) = omega arith in same)

or_none : (a b : Bool) → (a || b) ≡ false → (a ≡ false) × (b ≡ false)
or_none true b e = absurd (true≢false e)
or_none false b e = (refl, e)

after_none : (p : Entry → Bool) (xs : List Entry) → list_any p xs ≡ false → after_first p xs ≡ []
after_none p [] e = refl
after_none p (x ∷ xs) e = let o = or_none (p x) (list_any p xs) e in after_later p x xs o.0 ∙ after_none p xs o.1

after_these : (p : Entry → Bool) (before : List Entry) (x : Entry) (xs : List Entry) → list_any p before ≡ false → p x ≡ true → after_first p (before ++ x ∷ xs) ≡ xs
after_these p [] x xs e is = after_here p x xs is
after_these p (y ∷ before) x xs e is = let o = or_none (p y) (list_any p before) e in after_later p y (before ++ x ∷ xs) o.0 ∙ after_these p before x xs o.1 is

-- ---- something that is said

abbrev Said : Type 0
Said = Option (Option ℕ)

abbrev IsFull : Said → Type 0
IsFull a = (o : Said) → option_or a o ≡ a

full_or : (a b : Said) → IsFull b → IsFull (option_or a b)
full_or None b full o = full o
full_or (Some x) b full o = refl

full_first : (a b : Said) → IsFull a → IsFull (option_or a b)
full_first a b full o = ap (λ x. option_or x o) (full b) ∙ full o ∙ sym (full b)

full_as : (a b : Said) → a ≡ b → IsFull b → IsFull a
full_as a b same full = subst IsFull (sym same) full

full_chosen : (b : Bool) (x : Option ℕ) → b ≡ true → IsFull (cond b (Some x) None)
full_chosen true x e o = refl
full_chosen false x e o = absurd (true≢false (sym e))

either : {P : Type 0} (a b : Bool) → (a || b) ≡ true → (a ≡ true → P) → (b ≡ true → P) → P
either true b e one two = one refl
either false b e one two = two e

both : (a b : Bool) → (a && b) ≡ true → (a ≡ true) × (b ≡ true)
both true b e = (refl, e)
both false b e = absurd (true≢false (sym e))

both_true : (a b : Bool) → a ≡ true → b ≡ true → (a && b) ≡ true
both_true true b e f = f
both_true false b e f = absurd (true≢false (sym e))

sets_full : (part : PartKey) (m : Tag → Option Bool) (sets : List SetOffset) → list_any (λ set. same_part part set.part) sets ≡ true → IsFull (said_by part m (map (λ set. Set set.part set.to) sets))
sets_full part m [] e = absurd (true≢false (sym e))
sets_full part m (set ∷ sets) e = either (same_part part set.part) (list_any (λ set. same_part part set.part) sets) e
    (λ here. full_or (said_by part m (map (λ set. Set set.part set.to) sets)) (cond (same_part part set.part) (Some set.to) None) (full_chosen (same_part part set.part) set.to here))
    (λ later. full_first (said_by part m (map (λ set. Set set.part set.to) sets)) (cond (same_part part set.part) (Some set.to) None) (sets_full part m sets later))

sets_same : (part : PartKey) (m n : Tag → Option Bool) (sets : List SetOffset) → said_by part m (map (λ set. Set set.part set.to) sets) ≡ said_by part n (map (λ set. Set set.part set.to) sets)
sets_same part m n [] = refl
sets_same part m n (set ∷ sets) = ap (λ o. option_or o (cond (same_part part set.part) (Some set.to) None)) (sets_same part m n sets)

-- a record of a part under a transaction that is committed says something of it
says_full : (part : PartKey) (m : Tag → Option Bool) (tag : Tag) (p : Option PartKey) (value : Option (List ℕ)) (rest : List OffsetCall) → is_commit (m tag) ≡ true
    → option_map_or (same_part part) p false ≡ true → ((text : List ℕ) → value ≡ Some text → IsSomeAnd p (λ k. IsSome (offset_of k text))) → IsSome value
    → IsFull (said_by part m (cons_option (option_and_then (λ k. option_map (Put tag k) (option_and_then (offset_of k) value)) p) rest))
says_full part m tag None value rest commits same tells has = absurd (true≢false (sym same))
says_full part m tag (Some k) None rest commits same tells has = absurd (true≢false (sym has))
says_full part m tag (Some k) (Some text) rest commits same tells has = by (offset_of k text) (tells text refl)
  where
    by : (to : Option ℕ) → IsSome to → IsFull (said_by part m (cons_option (option_map (Put tag k) to) rest))
    by None some = absurd (true≢false (sym some))
    by (Some to) some = full_or (said_by part m rest) (cond (same_part part k && is_commit (m tag)) (Some (Some to)) None) (full_chosen (same_part part k && is_commit (m tag)) (Some to) (both_true (same_part part k) (is_commit (m tag)) same commits))

value_there : (key : List ℕ) (value : Option (List ℕ)) → IsOffsetOf key value → IsSome value
value_there key None is = absurd is
value_there key (Some text) is = refl

value_tells : (key : List ℕ) (value : Option (List ℕ)) → IsOffsetOf key value → (text : List ℕ) → value ≡ Some text → IsSomeAnd (part_of key) (λ k. IsSome (offset_of k text))
value_tells key value is text e = subst (IsOffsetOf key) e is

later_full : (part : PartKey) (m : Tag → Option Bool) (o : Option OffsetCall) (rest : List OffsetCall) → IsFull (said_by part m rest) → IsFull (said_by part m (cons_option o rest))
later_full part m None rest full = full
later_full part m (Some call) rest full = full_first (said_by part m rest) (said_in part m call) full

records_full : (part : PartKey) (m : Tag → Option Bool) (tag : Tag) → is_commit (m tag) ≡ true → (records : List Applied) → AllByRecursion (λ r. IsOffsetOf r.key r.value) records
    → list_any (is_record_of part) records ≡ true → IsFull (said_by part m (filter_map (put_in tag) records))
records_full part m tag commits [] all e = absurd (true≢false (sym e))
records_full part m tag commits (r ∷ records) all e = either (is_record_of part r) (list_any (is_record_of part) records) e
    (λ here. says_full part m tag (part_of r.key) r.value (filter_map (put_in tag) records) commits here (value_tells r.key r.value all.0) (value_there r.key r.value all.0))
    (λ later. later_full part m (put_in tag r) (filter_map (put_in tag) records) (records_full part m tag commits records all.1 later))

log_full : (part : PartKey) (m : Tag → Option Bool) (entries : List Entry) (tag : Tag) → is_commit (m tag) ≡ true → (log : List OffsetEntry) → LogTells entries log
    → list_any (stores tag part) log ≡ true → IsFull (said_by part m (puts_of (same_tag tag) log))
log_full part m entries tag commits [] all e = absurd (true≢false (sym e))
log_full part m entries tag commits (Records other records ∷ log) all e =
    full_as (said_by part m (puts_of (same_tag tag) (Records other records ∷ log))) (option_or (said_by part m (puts_of (same_tag tag) log)) (said_by part m (cond (same_tag tag other) (filter_map (put_in other) records) [])))
    (said_by-append part m (cond (same_tag tag other) (filter_map (put_in other) records) []) (puts_of (same_tag tag) log))
    (either (stores tag part (Records other records)) (list_any (stores tag part) log) e
    (λ here.
    let two = both (same_tag tag other) (list_any (is_record_of part) records) here in
    let one : tag ≡ other = (same_tag-Decides tag other).0 two.0 in
    let puts : said_by part m (cond (same_tag tag other) (filter_map (put_in other) records) []) ≡ said_by part m (filter_map (put_in other) records) = ap (λ (b : Bool). said_by part m (cond b (filter_map (put_in other) records) [])) two.0 in
    full_or (said_by part m (puts_of (same_tag tag) log)) (said_by part m (cond (same_tag tag other) (filter_map (put_in other) records) []))
    (full_as (said_by part m (cond (same_tag tag other) (filter_map (put_in other) records) [])) (said_by part m (filter_map (put_in other) records)) puts
    (records_full part m other (ap (λ (t : Tag). is_commit (m t)) (sym one) ∙ commits) records all.0 two.1)))
    (λ later. full_first (said_by part m (puts_of (same_tag tag) log)) (said_by part m (cond (same_tag tag other) (filter_map (put_in other) records) [])) (log_full part m entries tag commits log all.1 later)))
log_full part m entries tag commits (Mark mark ∷ log) all e = log_full part m entries tag commits log all.1 e

-- ---- the whole log and the one that is left

module _ (part : PartKey) (entries : List Entry) (all : List OffsetEntry) (more : List OffsetCall) (tells : LogTells entries all) (truth : TellTheTruth entries more) where
  abbrev left : List OffsetEntry
  left = compact_offsets entries all

  abbrev whole : Tag → Option Bool
  whole tag = markers part entries more all tag

  abbrev standing : Tag → Option Bool
  standing tag = markers part entries more left tag

  whole_is : (tag : Tag) → whole tag ≡ option_or (cond (is_marked tag all) (Some (is_committed tag entries)) None) (marker_of tag more)
  whole_is tag = marker_of-append tag (flat_map marks_in all) more ∙ ap (λ o. option_or o (marker_of tag more)) (marker_told entries tag all tells)

  same_marker : (tag : Tag) → Rattle.cw_offset.specs.Log.has_records tag (filter Rattle.cw_offset.specs.Compaction.is_filled (map (records_staying entries all) all)) ≡ true → standing tag ≡ whole tag
  same_marker tag has =
      marker_of-append tag (flat_map marks_in left) more
      ∙ ap (λ o. option_or o (marker_of tag more)) (marker_kept entries all tag has all)
      ∙ sym (marker_of-append tag (flat_map marks_in all) more)

  uncommitted : (tag : Tag) → is_aborted (verdict_of entries tag) ≡ true → is_committed tag entries ≡ false
  uncommitted tag e = aborted_open (is_committed tag entries) (nat_lt tag.epoch.0 (legal.epoch_of tag.tid entries)) e

  -- what was aborted says nothing
  aborted_silent : (tag : Tag) → is_aborted (verdict_of entries tag) ≡ true → is_commit (whole tag) ≡ false
  aborted_silent tag e = ap is_commit (whole_is tag ∙ ap (λ (c : Bool). option_or (cond (is_marked tag all) (Some c) None) (marker_of tag more)) (uncommitted tag e)) ∙ by (is_marked tag all) (truth tag e)
    where
      by : (b : Bool) → is_commit (marker_of tag more) ≡ false → is_commit (option_or (cond b (Some false) None) (marker_of tag more)) ≡ false
      by true fails = refl
      by false fails = fails

  marked_commits : (tag : Tag) → is_committed tag entries ≡ true → is_marked tag all ≡ true → is_commit (whole tag) ≡ true
  marked_commits tag commits marked =
      ap is_commit (whole_is tag ∙ ap (λ (b : Bool). option_or (cond b (Some (is_committed tag entries)) None) (marker_of tag more)) marked) ∙ commits

  -- open transactions
  open_lost : (tag : Tag) → not (is_committed tag entries) ≡ true → gone entries all part tag ≡ true → is_commit (whole tag) ≡ false
  open_lost tag waits lost = either (is_aborted (verdict_of entries tag)) (is_outdated entries all tag part) lost
      (λ aborted. aborted_silent tag aborted)
      (λ outdated.
      let none : is_committed tag entries ≡ false = by (is_committed tag entries) waits in
      let nothing : is_outdated entries all tag part ≡ false = ap (list_any (λ e. sets_part part e || replaces_part all part e)) (after_none (is_commit_of tag) entries none) in
      absurd (true≢false (sym outdated ∙ nothing)))
    where
      by : (b : Bool) → not b ≡ true → b ≡ false
      by true e = sym e
      by false e = refl

  -- an entry of the list is one of it
  there : (before : List Entry) (tag : Tag) (e : Entry) (rest : List Entry) → before ++ e ∷ rest ≡ entries → is_commit_of tag e ≡ true → is_committed tag entries ≡ true
  there before tag e rest is commits =
      ap (is_committed tag) (sym is) ∙ list_any-append (is_commit_of tag) before (e ∷ rest) ∙ by (is_committed tag before) (is_commit_of tag e) commits
    where
      by : (a b : Bool) → b ≡ true → (a || (b || is_committed tag rest)) ≡ true
      by true b e = refl
      by false b e = ap (λ (c : Bool). c || is_committed tag rest) e

  -- what an entry sets or replaces is said
  entry_full : (before : List Entry) (e : Entry) (rest : List Entry) → before ++ e ∷ rest ≡ entries → (sets_part part e || replaces_part all part e) ≡ true → IsFull (said_by part whole (calls_at all e))
  entry_full before (entry.Bump tid) rest is counts = absurd (true≢false (sym counts))
  entry_full before (entry.Commit tag generation spans) rest is counts =
      let two = both (list_any (λ span. same_part part span.part) spans && is_marked tag all) (list_any (stores tag part) all) counts in
      let one = both (list_any (λ span. same_part part span.part) spans) (is_marked tag all) two.0 in
      let commits : is_committed tag entries ≡ true = there before tag (entry.Commit tag generation spans) rest is ((same_tag-Decides tag tag).1 refl) in
      log_full part whole entries tag (marked_commits tag commits one.1) all tells two.1
  entry_full before (entry.Set tid epoch sets) rest is counts = sets_full part whole sets (either (list_any (λ set. same_part part set.part) sets) false counts (λ e. e) (λ e. absurd (true≢false (sym e))))

  abbrev all_say : List Entry → Said
  all_say rest = said_by part whole (flat_map (calls_at all) rest)

  abbrev left_say : List Entry → Said
  left_say rest = said_by part standing (flat_map (calls_at left) rest)

  next_entry : (before : List Entry) (e : Entry) (rest : List Entry) → before ++ e ∷ rest ≡ entries → (before ++ e ∷ []) ++ rest ≡ entries
  next_entry before e rest is = append_assoc before (e ∷ []) rest ∙ is

  entries_full : (before rest : List Entry) → before ++ rest ≡ entries → list_any (λ e. sets_part part e || replaces_part all part e) rest ≡ true → IsFull (all_say rest)
  entries_full before [] is counts = absurd (true≢false (sym counts))
  entries_full before (e ∷ rest) is counts =
      full_as (all_say (e ∷ rest)) (option_or (all_say rest) (said_by part whole (calls_at all e))) (said_by-append part whole (calls_at all e) (flat_map (calls_at all) rest))
      (either (sets_part part e || replaces_part all part e) (list_any (λ x. sets_part part x || replaces_part all part x) rest) counts
      (λ here. full_or (all_say rest) (said_by part whole (calls_at all e)) (entry_full before e rest is here))
      (λ later. full_first (all_say rest) (said_by part whole (calls_at all e)) (entries_full (before ++ e ∷ []) rest (next_entry before e rest is) later)))

  -- of a transaction that is committed just what is set or replaced behind that is gone
  gone_behind : (before : List Entry) (tag : Tag) (e : Entry) (rest : List Entry) → before ++ e ∷ rest ≡ entries → is_commit_of tag e ≡ true → is_committed tag before ≡ false
      → gone entries all part tag ≡ true → IsFull (all_say rest)
  gone_behind before tag e rest is commits fresh lost = either (is_aborted (verdict_of entries tag)) (is_outdated entries all tag part) lost
      (λ aborted. absurd (true≢false (sym (there before tag e rest is commits) ∙ uncommitted tag aborted)))
      (λ outdated.
      let behind : after_first (is_commit_of tag) entries ≡ rest = ap (after_first (is_commit_of tag)) (sym is) ∙ after_these (is_commit_of tag) before e rest fresh commits in
      entries_full (before ++ e ∷ []) rest (next_entry before e rest is) (ap (list_any (λ x. sets_part part x || replaces_part all part x)) (sym behind) ∙ outdated))

  -- what the entries of the transaction list say
  one_same : (before : List Entry) (e : Entry) (rest : List Entry) → before ++ e ∷ rest ≡ entries → IsLegalBehind before e → left_say rest ≡ all_say rest
      → option_or (left_say rest) (said_by part standing (calls_at left e)) ≡ option_or (all_say rest) (said_by part whole (calls_at all e))
  one_same before (entry.Bump tid) rest is legal same = ap (λ o. option_or o None) same
  one_same before (entry.Set tid epoch sets) rest is legal same =
      ap (λ o. option_or o (said_by part standing (map (λ set. Set set.part set.to) sets))) same
      ∙ ap (option_or (all_say rest)) (sets_same part standing whole sets)
  one_same before (entry.Commit tag generation spans) rest is legal same = cases (gone entries all part tag)
      (λ lost.
      let full = gone_behind before tag (entry.Commit tag generation spans) rest is ((same_tag-Decides tag tag).1 refl) legal.1 lost in
      ap (λ o. option_or o (said_by part standing (puts_of (same_tag tag) left))) same
      ∙ full (said_by part standing (puts_of (same_tag tag) left))
      ∙ sym (full (said_by part whole (puts_of (same_tag tag) all))))
      (λ stays.
      ap (λ o. option_or o (said_by part standing (puts_of (same_tag tag) left))) same
      ∙ ap (option_or (all_say rest))
      (log_kept entries all part whole standing (same_tag tag)
      (λ q one lost. absurd (true≢false (sym lost ∙ ap (gone entries all part) (sym ((same_tag-Decides tag q).0 one)) ∙ stays)))
      all same_marker))

  entries_same : (before rest : List Entry) → before ++ rest ≡ entries → legal.EachFrom IsLegalBehind before rest → left_say rest ≡ all_say rest
  entries_same before [] is legal = refl
  entries_same before (e ∷ rest) is legal =
      said_by-append part standing (calls_at left e) (flat_map (calls_at left) rest)
      ∙ one_same before e rest is legal.0 (entries_same (before ++ e ∷ []) rest (next_entry before e rest is) legal.1)
      ∙ sym (said_by-append part whole (calls_at all e) (flat_map (calls_at all) rest))

  said_same : IsLegal entries → said_of part (replayed entries left ++ more) ≡ said_of part (replayed entries all ++ more)
  said_same legal =
      replay_says part entries more left
      ∙ ap (λ o. option_or (option_or (said_of part more) o) (left_say entries)) (log_kept entries all part whole standing (λ tag. not (is_committed tag entries)) open_lost all same_marker)
      ∙ ap (option_or (option_or (said_of part more) (said_by part whole (puts_of (λ tag. not (is_committed tag entries)) all)))) (entries_same [] entries refl legal)
      ∙ sym (replay_says part entries more all)

pub compacted_same : (entries : List Entry) (log : List OffsetEntry) → IsLegal entries → AreAllowedStored entries log → SaysTheSame entries (compact_offsets entries log) log
compacted_same entries log legal allowed more part truth =
    ap (λ o. unwrap_or o None) (said_same part entries log more (log_tells entries [] log allowed) truth legal)
