-- A compacted log says of each part what the whole one says.
use Rattle.std.proofs.Common.{◌≡◌, ℕ, ◌==◌, Bool, true, false, not, ◌||◌, ◌&&◌, cond, List, [], ◌∷◌, ◌++◌, length, map, Option, None, Some, refl, ap, sym, ◌∙◌, arith}
use Rattle.std.proofs.lemmas.Bool.{true≢false}
use Rattle.std.proofs.lemmas.Bool.Decides.{nat_tests}
use Rattle.std.specs.Option.{option_or, option_and_then, option_map, option_map_or}
use Rattle.std.specs.List.{filter, filter_map, flat_map, cons_option}
use Rattle.cw_types.specs.declared.ids.Tag.{Tag}
use Rattle.cw_types.specs.declared.ids.PartKey.{PartKey}
use Rattle.cw_types.specs.Same.{same_tag, same_part}
use Rattle.cw_types.proofs.SameLemmas.{same_tag-Decides, same_part-Decides}
use Rattle.cw_bytes.specs.declared.applied.Applied.{Applied}
use Rattle.cw_keys.specs.Parts.{part_of}
use Rattle.cw_keys.specs.Offsets.{offset_of}
use Rattle.cw_txn.specs.declared.entry.Entry.{Entry}
use Rattle.cw_txn.specs.Legal.{verdict_of}
use Rattle.cw_offset.specs.declared.body.OffsetEntry.{OffsetEntry}
use Rattle.cw_offset.specs.declared.body.OffsetEntry.TheVariants.{Records, Mark}
use Rattle.cw_offset.specs.declared.call.OffsetCall.{OffsetCall}
use Rattle.cw_offset.specs.declared.call.OffsetCall.TheVariants.{Put, Commit, Abort}
use Rattle.cw_offset.specs.Log.{has_records, marks_in}
use Rattle.cw_offset.specs.Offsets.{mark_in, marker_of, is_commit, said_in}
use Rattle.cw_offset.specs.Compaction.{is_aborted, is_outdated, offset_goes, records_staying, is_filled, offset_stays}
use Rattle.cw_offset.specs.Replay.{put_in, puts_in, puts_of}
use Rattle.cw_offset.proofs.Replays.{option_or-none, said_by, said_by-append}

abbrev Said : Type 0
Said = Option (Option ℕ)

-- what a record says of a part
abbrev record_says : PartKey → (Tag → Option Bool) → Tag → Applied → Said
record_says part m tag r = option_and_then (said_in part m) (put_in tag r)

says-cons : (part : PartKey) (m : Tag → Option Bool) (o : Option OffsetCall) (calls : List OffsetCall) → said_by part m (cons_option o calls) ≡ option_or (said_by part m calls) (option_and_then (said_in part m) o)
says-cons part m None calls = sym (option_or-none (said_by part m calls))
says-cons part m (Some call) calls = refl

abbrev put_as : Tag → Option PartKey → Option (List ℕ) → Option OffsetCall
put_as tag part value = option_and_then (λ p. option_map (Put tag p) (option_and_then (offset_of p) value)) part

-- what a put says depends on the marker of its transaction
put_same : (part : PartKey) (m n : Tag → Option Bool) (tag : Tag) → m tag ≡ n tag → (p : Option PartKey) (value : Option (List ℕ))
    → option_and_then (said_in part m) (put_as tag p value) ≡ option_and_then (said_in part n) (put_as tag p value)
put_same part m n tag same None value = refl
put_same part m n tag same (Some p) value = by (option_and_then (offset_of p) value)
  where
    by : (to : Option ℕ) → option_and_then (said_in part m) (option_map (Put tag p) to) ≡ option_and_then (said_in part n) (option_map (Put tag p) to)
    by None = refl
    by (Some to) = ap (λ (o : Option Bool). cond (same_part part p && is_commit o) (Some (Some to)) None) same

-- a put of another part, or of what isn't committed, says nothing
put_silent : (part : PartKey) (m : Tag → Option Bool) (tag : Tag) (p : Option PartKey) (value : Option (List ℕ))
    → ((q : PartKey) → p ≡ Some q → (same_part part q && is_commit (m tag)) ≡ false) → option_and_then (said_in part m) (put_as tag p value) ≡ None
put_silent part m tag None value fails = refl
put_silent part m tag (Some p) value fails = by (option_and_then (offset_of p) value)
  where
    by : (to : Option ℕ) → option_and_then (said_in part m) (option_map (Put tag p) to) ≡ None
    by None = refl
    by (Some to) = ap (λ (b : Bool). cond b (Some (Some to)) None) (fails p refl)

and_no : (a b : Bool) → (a ≡ true → b ≡ false) → (a && b) ≡ false
and_no true b fails = fails refl
and_no false b fails = refl

or_later : (a b : Bool) → b ≡ true → (a || b) ≡ true
or_later true b e = refl
or_later false b e = e

or_first : (a b : Bool) → a ≡ true → (a || b) ≡ true
or_first true b e = refl
or_first false b e = cc

module _ (entries : List Entry) (all : List OffsetEntry) (part : PartKey) where
  -- whether a transaction's records of the part go
  abbrev pub gone : Tag → Bool
  gone tag = is_aborted (verdict_of entries tag) || is_outdated entries all tag part

  abbrev staying : Tag → Applied → Bool
  staying tag r = not (offset_goes entries all tag r)

  abbrev keeps : OffsetEntry → OffsetEntry
  keeps entry = records_staying entries all entry

  abbrev left : List OffsetEntry → List OffsetEntry
  left xs = filter (offset_stays (map keeps all)) (map keeps xs)

  -- of the part itself a record goes just where its transaction's do
  goes_as : (tag : Tag) (p q : Option PartKey) → p ≡ q → (k : PartKey) → q ≡ Some k → same_part part k ≡ true
      → (is_aborted (verdict_of entries tag) || option_map_or (is_outdated entries all tag) p false) ≡ gone tag
  goes_as tag p q e k is same =
      let one : p ≡ Some part = e ∙ is ∙ ap Some (sym ((same_part-Decides part k).0 same)) in
      ap (λ (o : Option PartKey). is_aborted (verdict_of entries tag) || option_map_or (is_outdated entries all tag) o false) one

  goes_silent : (m : Tag → Option Bool) (tag : Tag) → (gone tag ≡ true → is_commit (m tag) ≡ false) → (r : Applied) → offset_goes entries all tag r ≡ true → record_says part m tag r ≡ None
  goes_silent m tag none r goes =
      put_silent part m tag (part_of r.key) r.value
      (λ q is. and_no (same_part part q) (is_commit (m tag)) (λ same. none (sym (goes_as tag (part_of r.key) (part_of r.key) refl q is same) ∙ goes)))

  stays_silent : (m : Tag → Option Bool) (tag : Tag) → gone tag ≡ true → (r : Applied) → offset_goes entries all tag r ≡ false → record_says part m tag r ≡ None
  stays_silent m tag lost r stays =
      put_silent part m tag (part_of r.key) r.value
      (λ q is. and_no (same_part part q) (is_commit (m tag)) (λ same.
      let no : true ≡ false = sym lost ∙ sym (goes_as tag (part_of r.key) (part_of r.key) refl q is same) ∙ stays in
      cc no))

  -- ---- the records of an entry

  abbrev Filled : List Applied → Bool
  Filled records = not (length records == 0)

  filled-cons : (r : Applied) (rest : List Applied) → Filled (r ∷ rest) ≡ true
  filled-cons r rest = grind (arith, nat_tests)

  module _ (whole standing : Tag → Option Bool) (tag : Tag) (none : gone tag ≡ true → is_commit (whole tag) ≡ false) where
    one_kept : (b : Bool) (r : Applied) (rest some : List Applied) → b ≡ offset_goes entries all tag r
        → (Filled (cond (not b) (r ∷ some) some) ≡ true → standing tag ≡ whole tag)
        → ((Filled some ≡ true → standing tag ≡ whole tag) → said_by part standing (filter_map (put_in tag) some) ≡ said_by part whole (filter_map (put_in tag) rest))
        → said_by part standing (filter_map (put_in tag) (cond (not b) (r ∷ some) some)) ≡ said_by part whole (filter_map (put_in tag) (r ∷ rest))
    one_kept true r rest some goes same more =
        more same
        ∙ sym (option_or-none (said_by part whole (filter_map (put_in tag) rest)))
        ∙ ap (option_or (said_by part whole (filter_map (put_in tag) rest))) (sym (goes_silent whole tag none r (sym goes)))
        ∙ sym (says-cons part whole (put_in tag r) (filter_map (put_in tag) rest))
    one_kept false r rest some goes same more =
        let alike : standing tag ≡ whole tag = same (filled-cons r some) in
        says-cons part standing (put_in tag r) (filter_map (put_in tag) some)
        ∙ ap (λ o. option_or o (record_says part standing tag r)) (more (λ _. alike))
        ∙ ap (option_or (said_by part whole (filter_map (put_in tag) rest))) (put_same part standing whole tag alike (part_of r.key) r.value)
        ∙ sym (says-cons part whole (put_in tag r) (filter_map (put_in tag) rest))

    records_kept : (records : List Applied) → (Filled (filter (staying tag) records) ≡ true → standing tag ≡ whole tag)
        → said_by part standing (filter_map (put_in tag) (filter (staying tag) records)) ≡ said_by part whole (filter_map (put_in tag) records)
    records_kept [] same = refl
    records_kept (r ∷ records) same = one_kept (offset_goes entries all tag r) r records (filter (staying tag) records) refl same (records_kept records)

  one_lost : (m : Tag → Option Bool) (tag : Tag) → gone tag ≡ true → (b : Bool) (r : Applied) (some : List Applied) → b ≡ offset_goes entries all tag r
      → said_by part m (filter_map (put_in tag) some) ≡ None → said_by part m (filter_map (put_in tag) (cond (not b) (r ∷ some) some)) ≡ None
  one_lost m tag lost true r some goes none = none
  one_lost m tag lost false r some goes none =
      says-cons part m (put_in tag r) (filter_map (put_in tag) some)
      ∙ ap (λ o. option_or o (record_says part m tag r)) none
      ∙ stays_silent m tag lost r (sym goes)

  records_lost : (m : Tag → Option Bool) (tag : Tag) → gone tag ≡ true → (records : List Applied) → said_by part m (filter_map (put_in tag) (filter (staying tag) records)) ≡ None
  records_lost m tag lost [] = refl
  records_lost m tag lost (r ∷ records) = one_lost m tag lost (offset_goes entries all tag r) r (filter (staying tag) records) refl (records_lost m tag lost records)

  -- ---- the entries of a log

  -- an entry without records says nothing, so it may stay or go
  empty_puts : (of : Bool) (tag : Tag) (records : List Applied) → Filled records ≡ false → cond of (filter_map (put_in tag) records) [] ≡ []
  empty_puts true tag [] e = refl
  empty_puts false tag [] e = refl
  empty_puts of tag (r ∷ records) e = absurd (true≢false (sym (filled-cons r records) ∙ e))

  chosen_puts : (of : Tag → Bool) (b : Bool) (tag : Tag) (records : List Applied) (rest : List OffsetEntry) → Filled records ≡ b
      → puts_of of (cond b (Records tag records ∷ rest) rest) ≡ puts_in of (Records tag records) ++ puts_of of rest
  chosen_puts of true tag records rest e = refl
  chosen_puts of false tag records rest e = ap (λ (l : List OffsetCall). l ++ puts_of of rest) (sym (empty_puts (of tag) tag records e))

  passed_puts : (of : Tag → Bool) (b : Bool) (mark : OffsetEntry) (rest : List OffsetEntry) → puts_in of mark ≡ [] → puts_of of (cond b (mark ∷ rest) rest) ≡ puts_of of rest
  passed_puts of true mark rest e = ap (λ (l : List OffsetCall). l ++ puts_of of rest) e
  passed_puts of false mark rest e = refl

  -- the puts that are left, an entry after the other
  abbrev some_of : Tag → List Applied → List Applied
  some_of tag records = filter (staying tag) records

  at_records : (of : Tag → Bool) (m : Tag → Option Bool) (tag : Tag) (records : List Applied) (xs : List OffsetEntry)
      → said_by part m (puts_of of (left (Records tag records ∷ xs))) ≡ option_or (said_by part m (puts_of of (left xs))) (said_by part m (cond (of tag) (filter_map (put_in tag) (some_of tag records)) []))
  at_records of m tag records xs =
      ap (said_by part m) (chosen_puts of (Filled (some_of tag records)) tag (some_of tag records) (left xs) refl)
      ∙ said_by-append part m (puts_in of (Records tag (some_of tag records))) (puts_of of (left xs))

  -- whether a transaction has records left
  abbrev HasLeft : List OffsetEntry → Tag → Type 0
  HasLeft xs tag = has_records tag (filter is_filled (map keeps xs)) ≡ true

  has_later : (b : Bool) (tag other : Tag) (records : List Applied) (rest : List OffsetEntry) → has_records tag rest ≡ true → has_records tag (cond b (Records other records ∷ rest) rest) ≡ true
  has_later true tag other records rest e = or_later (same_tag tag other) (has_records tag rest) e
  has_later false tag other records rest e = e

  has_here : (b : Bool) (tag : Tag) (records : List Applied) (rest : List OffsetEntry) → b ≡ true → has_records tag (cond b (Records tag records ∷ rest) rest) ≡ true
  has_here true tag records rest e = or_first (same_tag tag tag) (has_records tag rest) ((same_tag-Decides tag tag).1 refl)
  has_here false tag records rest e = cc e

  module _ (whole standing : Tag → Option Bool) (of : Tag → Bool) (none : (tag : Tag) → of tag ≡ true → gone tag ≡ true → is_commit (whole tag) ≡ false) where
    here_kept : (b : Bool) (tag : Tag) (records : List Applied) → of tag ≡ b → (Filled (some_of tag records) ≡ true → standing tag ≡ whole tag)
        → said_by part standing (cond b (filter_map (put_in tag) (some_of tag records)) []) ≡ said_by part whole (cond b (filter_map (put_in tag) records) [])
    here_kept true tag records is same = records_kept whole standing tag (none tag is) records same
    here_kept false tag records is same = refl

    -- what is left says what all says
    pub log_kept : (xs : List OffsetEntry) → ((tag : Tag) → HasLeft xs tag → standing tag ≡ whole tag) → said_by part standing (puts_of of (left xs)) ≡ said_by part whole (puts_of of xs)
    log_kept [] same = refl
    log_kept (Records tag records ∷ xs) same =
        let filled : Bool = Filled (some_of tag records) in
        let rest : List OffsetEntry = filter is_filled (map keeps xs) in
        let later = log_kept xs (λ q has. same q (has_later filled q tag (some_of tag records) rest has)) in
        at_records of standing tag records xs
        ∙ ap (λ o. option_or o (said_by part standing (cond (of tag) (filter_map (put_in tag) (some_of tag records)) []))) later
        ∙ ap (option_or (said_by part whole (puts_of of xs))) (here_kept (of tag) tag records refl (λ some. same tag (has_here filled tag (some_of tag records) rest some)))
        ∙ sym (said_by-append part whole (puts_in of (Records tag records)) (puts_of of xs))
    log_kept (Mark mark ∷ xs) same =
        ap (said_by part standing) (passed_puts of (offset_stays (map keeps all) (Mark mark)) (Mark mark) (left xs) refl) ∙ log_kept xs same

  module _ (m : Tag → Option Bool) (of : Tag → Bool) (lost : (tag : Tag) → of tag ≡ true → gone tag ≡ true) where
    here_lost : (b : Bool) (tag : Tag) (records : List Applied) → of tag ≡ b → said_by part m (cond b (filter_map (put_in tag) (some_of tag records)) []) ≡ None
    here_lost true tag records is = records_lost m tag (lost tag is) records
    here_lost false tag records is = refl

    -- of what is gone nothing is left
    pub log_lost : (xs : List OffsetEntry) → said_by part m (puts_of of (left xs)) ≡ None
    log_lost [] = refl
    log_lost (Records tag records ∷ xs) =
        at_records of m tag records xs
        ∙ ap (λ o. option_or o (said_by part m (cond (of tag) (filter_map (put_in tag) (some_of tag records)) []))) (log_lost xs)
        ∙ here_lost (of tag) tag records refl
    log_lost (Mark mark ∷ xs) =
        ap (said_by part m) (passed_puts of (offset_stays (map keeps all) (Mark mark)) (Mark mark) (left xs) refl) ∙ log_lost xs

-- ---- the markers of a transaction that has records left

module _ (entries : List Entry) (all : List OffsetEntry) (tag : Tag) where
  abbrev marker_left : List OffsetEntry → List OffsetEntry
  marker_left xs = filter (offset_stays (map (records_staying entries all) all)) (map (records_staying entries all) xs)

  abbrev marker_in : List OffsetEntry → Option Bool
  marker_in xs = marker_of tag (flat_map marks_in xs)

  no_marks : (b : Bool) (other : Tag) (records : List Applied) (rest : List OffsetEntry) → marker_in (cond b (Records other records ∷ rest) rest) ≡ marker_in rest
  no_marks true other records rest = refl
  no_marks false other records rest = refl

  -- the marker of another transaction says nothing of this one
  other_mark : (c : Bool) (other : Tag) → same_tag tag other ≡ false → mark_in tag (cond c (Commit other) (Abort other)) ≡ None
  other_mark true other apart = ap (λ (b : Bool). cond b (Some true) None) apart
  other_mark false other apart = ap (λ (b : Bool). cond b (Some false) None) apart

  mark_chosen : (b same c : Bool) (other : Tag) (rest : List OffsetEntry) → same_tag tag other ≡ same → (same ≡ true → b ≡ true)
      → marker_in (cond b (Mark (record { tag = other; committed = c }) ∷ rest) rest) ≡ option_or (mark_in tag (cond c (Commit other) (Abort other))) (marker_in rest)
  mark_chosen true same c other rest is stays = refl
  mark_chosen false true c other rest is stays = cc (stays refl)
  mark_chosen false false c other rest is stays = ap (λ o. option_or o (marker_in rest)) (sym (other_mark c other is))

  pub marker_kept : has_records tag (filter is_filled (map (records_staying entries all) all)) ≡ true → (xs : List OffsetEntry) → marker_in (marker_left xs) ≡ marker_in xs
  marker_kept has [] = refl
  marker_kept has (Records other records ∷ xs) =
      no_marks (offset_stays (map (records_staying entries all) all) (records_staying entries all (Records other records))) other
      (filter (λ r. not (offset_goes entries all other r)) records) (marker_left xs)
      ∙ marker_kept has xs
  marker_kept has (Mark mark ∷ xs) =
      mark_chosen (has_records mark.tag (filter is_filled (map (records_staying entries all) all))) (same_tag tag mark.tag) mark.committed mark.tag (marker_left xs) refl
      (λ same. ap (λ (t : Tag). has_records t (filter is_filled (map (records_staying entries all) all))) (sym ((same_tag-Decides tag mark.tag).0 same)) ∙ has)
      ∙ ap (option_or (mark_in tag (cond mark.committed (Commit mark.tag) (Abort mark.tag)))) (marker_kept has xs)
