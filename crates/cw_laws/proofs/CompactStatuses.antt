-- What a compaction of the status log leaves: of each connector and task the last status, allowed where it stands.
use Rattle.std.proofs.Common.{◌≡◌, ℕ, ◌+◌, ◌≤◌, Bool, true, false, cond, max, List, [], ◌∷◌, ◌++◌, map, Result, Ok, Err, Option, None, Some, IsSome, refl, ap, sym, subst, ◌∙◌, arith}
use Rattle.std.specs.Bool.{⊤}
use Rattle.std.specs.Option.{option_map, option_and_then}
use Rattle.std.specs.List.{filter, filter_map, cons_option, AllByRecursion}
use Rattle.std.proofs.lemmas.List.{map-append, append-nil}
use Rattle.std.proofs.lemmas.List.Sums.{fold-append}
use Rattle.cw_types.specs.declared.ids.Item.{Item}
use Rattle.cw_bytes.specs.declared.applied.Applied.{Applied}
use Rattle.cw_bytes.specs.Frames.{EachFrom, joined, next_behind, next_after, is_last}
use Rattle.cw_bytes.proofs.Compacted.{OffsetsRise, ends, next_after-ends, repeats, keep_last, kept_last, joined-staying}
use Rattle.cw_keys.specs.Statuses.{status_of}
use Rattle.cw_keys.specs.declared.fault.KeyFault.{KeyFault}
use Rattle.cw_keys.specs.declared.status.StatusValue.{StatusValue}
use Rattle.cw_status.specs.declared.record.StatusRecord.{StatusRecord}
use Rattle.cw_status.specs.Statuses.{latest}
use Rattle.cw_status.specs.Compaction.{compact_statuses, record_with, record_in, records_in, IsAllowedStatus, AreAllowedStatuses}
use Rattle.cw_status.proofs.Kept.{compacted}
use Rattle.cw_model.specs.State.{StampedStatus}
use Rattle.cw_model.specs.Bodies.{status_in, statuses_in}
use Rattle.cw_model.specs.FactsLogs.{FitsStatus, StatusFacts}
use Rattle.cw_laws.proofs.CompactConfigs.{some_value}

-- ---- what fields are read as

with-reads : (a : Applied) (read : Result (Item × StatusValue) KeyFault) (r : StatusRecord) → record_with a read ≡ Some r → r.offset ≡ a.offset
with-reads a (Ok read) r e = cc
with-reads a (Err fault) r e = absurd (cc)

text-reads : (a : Applied) (value : Option (List ℕ)) (r : StatusRecord) → option_and_then (λ text. record_with a (status_of a.key text)) value ≡ Some r → r.offset ≡ a.offset
text-reads a None r e = absurd (cc)
text-reads a (Some text) r e = with-reads a (status_of a.key text) r e

pub stamped-reads : (a : Applied) (o : Option StatusRecord) (r : StampedStatus) → option_map (λ status. record { stamp = a.stamp; status = status }) o ≡ Some r → o ≡ Some r.status
stamped-reads a None r e = absurd (cc)
stamped-reads a (Some status) r e = cc

pub status-reads : (a : Applied) (r : StampedStatus) → status_in a ≡ Some r → r.status.offset ≡ a.offset
status-reads a r e = text-reads a a.value r.status (stamped-reads a (record_in a) r e)

-- ---- the records without their stamps

unstamped : (a : Applied) (o : Option StatusRecord) (l : List StampedStatus) (m : List StatusRecord) → map (λ (r : StampedStatus). r.status) l ≡ m →
    map (λ (r : StampedStatus). r.status) (cons_option (option_map (λ status. record { stamp = a.stamp; status = status }) o) l) ≡ cons_option o m
unstamped a None l m same = same
unstamped a (Some status) l m same = ap (λ k. status ∷ k) same

pub records-of : (xs : List Applied) → map (λ (r : StampedStatus). r.status) (filter_map status_in xs) ≡ filter_map record_in xs
records-of [] = refl
records-of (a ∷ xs) = unstamped a (record_in a) (filter_map status_in xs) (filter_map record_in xs) (records-of xs)

some_record : (a : Applied) (o : Option StatusRecord) → IsSome {T = StampedStatus} (option_map (λ (status : StatusRecord). record { stamp = a.stamp; status = status }) o) → IsSome o
some_record a None some = some
some_record a (Some status) some = refl

-- ---- offsets

abbrev pub AreRead : List Applied → Type 0
AreRead xs = AllByRecursion (λ a. IsSome (status_in a)) xs

abbrev end_of : List StampedStatus → ℕ
end_of rs = next_behind (map (λ (r : StampedStatus). r.status.offset) rs)

end-push : (rs : List StampedStatus) (r : StampedStatus) → end_of (rs ++ r ∷ []) ≡ max (end_of rs) (r.status.offset + 1)
end-push rs r =
    ap next_behind (map-append (λ (r : StampedStatus). r.status.offset) rs (r ∷ []))
    ∙ fold-append (λ (end offset : ℕ). max end (offset + 1)) 0 (map (λ (r : StampedStatus). r.status.offset) rs) (r.status.offset ∷ [])

pub next-push : (before : List Applied) (a : Applied) → next_after before ≤ a.offset → next_after (before ++ a ∷ []) ≡ a.offset + 1
next-push before a above =
    let e : next_after before ≡ ends 0 before = next_after-ends before in
    let pushed : ends 0 (before ++ a ∷ []) ≡ max (ends 0 before) (a.offset + 1) = fold-append (λ end (q : Applied). max end (q.offset + 1)) 0 before (a ∷ []) in
    next_after-ends (before ++ a ∷ []) ∙ pushed ∙ omega (arith, e, above)

pub read-cons : (a : Applied) (r : StampedStatus) (xs : List Applied) → status_in a ≡ Some r → filter_map status_in (a ∷ xs) ≡ r ∷ filter_map status_in xs
read-cons a r xs e = ap (λ (o : Option StampedStatus). cons_option o (filter_map status_in xs)) e

rising-read : (before : List StampedStatus) (xs : List Applied) → AreRead xs → EachFrom FitsStatus before (filter_map status_in xs) → OffsetsRise (end_of before) xs
rising-read before [] read fits = tt
rising-read before (a ∷ xs) read fits =
    let found : (r : StampedStatus) × (status_in a ≡ Some r) = some_value (status_in a) read.0 in
    let r : StampedStatus = found.0 in
    let there : EachFrom FitsStatus before (r ∷ filter_map status_in xs) = subst (EachFrom FitsStatus before) (read-cons a r xs found.1) fits in
    let same : r.status.offset ≡ a.offset = status-reads a r found.1 in
    let above : end_of before ≤ r.status.offset = there.0.above in
    let next : end_of (before ++ r ∷ []) ≡ a.offset + 1 = omega (arith, end-push before r, above, same) in
    (omega (arith, above, same), subst (λ (n : ℕ). OffsetsRise n xs) next (rising-read (before ++ r ∷ []) xs read.1 there.1))

allowed-read : (before xs : List Applied) → AreRead xs → OffsetsRise (next_after before) xs → EachFrom IsAllowedStatus before xs
allowed-read before [] read rises = tt
allowed-read before (a ∷ xs) read rises = (
  record { above = rises.0; grammar = some_record a (record_in a) read.0 },
  allowed-read (before ++ a ∷ []) xs read.1 (subst (λ (n : ℕ). OffsetsRise n xs) (sym (next-push before a rises.0)) rises.1),
)

offsets-read : (xs : List Applied) → AreRead xs → map (λ (r : StampedStatus). r.status.offset) (filter_map status_in xs) ≡ map (λ (a : Applied). a.offset) xs
offsets-read [] read = refl
offsets-read (a ∷ xs) read =
    let found : (r : StampedStatus) × (status_in a ≡ Some r) = some_value (status_in a) read.0 in
    ap (map (λ (r : StampedStatus). r.status.offset)) (read-cons a found.0 xs found.1)
    ∙ ap (λ (l : List ℕ). found.0.status.offset ∷ l) (offsets-read xs read.1)
    ∙ ap (λ (n : ℕ). n ∷ map (λ (a : Applied). a.offset) xs) (status-reads a found.0 found.1)

pub end-read : (xs : List Applied) → AreRead xs → end_of (filter_map status_in xs) ≡ next_after xs
end-read xs read = ap next_behind (offsets-read xs read)

-- ---- the last of each key ends where all end

abbrev IsFilled : List Applied → Type 0
IsFilled [] = ⊥
IsFilled (x ∷ xs) = ⊤

filled-cond : (b : Bool) (x : Applied) (l : List Applied) → (b ≡ true → IsFilled l) → IsFilled (cond b l (x ∷ l))
filled-cond true x l so = so refl
filled-cond false x l so = tt

some-filled : (key : List ℕ) (xs : List Applied) → repeats key xs ≡ true → IsFilled xs
some-filled key [] e = absurd (cc)
some-filled key (x ∷ xs) e = tt

repeats-filled : (key : List ℕ) (xs : List Applied) → repeats key xs ≡ true → IsFilled xs → IsFilled (keep_last xs)
repeats-filled key [] again filled = filled
repeats-filled key (x ∷ xs) again filled = filled-cond (repeats x.key xs) x (keep_last xs) (λ more. repeats-filled x.key xs more (some-filled x.key xs more))

ends-filled : (low high : ℕ) (xs : List Applied) → IsFilled xs → OffsetsRise high xs → low ≤ high → ends low xs ≡ ends high xs
ends-filled low high [] filled rises less = absurd filled
ends-filled low high (x ∷ xs) filled rises less =
    let first : high ≤ x.offset = rises.0 in
    let same : max low (x.offset + 1) ≡ max high (x.offset + 1) = omega (arith, first, less) in
    ap (λ (n : ℕ). ends n xs) same

rises-lower : (low high : ℕ) (xs : List Applied) → low ≤ high → OffsetsRise high xs → OffsetsRise low xs
rises-lower low high [] less rises = tt
rises-lower low high (x ∷ xs) less rises = (omega (arith, less, rises.0), rises.1)

rises-kept : (low : ℕ) (xs : List Applied) → OffsetsRise low xs → OffsetsRise low (keep_last xs)
rises-kept low [] rises = tt
rises-kept low (x ∷ xs) rises = by (repeats x.key xs) (rises-kept (x.offset + 1) xs rises.1)
  where
    by : (b : Bool) → OffsetsRise (x.offset + 1) (keep_last xs) → OffsetsRise low (cond b (keep_last xs) (x ∷ keep_last xs))
    by true rest = rises-lower low (x.offset + 1) (keep_last xs) (omega (arith, rises.0)) rest
    by false rest = (rises.0, rest)

ends-kept : (low : ℕ) (xs : List Applied) → OffsetsRise low xs → ends low (keep_last xs) ≡ ends low xs
ends-kept low [] rises = refl
ends-kept low (x ∷ xs) rises =
    let first : low ≤ x.offset = rises.0 in
    let next : max low (x.offset + 1) ≡ x.offset + 1 = omega (arith, first) in
    by (repeats x.key xs) (λ again. repeats-filled x.key xs again (some-filled x.key xs again)) (ends-kept (x.offset + 1) xs rises.1) next
  where
    by : (b : Bool) → (b ≡ true → IsFilled (keep_last xs)) → ends (x.offset + 1) (keep_last xs) ≡ ends (x.offset + 1) xs → max low (x.offset + 1) ≡ x.offset + 1
        → ends low (cond b (keep_last xs) (x ∷ keep_last xs)) ≡ ends (max low (x.offset + 1)) xs
    by true filled same next =
        ends-filled low (x.offset + 1) (keep_last xs) (filled refl) (rises-kept (x.offset + 1) xs rises.1) (omega (arith, rises.0))
        ∙ same ∙ ap (λ (n : ℕ). ends n xs) (sym next)
    by false filled same next = ap (λ (n : ℕ). ends n (keep_last xs)) next ∙ same ∙ ap (λ (n : ℕ). ends n xs) (sym next)

-- ---- what is left is allowed

fits-fewer : (fewer before : List StampedStatus) (r : StampedStatus) → end_of fewer ≤ end_of before → FitsStatus before r → FitsStatus fewer r
fits-fewer fewer before r less fits = record { above = omega (arith, less, fits.above); item = fits.item; value = fits.value }

kept-fits : (p : Applied → Bool) (fewer before : List StampedStatus) (xs : List Applied) → end_of fewer ≤ end_of before → EachFrom FitsStatus before (filter_map status_in xs) →
    EachFrom FitsStatus fewer (filter_map status_in (filter p xs))
kept-fits p fewer before [] less fits = tt
kept-fits p fewer before (a ∷ xs) less fits =
    by (status_in a) (p a) refl fits
    (λ f b shorter rest. kept-fits p f b xs shorter rest)
  where
    by : (o : Option StampedStatus) (b : Bool) → status_in a ≡ o → EachFrom FitsStatus before (cons_option o (filter_map status_in xs)) →
        ((f b : List StampedStatus) → end_of f ≤ end_of b → EachFrom FitsStatus b (filter_map status_in xs) → EachFrom FitsStatus f (filter_map status_in (filter p xs))) →
        EachFrom FitsStatus fewer (filter_map status_in (cond b (a ∷ filter p xs) (filter p xs)))
    by None true is fits on = subst (λ o. EachFrom FitsStatus fewer (cons_option o (filter_map status_in (filter p xs)))) (sym is) (on fewer before less fits)
    by None false is fits on = on fewer before less fits
    by (Some r) true is fits on =
        let above : end_of before ≤ r.status.offset = fits.0.above in
        let longer : end_of (fewer ++ r ∷ []) ≤ end_of (before ++ r ∷ []) = omega (arith, less, end-push fewer r, end-push before r) in
        subst (λ o. EachFrom FitsStatus fewer (cons_option o (filter_map status_in (filter p xs)))) (sym is) (fits-fewer fewer before r less fits.0, on (fewer ++ r ∷ []) (before ++ r ∷ []) longer fits.1)
    by (Some r) false is fits on =
        let longer : end_of fewer ≤ end_of (before ++ r ∷ []) = omega (arith, less, end-push before r) in
        on fewer (before ++ r ∷ []) longer fits.1

each-kept : (p : Applied → Bool) (xs : List Applied) → AreRead xs → AreRead (filter p xs)
each-kept p [] read = tt
each-kept p (a ∷ xs) read = by (p a) (each-kept p xs read.1)
  where
    by : (b : Bool) → AreRead (filter p xs) → AreRead (cond b (a ∷ filter p xs) (filter p xs))
    by true rest = (read.0, rest)
    by false rest = rest

module _ (frames : List (List Applied)) (whole : List StampedStatus) (read : AreRead (joined frames)) (facts : StatusFacts (statuses_in frames) whole) where
  abbrev all : List Applied
  all = joined frames

  left : joined (compact_statuses frames) ≡ filter (is_last all) all
  left = joined-staying (is_last all) frames

  rises : OffsetsRise 0 all
  rises = rising-read [] all read facts.standing_allowed

  pub left-read : AreRead (joined (compact_statuses frames))
  left-read = subst AreRead (sym left) (each-kept (is_last all) all read)

  left-end : end_of (statuses_in (compact_statuses frames)) ≡ end_of (statuses_in frames)
  left-end =
      end-read (joined (compact_statuses frames)) left-read
      ∙ ap next_after (left ∙ kept_last all rises)
      ∙ next_after-ends (keep_last all) ∙ ends-kept 0 all rises ∙ sym (next_after-ends all)
      ∙ sym (end-read all read)

  -- each status that stands may stand there
  pub statuses-allowed : AreAllowedStatuses frames
  statuses-allowed = allowed-read [] all read rises

  left-latest : (item : Item) → latest item (map (λ (r : StampedStatus). r.status) (statuses_in (compact_statuses frames))) ≡ latest item (map (λ (r : StampedStatus). r.status) (statuses_in frames))
  left-latest item =
      ap (latest item) (records-of (joined (compact_statuses frames)) ∙ sym (append-nil (records_in (compact_statuses frames))))
      ∙ compacted frames statuses-allowed [] item
      ∙ ap (latest item) (append-nil (records_in frames) ∙ sym (records-of all))

  pub left-statuses : StatusFacts (statuses_in (compact_statuses frames)) whole
  left-statuses = record {
    allowed = facts.allowed;
    standing_allowed = subst (λ l. EachFrom FitsStatus [] (filter_map status_in l)) (sym left) (kept-fits (is_last all) [] [] all (omega arith) facts.standing_allowed);
    end = left-end ∙ facts.end;
    latest = λ item. left-latest item ∙ facts.latest item;
  }
