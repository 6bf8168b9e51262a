-- What is told of the offset log's frames, one call after the other, and what follows from it: the next offset, and the
-- first transaction to mark.
use Rattle.std.proofs.Common.{◌≡◌, ℕ, zero, suc, ◌+◌, ◌≤◌, ◌<◌, inl, inr, max, Bool, false, List, [], ◌∷◌, ◌++◌, Contains, length, take, drop, Option, Some, None, refl, sym, ◌∙◌, ap, subst, arith, append-nil, append_assoc, get_or, cond}
use Rattle.std.specs.Option.{is_none, option_or}
use Rattle.std.specs.List.{filter, filter_map, flat_map, cons_option, find}
use Rattle.std.proofs.Math.Seq.{take-suc}
use Rattle.std.proofs.lemmas.Grind.{flat_map-append}
use Rattle.std.proofs.lemmas.List.Elements.{filter-append, filter_map-append}
use Rattle.cw_types.specs.declared.ids.Tag.{Tag}
use Rattle.cw_types.specs.declared.verdict.Verdict.{Verdict}
use Rattle.cw_types.specs.Verdict.{has_ended}
use Rattle.cw_bytes.specs.declared.applied.Applied.{Applied}
use Rattle.cw_bytes.specs.Frames.{EachFrom, next_after}
use Rattle.cw_txn.specs.declared.entry.Entry.{Entry}
use Rattle.cw_offset.specs.Calls.{Calls, Does, UsesUp}
use Rattle.cw_offset.specs.declared.body.OffsetEntry.{OffsetEntry}
use Rattle.cw_offset.specs.declared.call.OffsetCall.{OffsetCall}
use Rattle.cw_offset.specs.declared.call.OffsetCall.TheVariants as call
use Rattle.cw_offset.specs.Log.{offset_tag, offset_records, is_marked, first_unmarked}
use Rattle.cw_offset.specs.Offsets.{mark_in, marker_of, if_unmarked, waiting, first_unmarked as first_of_calls}
use Rattle.cw_offset.specs.Replay.{put_in, told_in, replayed}
use Rattle.cw_offset.proofs.Places.{goes_by_place}
use Rattle.cw_topics.specs.Offsets.{IsNext, IsFirst, with_call, raised, is_of_log, AreTold, IsOffsetLog}
use Rattle.cw_topics.proofs.Putting.{drop-next}

-- ---- memory that is used up in turn

uses-first : (c : OffsetCall) (old new : List OffsetCall) → old ≡ c ∷ drop 1 old → UsesUp c old new → new ≡ drop 1 old
uses-first c [] new ready uses = absurd (cc)
uses-first c (x ∷ xs) new ready (inr none) = absurd (none.0 (0, omega arith, ap (λ (l : List OffsetCall). get_or l 0 x) ready))
uses-first c (x ∷ xs) new ready (inl used) = behind used.front used.back used.split used.first used.rest
  where
    behind : (front back : List OffsetCall) → x ∷ xs ≡ front ++ c ∷ back → (¬ Contains front c) → new ≡ front ++ back → new ≡ xs
    behind [] back split first rest = rest ∙ sym (ap (λ (l : List OffsetCall). drop 1 l) split)
    behind (y ∷ ys) back split first rest =
        absurd (first (0, omega arith, sym (ap (λ (l : List OffsetCall). get_or l 0 x) split) ∙ ap (λ (l : List OffsetCall). get_or l 0 x) ready))

abbrev made : List OffsetCall → List OffsetCall → Calls
made calls reserved = record { calls = calls; reserved = reserved }

pub first-there : (c : OffsetCall) (t : Calls) → IsFirst c t → Contains t.reserved c
first-there c t ready = subst (λ (l : List OffsetCall). Contains l c) (sym ready) (0, omega arith, refl)

-- a call that is made from the memory that was taken for it first
pub first-done : (c : OffsetCall) (old new : Calls) → IsFirst c old → Does c old new → new ≡ with_call c old
first-done c old new ready does =
    ap (λ (l : List OffsetCall). made l new.reserved) does.calls ∙
    ap (λ (l : List OffsetCall). made (old.calls ++ c ∷ []) l) (uses-first c old.reserved new.reserved ready does.reserved)

-- ---- one call after the other

-- so many calls are made behind others, and memory is taken for the rest
pub record IsMade (before calls : List OffsetCall) (k : ℕ) (now : Calls) : Type 0 where
  pub calls_are : now.calls ≡ before ++ take k calls
  pub reserved : now.reserved ≡ drop k calls

pub take-next : {A : Type 0} (xs : List A) (k : ℕ) (d : A) → k < length xs → take (k + 1) xs ≡ take k xs ++ get_or xs k d ∷ []
take-next xs k d within =
    let next : k + 1 ≡ suc k = omega arith in
    ap (λ (n : ℕ). take n xs) next ∙ take-suc xs k d within

pub take-none : {A : Type 0} (xs : List A) → take 0 xs ≡ []
take-none [] = refl
take-none (x ∷ xs) = refl

pub take-past : {A : Type 0} (xs : List A) (k : ℕ) → length xs ≤ k → take k xs ≡ xs
take-past [] k past = take-nil k
  where
    take-nil : {A : Type 0} (k : ℕ) → take {A = A} k [] ≡ []
    take-nil zero = refl
    take-nil (suc k) = refl
take-past (x ∷ xs) zero past = absurd (omega (arith, past))
take-past {A} (x ∷ xs) (suc k) past = ap (λ (l : List A). x ∷ l) (take-past xs k (omega (arith, past)))

module _ (before calls : List OffsetCall) (k : ℕ) (now : Calls) (d : OffsetCall) (so_far : IsMade before calls k now) (within : k < length calls) where
  rest : now.reserved ≡ get_or calls k d ∷ drop (k + 1) calls
  rest = so_far.reserved ∙ drop-next calls k d within

  left : drop 1 now.reserved ≡ drop (k + 1) calls
  left = ap (λ (l : List OffsetCall). drop 1 l) rest

  pub made-ready : IsFirst (get_or calls k d) now
  made-ready = rest ∙ ap (λ (l : List OffsetCall). get_or calls k d ∷ l) (sym left)

  pub made-next : IsMade before calls (k + 1) (with_call (get_or calls k d) now)
  made-next = record {
    calls_are = ap (λ (l : List OffsetCall). l ++ get_or calls k d ∷ []) so_far.calls_are ∙ append_assoc before (take k calls) (get_or calls k d ∷ []) ∙
        ap (λ (l : List OffsetCall). before ++ l) (sym (take-next calls k d within));
    reserved = left;
  }

-- the puts of one record more
pub puts-more : (tag : Tag) (before : List OffsetCall) (xs : List Applied) (k : ℕ) (d : Applied) → k < length xs →
    (before ++ filter_map (put_in tag) (take k xs)) ++ filter_map (put_in tag) (get_or xs k d ∷ []) ≡ before ++ filter_map (put_in tag) (take (k + 1) xs)
puts-more tag before xs k d within =
    append_assoc before (filter_map (put_in tag) (take k xs)) (filter_map (put_in tag) (get_or xs k d ∷ [])) ∙
    ap (λ (l : List OffsetCall). before ++ l) (sym (filter_map-append (put_in tag) (take k xs) (get_or xs k d ∷ [])) ∙
    ap (λ (l : List Applied). filter_map (put_in tag) l) (sym (take-next xs k d within)))

-- ---- the next offset

raised-push : (n : ℕ) (xs : List Applied) (r : Applied) → raised n (xs ++ r ∷ []) ≡ max (raised n xs) (r.offset + 1)
raised-push n [] r = refl
raised-push n (x ∷ xs) r = raised-push (max n (x.offset + 1)) xs r

pub raised-more : (n : ℕ) (xs : List Applied) (k : ℕ) (d : Applied) → k < length xs →
    raised n (take (k + 1) xs) ≡ max (raised n (take k xs)) ((get_or xs k d).offset + 1)
raised-more n xs k d within = ap (λ (l : List Applied). raised n l) (take-next xs k d within) ∙ raised-push n (take k xs) (get_or xs k d)

raised-append : (n : ℕ) (xs ys : List Applied) → raised n (xs ++ ys) ≡ raised (raised n xs) ys
raised-append n [] ys = refl
raised-append n (x ∷ xs) ys = raised-append (max n (x.offset + 1)) xs ys

records-push : (frames : List OffsetEntry) (e : OffsetEntry) → flat_map offset_records (frames ++ e ∷ []) ≡ flat_map offset_records frames ++ offset_records e
records-push frames e = flat_map-append offset_records frames (e ∷ []) ∙ ap (λ (l : List Applied). flat_map offset_records frames ++ l) (append-nil (offset_records e))

next-push : (frames : List OffsetEntry) (e : OffsetEntry) → next_after (flat_map offset_records (frames ++ e ∷ [])) ≡ raised (next_after (flat_map offset_records frames)) (offset_records e)
next-push frames e = ap (λ (l : List Applied). next_after l) (records-push frames e) ∙ raised-append 0 (flat_map offset_records frames) (offset_records e)

-- one frame more of those that a log is opened with
pub next-more : (frames : List OffsetEntry) (k : ℕ) (now : Option ℕ) → IsNext (next_after (flat_map offset_records (take k frames))) now → (e : OffsetEntry) → k < length frames →
    e ≡ get_or frames k e → (after : Option ℕ) → ((n : ℕ) → IsNext n now → IsNext (raised n (offset_records e)) after) →
    IsNext (next_after (flat_map offset_records (take (k + 1) frames))) after
next-more frames k now so_far e within is after raises =
    subst (λ (l : List OffsetEntry). IsNext (next_after (flat_map offset_records l)) after)
    (sym (take-next frames k e within ∙ ap (λ (f : OffsetEntry). take k frames ++ f ∷ []) (sym is)))
    (subst (λ (n : ℕ). IsNext n after) (sym (next-push (take k frames) e)) (raises (next_after (flat_map offset_records (take k frames))) so_far))

pub next-all : (frames : List OffsetEntry) (k : ℕ) (now : Option ℕ) → IsNext (next_after (flat_map offset_records (take k frames))) now → length frames ≤ k →
    IsNext (next_after (flat_map offset_records frames)) now
next-all frames k now so_far all = subst (λ (l : List OffsetEntry). IsNext (next_after (flat_map offset_records l)) now) (take-past frames k all) so_far

-- ---- what is told

each-push : {A : Type 0} (P : List A → A → Type 0) (before xs : List A) (x : A) → EachFrom P before xs → P (before ++ xs) x → EachFrom P before (xs ++ x ∷ [])
each-push {A} P before [] x each here = (subst (λ (l : List A). P l x) (append-nil before) here, tt)
each-push {A} P before (y ∷ ys) x each here =
    (each.0, each-push P (before ++ y ∷ []) ys x each.1 (subst (λ (l : List A). P l x) (sym (append_assoc before (y ∷ []) ys)) here))

told-push : (frames : List OffsetEntry) (e : OffsetEntry) → flat_map told_in (frames ++ e ∷ []) ≡ flat_map told_in frames ++ told_in e
told-push frames e = flat_map-append told_in frames (e ∷ []) ∙ ap (λ (l : List OffsetCall). flat_map told_in frames ++ l) (append-nil (told_in e))

pub none-told : AreTold [] []
none-told = record { entries = []; first = []; more = []; are = refl; unmarked = tt; calls_are = refl }

-- one frame more
pub more-told : (frames : List OffsetEntry) (calls : List OffsetCall) (e : OffsetEntry) → AreTold frames calls →
    ((tag : Tag) → offset_tag e ≡ Some tag → is_marked tag frames ≡ false) → AreTold (frames ++ e ∷ []) (calls ++ told_in e)
more-told frames calls e t unmarked = record {
  entries = t.entries;
  first = t.first;
  more = t.more ++ e ∷ [];
  are = ap (λ (l : List OffsetEntry). l ++ e ∷ []) t.are ∙ append_assoc t.first t.more (e ∷ []);
  unmarked = each-push (λ earlier e. (tag : Tag) → offset_tag e ≡ Some tag → is_marked tag earlier ≡ false) t.first t.more e t.unmarked
      (subst (λ (l : List OffsetEntry). (tag : Tag) → offset_tag e ≡ Some tag → is_marked tag l ≡ false) t.are unmarked);
  calls_are =
      filter-append is_of_log calls (told_in e) ∙
      ap (λ (l : List OffsetCall). l ++ filter is_of_log (told_in e)) t.calls_are ∙
      sym (filter-append is_of_log (replayed t.entries t.first ++ flat_map told_in t.more) (told_in e)) ∙
      ap (λ (l : List OffsetCall). filter is_of_log l)
      (append_assoc (replayed t.entries t.first) (flat_map told_in t.more) (told_in e) ∙
      ap (λ (l : List OffsetCall). replayed t.entries t.first ++ l) (sym (told-push t.more e)));
}

pub log-more : (frames : List OffsetEntry) (calls : List OffsetCall) (e : OffsetEntry) (next after : Option ℕ) → IsOffsetLog frames next calls →
    ((tag : Tag) → offset_tag e ≡ Some tag → is_marked tag frames ≡ false) →
    ((n : ℕ) → IsNext n next → IsNext (raised n (offset_records e)) after) → IsOffsetLog (frames ++ e ∷ []) after (calls ++ told_in e)
log-more frames calls e next after log unmarked raises = record {
  next_is = subst (λ (n : ℕ). IsNext n after) (sym (next-push frames e)) (raises (next_after (flat_map offset_records frames)) log.next_is);
  told = more-told frames calls e log.told unmarked;
}

-- a log that is opened
pub opened-log : (frames past : List OffsetEntry) (entries : List Entry) (calls : List OffsetCall) (next : Option ℕ) → past ≡ frames →
    calls ≡ replayed entries frames → IsNext (next_after (flat_map offset_records frames)) next → IsOffsetLog past next calls
opened-log frames past entries calls next same is behind = subst (λ (l : List OffsetEntry). IsOffsetLog l next calls) (sym same) (record {
  next_is = behind;
  told = record {
    entries = entries;
    first = frames;
    more = [];
    are = sym (append-nil frames);
    unmarked = tt;
    calls_are = ap (λ (l : List OffsetCall). filter is_of_log l) (is ∙ sym (append-nil (replayed entries frames)));
  };
})

-- ---- the first transaction to mark, by the calls

marker-said : (tag : Tag) (calls : List OffsetCall) → marker_of tag (filter is_of_log calls) ≡ marker_of tag calls
marker-said tag [] = refl
marker-said tag (call.Stand other ∷ calls) = marker-said tag calls
marker-said tag (call.Put other part to ∷ calls) = marker-said tag calls
marker-said tag (call.Commit other ∷ calls) = ap (λ (o : Option Bool). option_or (mark_in tag (call.Commit other)) o) (marker-said tag calls)
marker-said tag (call.Abort other ∷ calls) = ap (λ (o : Option Bool). option_or (mark_in tag (call.Abort other)) o) (marker-said tag calls)
marker-said tag (call.Set part to ∷ calls) = marker-said tag calls

waits-said : (tag : Tag) (calls : List OffsetCall) → waiting (filter is_of_log calls) ≡ waiting calls →
    cons_option (if_unmarked (filter is_of_log calls) tag) (waiting (filter is_of_log calls)) ≡ cons_option (if_unmarked calls tag) (waiting calls)
waits-said tag calls rest =
    ap (λ (o : Option Bool). cons_option (cond (is_none o) (Some tag) None) (waiting (filter is_of_log calls))) (marker-said tag calls) ∙
    ap (λ (l : List Tag). cons_option (if_unmarked calls tag) l) rest

waiting-said : (calls : List OffsetCall) → waiting (filter is_of_log calls) ≡ waiting calls
waiting-said [] = refl
waiting-said (call.Stand tag ∷ calls) = waits-said tag calls (waiting-said calls)
waiting-said (call.Put tag part to ∷ calls) = waits-said tag calls (waiting-said calls)
waiting-said (call.Commit tag ∷ calls) = waiting-said calls
waiting-said (call.Abort tag ∷ calls) = waiting-said calls
waiting-said (call.Set part to ∷ calls) = waiting-said calls

first-said : (verdict : Tag → Verdict) (calls : List OffsetCall) → first_of_calls verdict (filter is_of_log calls) ≡ first_of_calls verdict calls
first-said verdict calls = ap (λ (l : List Tag). find (λ tag. has_ended (verdict tag)) l) (waiting-said calls)

pub first-told : (verdict : Tag → Verdict) (frames : List OffsetEntry) (calls : List OffsetCall) → AreTold frames calls →
    first_of_calls verdict calls ≡ first_unmarked verdict frames
first-told verdict frames calls t =
    sym (first-said verdict calls) ∙
    ap (λ (l : List OffsetCall). first_of_calls verdict l) t.calls_are ∙
    first-said verdict (replayed t.entries t.first ++ flat_map told_in t.more) ∙
    goes_by_place t.entries t.first verdict t.more t.unmarked ∙
    ap (λ (l : List OffsetEntry). first_unmarked verdict l) (sym t.are)
