-- What a list of entries with one more says: of epochs, of what is committed, of a part's history, and of what was allowed before.
use Rattle.std.proofs.Common.{◌≡◌, ◌⊎◌, inl, inr, ℕ, ◌+◌, ◌-◌, ◌<◌, ◌≤◌, ◌++◌, ◌∷◌, [], Bool, true, false, not, ◌||◌, List, Some, cond, length, reverse, drop, refl, sym, subst, ap, ◌∙◌, arith, length-append, unwrap_or}
use Rattle.std.proofs.lemmas.Bool.{or_cases, false_from_ne_true}
use Rattle.std.specs.List.{filter_map, cons_option, after_last, suffix_len, fold, list_any}
use Rattle.std.proofs.lemmas.Bool.{or_cases}
use Rattle.std.proofs.lemmas.List.{drop-append-le, reverse-append}
use Rattle.std.proofs.lemmas.List.Elements.{filter_map-append}
use Rattle.std.proofs.Math.ListN.{drop_of_length-le}
use Rattle.cw_types.specs.declared.ids.Tid.{Tid}
use Rattle.cw_types.specs.declared.ids.Tag.{Tag}
use Rattle.cw_types.specs.declared.ids.Epoch.{Epoch}
use Rattle.cw_types.specs.declared.ids.PartKey.{PartKey}
use Rattle.cw_types.specs.declared.ids.Span.{Span}
use Rattle.cw_types.specs.Same.{same_tag, same_part}
use Rattle.cw_types.proofs.SameLemmas.{same_tag-Decides}
use Rattle.cw_txn.specs.declared.entry.Entry.{Entry}
use Rattle.cw_txn.specs.declared.entry.Entry.TheVariants.{Bump, Commit, Set}
use Rattle.cw_txn.specs.declared.entry.SetOffset.{SetOffset}
use Rattle.cw_txn.specs.declared.history.History.{History}
use Rattle.cw_txn.specs.History.{history, base_of, after_offset, after_entry}
use Rattle.cw_txn.specs.Legal.{epoch_of, is_bump_of, is_committed, is_commit_of, IsLegalBehind}
use Rattle.cw_txn.proofs.Walks.{epoch_of-push, is_committed-push, history-push}
use Rattle.cw_offset.specs.declared.body.OffsetEntry.{OffsetEntry}
use Rattle.cw_offset.specs.declared.body.OffsetEntry.TheVariants.{Records, Mark}
use Rattle.cw_data.specs.declared.entry.DataEntry.{DataEntry}
use Rattle.cw_data.specs.declared.entry.DataEntry.TheVariants as data_entry
use Rattle.cw_offset.specs.Acceptance.{IsKnown, IsAllowedMark, IsAllowedStored}
use Rattle.cw_model.specs.Lookups.{end_or_start}
use Rattle.cw_offset.specs.Compaction.{sets_part}
use Rattle.cw_model.specs.Committed.{tags_of, tag_committing}
use Rattle.cw_model.specs.Allowed.{IsAllowedData}
use Rattle.cw_model.specs.FactsProducers.{commit_tag}
use Rattle.cw_model.specs.Fences.{HoldsFrom, IsNotOlder}
use Rattle.cw_laws.proofs.Lists.{each-push}

-- ---- epochs

pub epoch-push : (tid : Tid) (entries : List Entry) (e : Entry) → epoch_of tid entries ≤ epoch_of tid (entries ++ e ∷ [])
epoch-push tid entries e = omega (arith, epoch_of-push tid entries e)

-- an entry that bumps no epoch
abbrev pub BumpsNone : Entry → Type 0
BumpsNone e = (tid : Tid) → is_bump_of tid e ≡ false

plus-none : (b : Bool) (n : ℕ) → b ≡ false → n + cond b 1 0 ≡ n
plus-none true n is = cc
plus-none false n is = omega arith

pub epoch-stays : (tid : Tid) (entries : List Entry) (e : Entry) → BumpsNone e → epoch_of tid (entries ++ e ∷ []) ≡ epoch_of tid entries
epoch-stays tid entries e none = epoch_of-push tid entries e ∙ plus-none (is_bump_of tid e) (epoch_of tid entries) (none tid)

-- ---- what is committed

pub committed-stays : (tag : Tag) (entries : List Entry) (e : Entry) → is_committed tag entries ≡ true → is_committed tag (entries ++ e ∷ []) ≡ true
committed-stays tag entries e was = is_committed-push tag entries e ∙ ap (λ b. b || is_commit_of tag e) was

committed-not : (tag : Tag) (entries : List Entry) (e : Entry) → is_committed tag entries ≡ false → is_commit_of tag e ≡ false → is_committed tag (entries ++ e ∷ []) ≡ false
committed-not tag entries e was now = is_committed-push tag entries e ∙ ap (λ b. b || is_commit_of tag e) was ∙ now

pub committed-before : (tag : Tag) (entries : List Entry) (e : Entry) → is_committed tag (entries ++ e ∷ []) ≡ true → (is_committed tag entries ≡ true) ⊎ (is_commit_of tag e ≡ true)
committed-before tag entries e is = or_cases (is_committed tag entries) (is_commit_of tag e) (sym (is_committed-push tag entries e) ∙ is)

-- a transaction whose producer has a later epoch isn't what a legal entry commits
not-committing : (tag : Tag) (entries : List Entry) (e : Entry) → IsLegalBehind entries e → tag.epoch.0 < epoch_of tag.tid entries → is_commit_of tag e ≡ false
not-committing tag entries (Bump tid) legal later = refl
not-committing tag entries (Set tid epoch list) legal later = refl
not-committing tag entries (Commit other generation spans) legal later = false_from_ne_true (same_tag tag other) (λ same.
    let one : tag ≡ other = (same_tag-Decides tag other).0 same in
    let last : tag.epoch.0 ≡ epoch_of tag.tid entries = subst (λ (t : Tag). t.epoch.0 ≡ epoch_of t.tid entries) (sym one) legal.0 in
    omega (arith, last, later))

pub commit_tags-push : (entries : List Entry) (e : Entry) → filter_map commit_tag (entries ++ e ∷ []) ≡ filter_map commit_tag entries ++ cons_option (commit_tag e) []
commit_tags-push entries e = filter_map-append commit_tag entries (e ∷ [])

-- ---- the other logs, judged by a longer list

known-push : (entries : List Entry) (e : Entry) (tag : Tag) → IsKnown entries tag → IsKnown (entries ++ e ∷ []) tag
known-push entries e tag known = omega (arith, epoch-push tag.tid entries e, known)

tells-push : (entries : List Entry) (e : Entry) (tag : Tag) (committed : Bool) → IsLegalBehind entries e → committed ≡ is_committed tag entries →
    (committed ≡ false → tag.epoch.0 < epoch_of tag.tid entries) → committed ≡ is_committed tag (entries ++ e ∷ [])
tells-push entries e tag true legal tells ended = sym (committed-stays tag entries e (sym tells))
tells-push entries e tag false legal tells ended = sym (committed-not tag entries e (sym tells) (not-committing tag entries e legal (ended refl)))

mark-push : (entries : List Entry) (e : Entry) (there marked : List Tag) (tag : Tag) (committed : Bool) → IsLegalBehind entries e → IsAllowedMark entries there marked tag committed →
    IsAllowedMark (entries ++ e ∷ []) there marked tag committed
mark-push entries e there marked tag committed legal f = record {
  known = known-push entries e tag f.known;
  stands = f.stands;
  first = f.first;
  tells = tells-push entries e tag committed legal f.tells f.ended;
  ended = λ aborted. omega (arith, epoch-push tag.tid entries e, f.ended aborted);
}

pub offset-push : (entries : List Entry) (e : Entry) → IsLegalBehind entries e → (before : List OffsetEntry) (entry : OffsetEntry) → IsAllowedStored entries before entry → IsAllowedStored (entries ++ e ∷ []) before entry
offset-push entries e legal before (Records tag records) f = record { known = known-push entries e tag f.known; unmarked = f.unmarked; each = f.each }
offset-push entries e legal before (Mark mark) f = mark-push entries e _ _ mark.tag mark.committed legal f

pub data-push : (entries : List Entry) (e : Entry) → IsLegalBehind entries e → (before : List DataEntry) (entry : DataEntry) → IsAllowedData entries before entry → IsAllowedData (entries ++ e ∷ []) before entry
data-push entries e legal before (data_entry.Batch batch) f = record { known = known-push entries e batch.tag f.known; first = f.first; lines = f.lines }
data-push entries e legal before (data_entry.Mark tag committed) f = mark-push entries e _ _ tag committed legal f

-- ---- fences

pub holds-push : (e : Entry) (name : List ℕ) (generation mark : ℕ) (entries : List Entry) → IsNotOlder name generation e → HoldsFrom name generation mark entries →
    HoldsFrom name generation mark (entries ++ e ∷ [])
holds-push e name generation mark entries newer h = record {
  within = omega (arith, h.within, length-append entries (e ∷ []));
  none_older = rw (drop-append-le mark entries (e ∷ []) h.within) (each-push (IsNotOlder name generation) (drop mark entries) e newer h.none_older);
}

-- ---- what stands behind the last entry that sets a part

after_last-more : {X : Type 0} (p : X → Bool) (xs : List X) (x : X) → p x ≡ false → after_last p (xs ++ x ∷ []) ≡ after_last p xs ++ x ∷ []
after_last-more p xs x fails =
    let tail : ℕ = suffix_len (λ y. not (p y)) xs in
    let size : length (xs ++ x ∷ []) ≡ length xs + 1 = length-append xs (x ∷ []) in
    let back : reverse (xs ++ x ∷ []) ≡ x ∷ reverse xs = reverse-append xs (x ∷ []) in
    let longer : suffix_len (λ y. not (p y)) (xs ++ x ∷ []) ≡ 1 + tail = rw back (rw fails refl) in
    let same : length (xs ++ x ∷ []) - suffix_len (λ y. not (p y)) (xs ++ x ∷ []) ≡ length xs - tail = omega (arith, size, longer) in
    let below : length xs - tail ≤ length xs = omega arith in
    ap (λ n. drop n (xs ++ x ∷ [])) same ∙ drop-append-le (length xs - tail) xs (x ∷ []) below

after_last-none : {X : Type 0} (p : X → Bool) (xs : List X) (x : X) → p x ≡ true → after_last p (xs ++ x ∷ []) ≡ []
after_last-none p xs x passes =
    let back : reverse (xs ++ x ∷ []) ≡ x ∷ reverse xs = reverse-append xs (x ∷ []) in
    let none : suffix_len (λ y. not (p y)) (xs ++ x ∷ []) ≡ 0 = rw back (rw passes refl) in
    let all : length (xs ++ x ∷ []) ≤ length (xs ++ x ∷ []) - suffix_len (λ y. not (p y)) (xs ++ x ∷ []) = omega (arith, none) in
    drop_of_length-le (xs ++ x ∷ []) all

pub tags-push : (part : PartKey) (entries : List Entry) (e : Entry) → sets_part part e ≡ false → tags_of part (entries ++ e ∷ []) ≡ tags_of part entries ++ cons_option (tag_committing part e) []
tags-push part entries e none =
    ap (filter_map (tag_committing part)) (after_last-more (sets_part part) entries e none)
    ∙ filter_map-append (tag_committing part) (after_last (sets_part part) entries) (e ∷ [])

pub tags-set : (part : PartKey) (entries : List Entry) (e : Entry) → sets_part part e ≡ true → tags_of part (entries ++ e ∷ []) ≡ []
tags-set part entries e sets = ap (filter_map (tag_committing part)) (after_last-none (sets_part part) entries e sets)

-- ---- a part's history

-- an entry that leaves a part where it is
abbrev pub LeavesPart : PartKey → Entry → Type 0
LeavesPart part e = (h : History) → after_entry part h e ≡ h

pub base-stays : (part : PartKey) (entries : List Entry) (e : Entry) → LeavesPart part e → base_of part (entries ++ e ∷ []) ≡ base_of part entries
base-stays part entries e leaves = ap (λ h. h.base) (history-push part entries e ∙ leaves (history part entries))

pub end-stays : (part : PartKey) (entries : List Entry) (e : Entry) → LeavesPart part e → end_or_start part (entries ++ e ∷ []) ≡ end_or_start part entries
end-stays part entries e leaves = ap (λ h. unwrap_or h.end 0) (history-push part entries e ∙ leaves (history part entries))

-- a commit of one span leaves other parts, and moves the end of its own
pub commit-leaves : (part : PartKey) (tag : Tag) (generation : ℕ) (span : Span) → same_part part span.part ≡ false → LeavesPart part (Commit tag generation (span ∷ []))
commit-leaves part tag generation span other h = ap (λ b. cond b (record { base = h.base; end = Some span.to }) h) other

pub commit-base : (part : PartKey) (entries : List Entry) (tag : Tag) (generation : ℕ) (span : Span) → same_part part span.part ≡ true →
    base_of part (entries ++ Commit tag generation (span ∷ []) ∷ []) ≡ base_of part entries
commit-base part entries tag generation span own =
    ap (λ h. h.base) (history-push part entries (Commit tag generation (span ∷ [])))
    ∙ ap (λ (b : Bool). (cond b (record { base = (history part entries).base; end = Some span.to }) (history part entries)).base) own

pub commit-end : (part : PartKey) (entries : List Entry) (tag : Tag) (generation : ℕ) (span : Span) → same_part part span.part ≡ true →
    end_or_start part (entries ++ Commit tag generation (span ∷ []) ∷ []) ≡ span.to
commit-end part entries tag generation span own =
    ap (λ h. unwrap_or h.end 0) (history-push part entries (Commit tag generation (span ∷ [])))
    ∙ ap (λ (b : Bool). unwrap_or (cond b (record { base = (history part entries).base; end = Some span.to }) (history part entries)).end 0) own

-- a set of parts leaves other parts, and is base and end of its own
pub set-leaves : (part : PartKey) (tid : Tid) (epoch : Epoch) (list : List SetOffset) → list_any (λ set. same_part part set.part) list ≡ false → LeavesPart part (Set tid epoch list)
set-leaves part tid epoch [] other h = refl
set-leaves part tid epoch (set ∷ list) other h = next (same_part part set.part) refl (λ any. set-leaves part tid epoch list any h) other where
  next : (b : Bool) → same_part part set.part ≡ b → (list_any (λ s. same_part part s.part) list ≡ false → fold (after_offset part) h list ≡ h) →
      (b || list_any (λ s. same_part part s.part) list) ≡ false → fold (after_offset part) (after_offset part h set) list ≡ h
  next true is later any = cc
  next false is later any = ap (λ (k : History). fold (after_offset part) k list) (ap (λ b. cond b (record { base = unwrap_or set.to 0; end = set.to }) h) is) ∙ later any

-- a history in which nothing was committed since it was set
abbrev pub IsJustSet : History → Type 0
IsJustSet h = h.base ≡ unwrap_or h.end 0

just-set : (part : PartKey) (list : List SetOffset) (h : History) → (list_any (λ set. same_part part set.part) list ≡ true) ⊎ IsJustSet h → IsJustSet (fold (after_offset part) h list)
just-set part [] h (inl any) = cc
just-set part [] h (inr set) = set
just-set part (set ∷ list) h how = next (same_part part set.part) refl (just-set part list (after_offset part h set)) how where
  here : (b : Bool) → (b ≡ true) ⊎ IsJustSet h → IsJustSet (cond b (record { base = unwrap_or set.to 0; end = set.to }) h)
  here true so = refl
  here false (inl no_part) = cc
  here false (inr just) = just

  next : (b : Bool) → same_part part set.part ≡ b → ((list_any (λ s. same_part part s.part) list ≡ true) ⊎ IsJustSet (after_offset part h set) → IsJustSet (fold (after_offset part) (after_offset part h set) list)) →
      (((b || list_any (λ s. same_part part s.part) list) ≡ true) ⊎ IsJustSet h) → IsJustSet (fold (after_offset part) (after_offset part h set) list)
  next true is later so = later (inr (here (same_part part set.part) (inl is)))
  next false is later (inl any) = later (inl any)
  next false is later (inr just) = later (inr (here (same_part part set.part) (inr just)))

pub set-just : (part : PartKey) (entries : List Entry) (tid : Tid) (epoch : Epoch) (list : List SetOffset) → list_any (λ set. same_part part set.part) list ≡ true →
    base_of part (entries ++ Set tid epoch list ∷ []) ≡ end_or_start part (entries ++ Set tid epoch list ∷ [])
set-just part entries tid epoch list any =
    let moved : history part (entries ++ Set tid epoch list ∷ []) ≡ fold (after_offset part) (history part entries) list = history-push part entries (Set tid epoch list) in
    ap (λ h. h.base) moved ∙ just-set part list (history part entries) (inl any) ∙ sym (ap (λ h. unwrap_or h.end 0) moved)
