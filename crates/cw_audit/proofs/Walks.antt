-- A table takes the rows of a list's things one by one: of what each member of the list holds.
use Rattle.std.proofs.Common.{◌≡◌, ℕ, ◌+◌, ◌<◌, ◌≤◌, List, [], ◌∷◌, ◌++◌, length, take, get_or, map, sym, ap, ◌∙◌}
use Rattle.std.proofs.lemmas.List.{append-nil, map-append, take_all, take_more}
use Rattle.std.proofs.lemmas.List.Concat.{flat_map-append}
use Rattle.std.proofs.lemmas.List.Elements.{filter-append, filter_map-append}
use Rattle.std.specs.List.{filter, filter_map, flat_map}
use Rattle.cw_types.specs.declared.ids.PartKey.{PartKey}
use Rattle.cw_types.specs.declared.ids.Span.{Span}
use Rattle.cw_types.specs.declared.ids.Tid.{Tid}
use Rattle.cw_bytes.specs.Frames.{joined}
use Rattle.cw_config.specs.declared.records.ConfigRecord.{ConfigRecord}
use Rattle.cw_txn.specs.declared.entry.Entry.{Entry}
use Rattle.cw_txn.specs.declared.entry.SetOffset.{SetOffset}
use Rattle.cw_audit.specs.Listed.{bumped_in, committed_in, is_owned, parts_of}
use Rattle.cw_audit.specs.Rising.{rising_by}
use Rattle.cw_audit.specs.Rows.{Rows, lines_in, with_rows}
use Rattle.cw_audit.proofs.Risen.{lines-risen, rows-append}

-- ---- what the members of a list hold

abbrev pub ids_of : List Entry → List Tid
ids_of entries = filter_map bumped_in entries

abbrev pub owned_in : List Entry → List PartKey
owned_in entries = filter is_owned (flat_map parts_of entries)

abbrev pub owned_of_spans : List Span → List PartKey
owned_of_spans spans = filter is_owned (map (λ span. span.part) spans)

abbrev pub owned_of_offsets : List SetOffset → List PartKey
owned_of_offsets list = filter is_owned (map (λ set. set.part) list)

abbrev pub committed_of : List ConfigRecord → List (List ℕ)
committed_of records = filter_map committed_in records

-- what frames of entries hold, by what entries hold
abbrev pub in_frames : {A : Type 0} → (List Entry → List A) → List (List Entry) → List A
in_frames found frames = found (joined frames)

-- what two lists hold, one behind the other, is what each of them holds
abbrev pub Joins : {X A : Type 0} → (List X → List A) → Type 0
Joins {X} found = (xs ys : List X) → found (xs ++ ys) ≡ found xs ++ found ys

pub ids-join : Joins ids_of
ids-join xs ys = filter_map-append bumped_in xs ys

pub owned-join : Joins owned_in
owned-join xs ys = ap (filter is_owned) (flat_map-append parts_of xs ys) ∙ filter-append is_owned (flat_map parts_of xs) (flat_map parts_of ys)

pub spans-join : Joins owned_of_spans
spans-join xs ys = ap (filter is_owned) (map-append (λ (span : Span). span.part) xs ys)
    ∙ filter-append is_owned (map (λ (span : Span). span.part) xs) (map (λ (span : Span). span.part) ys)

pub offsets-join : Joins owned_of_offsets
offsets-join xs ys = ap (filter is_owned) (map-append (λ (set : SetOffset). set.part) xs ys)
    ∙ filter-append is_owned (map (λ (set : SetOffset). set.part) xs) (map (λ (set : SetOffset). set.part) ys)

pub committed-join : Joins committed_of
committed-join xs ys = filter_map-append committed_in xs ys

pub frames-join : {A : Type 0} (found : List Entry → List A) → Joins found → Joins (in_frames found)
frames-join found joins xs ys = ap found (flat_map-append (λ (frame : List Entry). frame) xs ys) ∙ joins (joined xs) (joined ys)

-- ---- the walk

module _ {X A : Type 0} (text line : A → List ℕ) (found : List X → List A) (joins : Joins found) (xs : List X) (i : ℕ) (start rows : Rows)
    (so_far : rows ≡ with_rows text line (found (take i xs)) start) where
  -- one member more
  pub one-more : (x : X) → i < length xs → x ≡ get_or xs i x → (now : Rows) → now ≡ with_rows text line (found (x ∷ [])) rows →
      now ≡ with_rows text line (found (take (i + 1) xs)) start
  one-more x within is now put =
      put ∙ ap (with_rows text line (found (x ∷ []))) so_far
      ∙ sym (rows-append text line (found (take i xs)) (found (x ∷ [])) start)
      ∙ ap (λ (l : List A). with_rows text line l start) (sym (joins (take i xs) (x ∷ [])))
      ∙ ap (λ (y : X). with_rows text line (found (take i xs ++ y ∷ [])) start) is
      ∙ ap (λ (l : List X). with_rows text line (found l) start) (sym (take_more xs i x within))

  -- all members
  pub all-put : length xs ≤ i → rows ≡ with_rows text line (found xs) start
  all-put end = so_far ∙ ap (λ (l : List X). with_rows text line (found l) start) (take_all i xs end)

-- a frame more
module _ {A : Type 0} (text line : A → List ℕ) (found : List Entry → List A) (joins : Joins found) (frames : List (List Entry)) (i : ℕ) (start rows : Rows)
    (so_far : rows ≡ with_rows text line (found (joined (take i frames))) start) where
  pub frame-more : (frame : List Entry) → i < length frames → frame ≡ get_or frames i frame → (now : Rows) → now ≡ with_rows text line (found frame) rows →
      now ≡ with_rows text line (found (joined (take (i + 1) frames))) start
  frame-more frame within is now put =
      one-more text line (in_frames found) (frames-join found joins) frames i start rows so_far frame within is now
      (put ∙ ap (λ (l : List Entry). with_rows text line (found l) rows) (sym (append-nil frame)))

  -- the lines of all frames
  pub lines-of-frames : length frames ≤ i → start ≡ [] → lines_in rows ≡ flat_map line (rising_by text (found (joined frames)))
  lines-of-frames end none =
      ap lines_in (all-put text line (in_frames found) (frames-join found joins) frames i start rows so_far end)
      ∙ ap (λ (l : Rows). lines_in (with_rows text line (found (joined frames)) l)) none
      ∙ lines-risen text line (found (joined frames))
