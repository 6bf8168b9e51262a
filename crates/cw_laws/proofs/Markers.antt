-- A marker tells how its transaction ended, so that what is read by markers is what is committed.
use Rattle.std.proofs.Common.{◌≡◌, ℕ, ◌+◌, ◌++◌, ◌∷◌, [], ◌&&◌, Bool, true, false, not, cond, nat_le, take, List, Option, Some, None, is_none, option_map, Contains, refl, sym, subst, ap, ◌∙◌}
use Rattle.std.specs.Bool.{⊤}
use Rattle.std.specs.List.{find, take_while, enumerate_from, AllByRecursion}
use Rattle.std.specs.Option.{option_or}
use Rattle.std.proofs.lemmas.List.Elements.{All-from_recursion, All-contains}
use Rattle.std.proofs.lemmas.List.Sums.{take_while-cons}
use Rattle.cw_types.specs.declared.ids.Tag.{Tag}
use Rattle.cw_types.specs.Same.{same_tag}
use Rattle.cw_types.proofs.SameLemmas.{same_tag-Decides}
use Rattle.cw_bytes.specs.declared.mark.Mark.{Mark as Marker}
use Rattle.cw_bytes.specs.Frames.{EachFrom}
use Rattle.cw_txn.specs.declared.entry.Entry.{Entry}
use Rattle.cw_txn.specs.Legal.{is_committed}
use Rattle.cw_offset.specs.declared.body.OffsetEntry.{OffsetEntry}
use Rattle.cw_offset.specs.declared.body.OffsetEntry.TheVariants as offset
use Rattle.cw_offset.specs.Acceptance.{IsAllowedStored}
use Rattle.cw_data.specs.declared.entry.DataEntry.{DataEntry}
use Rattle.cw_data.specs.declared.entry.DataEntry.TheVariants.{Batch, Mark}
use Rattle.cw_data.specs.Log.{Record, records, marker_of, is_commit, stable, taken}
use Rattle.cw_model.specs.State.{Cluster, Setting}
use Rattle.cw_model.specs.Allowed.{IsAllowedData}
use Rattle.cw_model.specs.Facts.{AreFacts}
use Rattle.cw_laws.specs.Markers.{first_committed}

-- ---- the offset log

-- a marker says whether its transaction is committed
abbrev IsTrueMarker : List Entry → OffsetEntry → Type 0
IsTrueMarker entries (offset.Records tag records) = ⊤
IsTrueMarker entries (offset.Mark mark) = mark.committed ≡ is_committed mark.tag entries

markers-true : (entries : List Entry) (before log : List OffsetEntry) → EachFrom (IsAllowedStored entries) before log → AllByRecursion (IsTrueMarker entries) log
markers-true entries before [] each = tt
markers-true entries before (offset.Records tag records ∷ log) each = (tt, markers-true entries (before ++ offset.Records tag records ∷ []) log each.1)
markers-true entries before (offset.Mark mark ∷ log) each = (each.0.tells, markers-true entries (before ++ offset.Mark mark ∷ []) log each.1)

pub offset-markers : (setting : Setting) (s : Cluster) (mark : Marker) → AreFacts setting s → Contains s.offsets.frames (offset.Mark mark) → mark.committed ≡ is_committed mark.tag s.entries
offset-markers setting s mark f there =
    All-contains (IsTrueMarker s.entries) s.offsets.frames (offset.Mark mark)
    (All-from_recursion (IsTrueMarker s.entries) s.offsets.frames (markers-true s.entries [] s.offsets.frames f.logs.offsets)) there

-- ---- the data log

told : (entries : List Entry) (tag other : Tag) (said committed : Bool) (b : Bool) (later : Option Bool) → same_tag tag other ≡ b → said ≡ is_committed other entries →
    (later ≡ Some committed → committed ≡ is_committed tag entries) → option_or (cond b (Some said) None) later ≡ Some committed → committed ≡ is_committed tag entries
told entries tag other said committed true later same tells behind is =
    let own : said ≡ committed = cc in
    sym own ∙ tells ∙ ap (λ (t : Tag). is_committed t entries) (sym ((same_tag-Decides tag other).0 same))
told entries tag other said committed false later other_one tells behind is = behind is

data-true : (entries : List Entry) (tag : Tag) (committed : Bool) (before log : List DataEntry) → EachFrom (IsAllowedData entries) before log → marker_of tag log ≡ Some committed →
    committed ≡ is_committed tag entries
data-true entries tag committed before [] each is = absurd (cc)
data-true entries tag committed before (Batch batch ∷ log) each is = data-true entries tag committed (before ++ Batch batch ∷ []) log each.1 is
data-true entries tag committed before (Mark other said ∷ log) each is =
    told entries tag other said committed (same_tag tag other) (marker_of tag log) refl each.0.tells (data-true entries tag committed (before ++ Mark other said ∷ []) log each.1) is

pub data-markers : (setting : Setting) (s : Cluster) (tag : Tag) (committed : Bool) → AreFacts setting s → marker_of tag s.batches ≡ Some committed → committed ≡ is_committed tag s.entries
data-markers setting s tag committed f is = data-true s.entries tag committed [] s.batches f.logs.batches is

-- ---- what is taken

some_marker : (entries : List Entry) (tag : Tag) (marker : Option Bool) → ((committed : Bool) → marker ≡ Some committed → committed ≡ is_committed tag entries) → is_none marker ≡ false →
    is_commit marker ≡ is_committed tag entries
some_marker entries tag None tells some = absurd (cc)
some_marker entries tag (Some committed) tells some = tells committed refl

-- of a record whose transaction is marked, the marker says whether it is committed
abbrev IsSaid : Cluster → Record → Type 0
IsSaid s r = is_commit (marker_of r.tag s.batches) ≡ is_committed r.tag s.entries

front-said : (setting : Setting) (s : Cluster) → AreFacts setting s → (rs : List Record) → AllByRecursion (IsSaid s) (take_while (λ r. not (is_none (marker_of r.tag s.batches))) rs)
front-said setting s f [] = tt
front-said setting s f (r ∷ rs) =
    subst (AllByRecursion (IsSaid s)) (sym (take_while-cons (λ r. not (is_none (marker_of r.tag s.batches))) r rs)) (by (is_none (marker_of r.tag s.batches)) refl (front-said setting s f rs))
  where
    by : (b : Bool) → is_none (marker_of r.tag s.batches) ≡ b → AllByRecursion (IsSaid s) (take_while (λ r. not (is_none (marker_of r.tag s.batches))) rs) →
        AllByRecursion (IsSaid s) (cond (not b) (r ∷ take_while (λ r. not (is_none (marker_of r.tag s.batches))) rs) [])
    by true none rest = tt
    by false some rest = (some_marker s.entries r.tag (marker_of r.tag s.batches) (λ committed is. data-markers setting s r.tag committed f is) some, rest)

find-said : (s : Cluster) (from n : ℕ) (rs : List Record) → AllByRecursion (IsSaid s) rs →
    find (λ p. nat_le from p.0 && is_commit (marker_of p.1.tag s.batches)) (enumerate_from n rs) ≡ find (λ p. nat_le from p.0 && is_committed p.1.tag s.entries) (enumerate_from n rs)
find-said s from n [] said = refl
find-said s from n (r ∷ rs) said =
    ap (λ (b : Bool). cond (nat_le from n && b) (Some (n, r)) (find (λ p. nat_le from p.0 && is_commit (marker_of p.1.tag s.batches)) (enumerate_from (n + 1) rs))) said.0
    ∙ ap (λ (o : Option (ℕ × Record)). cond (nat_le from n && is_committed r.tag s.entries) (Some (n, r)) o) (find-said s from (n + 1) rs said.1)

pub taken-committed : (setting : Setting) (s : Cluster) (topic : List ℕ) (from : ℕ) → AreFacts setting s → taken topic from s.batches ≡ first_committed topic from s
taken-committed setting s topic from f =
    ap (λ (o : Option (ℕ × Record)). option_map {U = ℕ × List ℕ} (λ p. (p.0, p.1.value)) o)
    (find-said s from 0 (take (stable topic s.batches) (records topic s.batches)) (front-said setting s f (records topic s.batches)))
