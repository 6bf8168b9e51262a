-- The table of what the log has of each transaction, behind one entry more.
use Rattle.std.proofs.Common.{◌≡◌, ℕ, ◌+◌, take, Bool, true, false, cond, ◌&&◌, ◌||◌, List, [], ◌∷◌, ◌++◌, Option, Some, refl, sym, ap, ◌∙◌}
use Rattle.std.specs.List.{list_any, filter_map}
use Rattle.std.specs.BTreeMap.{BTreeMap, get, is_at}
use Rattle.std.specs.BTreeSet.{BTreeSet, contains}
use Rattle.std.proofs.lemmas.List.Elements.{filter_map-append}
use Rattle.std.proofs.lemmas.List.Folds.{list_any-append}
use Rattle.cw_types.specs.declared.ids.Tag.{Tag}
use Rattle.cw_types.specs.declared.ids.PartKey.{PartKey}
use Rattle.cw_types.specs.Same.{tag_order, part_order, same_tag, same_part}
use Rattle.cw_types.proofs.SameLemmas.{tag_at, part_at, same_tag-flip, same_tag-Decides, same_part-flip}
use Rattle.cw_bytes.specs.declared.applied.Applied.{Applied}
use Rattle.cw_bytes.specs.declared.mark.Mark.{Mark}
use Rattle.cw_offset.specs.declared.body.OffsetEntry.{OffsetEntry}
use Rattle.cw_offset.specs.declared.body.OffsetEntry.TheVariants as entry
use Rattle.cw_offset.specs.Log.{is_marked, offset_mark}
use Rattle.cw_offset.specs.Compaction.{stores, is_record_of}
use Rattle.cw_compact.specs.declared.stored.StoredTag.{StoredTag}
use Rattle.cw_compact.specs.Stored.{marked_in, stores_in, marked_at, stores_at, AreStored, Takes, Puts}

pub or_none : (a : Bool) → (a || false) ≡ a
or_none true = refl
or_none false = refl

or_some : (a : Bool) → (a || true) ≡ true
or_some true = refl
or_some false = refl

-- what is true of the one and of the others
picked : {A : Type 0} (b : Bool) (x y z : A) → (b ≡ true → x ≡ z) → (b ≡ false → y ≡ z) → cond b x y ≡ z
picked true x y z one other = one refl
picked false x y z one other = other refl

through : {A : Type 0} (f : Option StoredTag → A) (b : Bool) (row : StoredTag) (o : Option StoredTag) → f (cond b (Some row) o) ≡ cond b (f (Some row)) (f o)
through f true row o = refl
through f false row o = refl

marked-push : (tag : Tag) (log : List OffsetEntry) (e : OffsetEntry) → is_marked tag (log ++ e ∷ []) ≡ (is_marked tag log || is_marked tag (e ∷ []))
marked-push tag log e = ap (list_any (same_tag tag)) (filter_map-append offset_mark log (e ∷ [])) ∙ list_any-append (same_tag tag) (filter_map offset_mark log) (filter_map offset_mark (e ∷ []))

stores-push : (tag : Tag) (part : PartKey) (log : List OffsetEntry) (e : OffsetEntry) → list_any (stores tag part) (log ++ e ∷ []) ≡ (list_any (stores tag part) log || stores tag part e)
stores-push tag part log e = list_any-append (stores tag part) log (e ∷ []) ∙ ap (λ (b : Bool). list_any (stores tag part) log || b) (or_none (stores tag part e))

-- a look-up of a table in which one row was taken out, changed and put in
module _ {A : Type 0} (f : Option StoredTag → A) (tag : Tag) (row taken : StoredTag) (old mid new : BTreeMap Tag StoredTag) (takes : Takes tag taken old mid) (puts : Puts tag row mid new) where
  changed_row : (q : Tag) (z : A) → (same_tag tag q ≡ true → f (Some row) ≡ z) → (same_tag tag q ≡ false → f (get tag_order old q) ≡ z) → f (get tag_order new q) ≡ z
  changed_row q z one other =
      ap f (puts q) ∙ through f (is_at (tag_order tag) q) row (get tag_order mid q)
      ∙ picked (is_at (tag_order tag) q) (f (Some row)) (f (get tag_order mid q)) z
      (λ e. one (sym (tag_at tag q) ∙ e)) (λ e. ap f (takes.others q e) ∙ other (sym (tag_at tag q) ∙ e))

none_marked : (tag q : Tag) (records : List Applied) → is_marked q (entry.Records tag records ∷ []) ≡ false
none_marked tag q records = refl

module _ (log : List OffsetEntry) (old mid new : BTreeMap Tag StoredTag) (before : AreStored old log) where
  pub records_noted : (tag : Tag) (records : List Applied) (taken row : StoredTag) → Takes tag taken old mid → Puts tag row mid new
      → row.marked ≡ taken.marked
      → ((q : PartKey) → contains part_order row.parts q ≡ (contains part_order taken.parts q || list_any (is_record_of q) records))
      → AreStored new (log ++ entry.Records tag records ∷ [])
  records_noted tag records taken row takes puts marked parts = record {
    marked = λ q. changed_row marked_in tag row taken old mid new takes puts q (is_marked q (log ++ entry.Records tag records ∷ []))
        (λ one. marked ∙ takes.marked ∙ ap (marked_at old) ((same_tag-Decides tag q).0 one) ∙ before.marked q ∙ same_marks q)
        (λ other. before.marked q ∙ same_marks q);
    stored = λ q part. changed_row (stores_in part) tag row taken old mid new takes puts q (list_any (stores q part) (log ++ entry.Records tag records ∷ []))
        (λ one. parts part
        ∙ ap (λ (b : Bool). b || list_any (is_record_of part) records) (takes.stored part ∙ ap (λ (t : Tag). stores_at old t part) ((same_tag-Decides tag q).0 one) ∙ before.stored q part)
        ∙ ap (λ (b : Bool). list_any (stores q part) log || (b && list_any (is_record_of part) records)) (sym (same_tag-flip q tag ∙ one))
        ∙ sym (stores-push q part log (entry.Records tag records)))
        (λ other. before.stored q part ∙ sym (or_none (list_any (stores q part) log))
        ∙ ap (λ (b : Bool). list_any (stores q part) log || (b && list_any (is_record_of part) records)) (sym (same_tag-flip q tag ∙ other))
        ∙ sym (stores-push q part log (entry.Records tag records)));
  }
    where
      same_marks : (q : Tag) → is_marked q log ≡ is_marked q (log ++ entry.Records tag records ∷ [])
      same_marks q = sym (marked-push q log (entry.Records tag records) ∙ or_none (is_marked q log))

  pub mark_noted : (mark : Mark) (taken row : StoredTag) → Takes mark.tag taken old mid → Puts mark.tag row mid new
      → row.marked ≡ true → row.parts ≡ taken.parts → AreStored new (log ++ entry.Mark mark ∷ [])
  mark_noted mark taken row takes puts marked parts = record {
    marked = λ q. changed_row marked_in mark.tag row taken old mid new takes puts q (is_marked q (log ++ entry.Mark mark ∷ []))
        (λ one. marked ∙ sym (marks q ∙ ap (λ (b : Bool). is_marked q log || b) (same_tag-flip q mark.tag ∙ one) ∙ or_some (is_marked q log)))
        (λ other. before.marked q ∙ sym (marks q ∙ ap (λ (b : Bool). is_marked q log || b) (same_tag-flip q mark.tag ∙ other) ∙ or_none (is_marked q log)));
    stored = λ q part. changed_row (stores_in part) mark.tag row taken old mid new takes puts q (list_any (stores q part) (log ++ entry.Mark mark ∷ []))
        (λ one. ap (λ (s : BTreeSet PartKey). contains part_order s part) parts ∙ takes.stored part ∙ ap (λ (t : Tag). stores_at old t part) ((same_tag-Decides mark.tag q).0 one)
        ∙ before.stored q part ∙ same_stores q part)
        (λ other. before.stored q part ∙ same_stores q part);
  }
    where
      marks : (q : Tag) → is_marked q (log ++ entry.Mark mark ∷ []) ≡ (is_marked q log || same_tag q mark.tag)
      marks q = marked-push q log (entry.Mark mark) ∙ ap (λ (b : Bool). is_marked q log || b) (or_none (same_tag q mark.tag))

      same_stores : (q : Tag) (part : PartKey) → list_any (stores q part) log ≡ list_any (stores q part) (log ++ entry.Mark mark ∷ [])
      same_stores q part = sym (stores-push q part log (entry.Mark mark) ∙ or_none (list_any (stores q part) log))

-- ---- the parts of records

-- one part more, where a key names one
pub part_put : (part q : PartKey) (old new : BTreeSet PartKey) → contains part_order new q ≡ cond (is_at (part_order part) q) true (contains part_order old q)
    → contains part_order new q ≡ (contains part_order old q || same_part q part)
part_put part q old new put =
    put ∙ ap (λ (b : Bool). cond b true (contains part_order old q)) (part_at part q ∙ same_part-flip part q) ∙ turned (same_part q part) (contains part_order old q)
  where
    turned : (a b : Bool) → cond a true b ≡ (b || a)
    turned true true = refl
    turned true false = refl
    turned false true = refl
    turned false false = refl

-- one record more
pub parts_more : (q : PartKey) (start now next : Bool) (records : List Applied) (i : ℕ) (r : Applied) → take (i + 1) records ≡ take i records ++ r ∷ []
    → now ≡ (start || list_any (is_record_of q) (take i records)) → next ≡ (now || is_record_of q r) → next ≡ (start || list_any (is_record_of q) (take (i + 1) records))
parts_more q start now next records i r more before put =
    put ∙ ap (λ (b : Bool). b || is_record_of q r) before
    ∙ grouped start (list_any (is_record_of q) (take i records)) (is_record_of q r)
    ∙ ap (λ (b : Bool). start || b) (sym (list_any-append (is_record_of q) (take i records) (r ∷ [])))
    ∙ ap (λ (l : List Applied). start || list_any (is_record_of q) l) (sym more)
  where
    grouped : (a b c : Bool) → ((a || b) || c) ≡ (a || (b || (c || false)))
    grouped true b c = refl
    grouped false true c = refl
    grouped false false true = refl
    grouped false false false = refl
