-- What a call of the REST API that succeeds sets of a connector's offsets may be set.
use Rattle.std.proofs.Common.{◌≡◌, ℕ, ◌<◌, ◌^◌, ◌==◌, ◌&&◌, ◌∷◌, [], Bool, true, false, cond, List, Option, Some, None, nat_lt, nat_le, length, map, bytes_eq, codes, option_map, option_and_then, if◌then◌else◌, refl, sym, subst, ap, ◌∙◌, arith, Ordering}
use Rattle.std.specs.Option.{option_map_or}
use Rattle.std.specs.List.{AllByRecursion, IsDistinct, cons_option, filter, filter_map, flat_map, fold, list_any}
use Rattle.std.specs.List.Sorted.{IsStrictlySortedBy}
use Rattle.std.specs.BTreeSet.{insert_key}
use Rattle.std.specs.Ordering.{match_ordering, ordering_reverse}
use Rattle.std.specs.Cmp.{IsTotalOrder, on_total}
use Rattle.std.specs.Cmp.Lexicographic.{nat_list_cmp_total}
use Rattle.std.specs.declared.cmp.Ordering.TheVariants.{Less, Equal, Greater}
use Rattle.std.proofs.lemmas.Bool.{and_parts, or_parts, false_from_ne_true, not-true}
use borrow.Author.Tests.{ltb-true}
use Rattle.std.proofs.lemmas.Slice.Eq.{bytes_eq-Decides}
use Rattle.serde_json.specs.Data.{Data}
use Rattle.serde_json.specs.Data as found
use Rattle.serde_json.specs.Find.{get, as_str, as_array}
use Rattle.serde_json.specs.Written.{compact_text}
use Rattle.cw_types.specs.Name.{IsName, name_of, name_fault, unless_fault}
use Rattle.cw_types.specs.Same.{same_part, connector_of}
use Rattle.cw_types.specs.declared.ids.PartKey.{PartKey}
use Rattle.cw_types.specs.declared.ids.PartKey.TheVariants.{File, Seq, Sink}
use Rattle.cw_types.specs.declared.ids.Span.{Span}
use Rattle.cw_types.specs.declared.name.NameFault.{NameFault}
use Rattle.cw_types.proofs.SameLemmas.{same_part-Decides}
use Rattle.cw_bytes.specs.Frames.{joined}
use Rattle.cw_bytes.specs.Spelling.{IsPart}
use Rattle.cw_json.specs.Reading.{reading}
use Rattle.cw_keys.specs.Counts.{below_32, count_at, u64_at}
use Rattle.cw_keys.specs.Offsets.{offset_name}
use Rattle.cw_keys.specs.Parts.{first_some, name_at}
use Rattle.cw_txn.specs.declared.entry.Entry.{Entry}
use Rattle.cw_txn.specs.declared.entry.Entry.TheVariants.{Bump, Commit, Set}
use Rattle.cw_txn.specs.declared.entry.SetOffset.{SetOffset}
use Rattle.cw_txn.specs.Body.{AreEntries, IsEntry, IsSet, IsOffset}
use Rattle.cw_rest.specs.Bodies.{where_it, has_members}
use Rattle.cw_rest.specs.Offsets.{Alteration, is_part_of, partition_of, partition_cmp, parts_in, has_offset, parts_with_offsets, each_of, with_each, feed_in, sequence_in, topic_in, part_in, is_of_type, has_repeat, is_list_of_offsets, offset_in, set_by, sets_by, alteration_of, elements_of, alterations_by, alterations_in}
use Rattle.cw_rest.specs.Operations.{removals}
use Rattle.cw_model.specs.State.{Setting, Cluster}
use Rattle.cw_model.specs.FactsLogs.{LogFacts}
use Rattle.cw_types.proofs.Rising.{rising-fold, rising-none}
use Rattle.cw_laws.proofs.Lists.{each-append}

-- ---- parts that are written

spans-parts : (spans : List Span) → AllByRecursion (λ (span : Span). IsPart span.part × (span.from < 2 ^ 64) × (span.to < 2 ^ 64)) spans → AllByRecursion IsPart (map (λ span. span.part) spans)
spans-parts [] each = tt
spans-parts (span ∷ spans) each = (each.0.0, spans-parts spans each.1)

sets-parts : (sets : List SetOffset) → AllByRecursion IsSet sets → AllByRecursion IsPart (map (λ set. set.part) sets)
sets-parts [] each = tt
sets-parts (set ∷ sets) each = (each.0.0, sets-parts sets each.1)

entry-parts : (entry : Entry) → IsEntry entry → AllByRecursion IsPart (parts_in entry)
entry-parts (Bump tid) is = tt
entry-parts (Commit tag generation spans) is = spans-parts spans is.2.1
entry-parts (Set tid epoch list) is = sets-parts list is.2.1

pub entries-parts : (entries : List Entry) → AllByRecursion IsEntry entries → AllByRecursion IsPart (flat_map parts_in entries)
entries-parts [] each = tt
entries-parts (entry ∷ entries) each = each-append IsPart (parts_in entry) (flat_map parts_in entries) (entry-parts entry each.0) (entries-parts entries each.1)

pub frames-entries : (frames : List (List Entry)) → AllByRecursion AreEntries frames → AllByRecursion IsEntry (joined frames)
frames-entries [] each = tt
frames-entries (frame ∷ frames) each = each-append IsEntry frame (joined frames) each.0.list.1 (frames-entries frames each.1)

parts-written : (setting : Setting) (s : Cluster) → LogFacts setting s → AllByRecursion IsPart (flat_map parts_in s.entries)
parts-written setting s f = entries-parts s.entries (subst (λ l. AllByRecursion IsEntry l) f.all_entries (frames-entries s.txn f.written.txn))

-- ---- a connector's parts that have offsets

each-inserted : {K : Type 0} (P : K → Type 0) (cmp : K → K → Ordering) (k : K) (ks : List K) → P k → AllByRecursion P ks → AllByRecursion P (insert_key cmp ks k)
each-inserted P cmp k [] here each = (here, tt)
each-inserted P cmp k (x ∷ ks) here each = by (cmp k x) (each-inserted P cmp k ks here each.1) where
  by : (o : Ordering) → AllByRecursion P (insert_key cmp ks k) → AllByRecursion P (match_ordering o (k ∷ x ∷ ks) (x ∷ ks) (x ∷ insert_key cmp ks k))
  by Less rest = (here, each)
  by Equal rest = each
  by Greater rest = (each.0, rest)

each-folded : {K : Type 0} (P : K → Type 0) (cmp : K → K → Ordering) (xs ks : List K) → AllByRecursion P xs → AllByRecursion P ks → AllByRecursion P (fold (insert_key cmp) ks xs)
each-folded P cmp [] ks each done = done
each-folded P cmp (x ∷ xs) ks each done = each-folded P cmp xs (insert_key cmp ks x) each.1 (each-inserted P cmp x ks each.0 done)

each-passed : {X : Type 0} (P Q : X → Type 0) (test : X → Bool) (xs : List X) → ((x : X) → P x → test x ≡ true → Q x) → AllByRecursion P xs → AllByRecursion Q (filter test xs)
each-passed P Q test [] so each = tt
each-passed P Q test (x ∷ xs) so each = by (test x) refl (each-passed P Q test xs so each.1) where
  by : (b : Bool) → test x ≡ b → AllByRecursion Q (filter test xs) → AllByRecursion Q (cond b (x ∷ filter test xs) (filter test xs))
  by true passes rest = (so x each.0 passes, rest)
  by false fails rest = rest

-- a part of a connector, which can be written
record IsOwn (name : List ℕ) (part : PartKey) : Type 0 where
  connector : connector_of part ≡ Some name
  written : IsPart part

pub is-own : (name : List ℕ) (part : PartKey) → is_part_of name part ≡ true → connector_of part ≡ Some name
is-own name part is = by (connector_of part) is where
  by : (o : Option (List ℕ)) → option_map_or (λ own. bytes_eq own name) o false ≡ true → o ≡ Some name
  by None is = absurd (cc)
  by (Some own) is = ap (λ (n : List ℕ). Some n) ((bytes_eq-Decides own name).0 is)

partition_total : IsTotalOrder partition_cmp
partition_total = on_total (λ (part : PartKey). compact_text (partition_of part)) nat_list_cmp_total

-- parts that rise are each there once
never-below : (part : PartKey) → partition_cmp part part ≡ Less → ⊥
never-below part less = let turned : partition_cmp part part ≡ ordering_reverse (partition_cmp part part) = partition_total.antisymm part part in
    let other : partition_cmp part part ≡ Greater = turned ∙ ap ordering_reverse less in cc

rising-apart : (part : PartKey) (parts : List PartKey) → AllByRecursion (λ other. partition_cmp part other ≡ Less) parts → AllByRecursion (λ other. same_part part other ≡ false) parts
rising-apart part [] rise = tt
rising-apart part (other ∷ parts) rise = (
  false_from_ne_true (same_part part other) (λ same.
      let equal : part ≡ other = (same_part-Decides part other).0 same in
      never-below part (subst (λ x. partition_cmp part x ≡ Less) (sym equal) rise.0)),
  rising-apart part parts rise.1,
)

pub rising-distinct : (parts : List PartKey) → IsStrictlySortedBy partition_cmp parts → IsDistinct same_part parts
unfolding IsStrictlySortedBy IsDistinct
rising-distinct [] rise = tt
rising-distinct (part ∷ parts) rise = (rising-apart part parts rise.0, rising-distinct parts rise.1)

-- sets that may be made of a connector
pub record MaySet (name : List ℕ) (list : List SetOffset) : Type 0 where
  pub own : AllByRecursion (λ set. connector_of set.part ≡ Some name) list
  pub distinct : IsDistinct same_part (map (λ set. set.part) list)
  pub fit : AllByRecursion IsSet list

removed-own : (name : List ℕ) (parts : List PartKey) → AllByRecursion (IsOwn name) parts → AllByRecursion (λ set. connector_of set.part ≡ Some name) (removals parts)
removed-own name [] each = tt
removed-own name (part ∷ parts) each = (each.0.connector, removed-own name parts each.1)

removed-fit : (name : List ℕ) (parts : List PartKey) → AllByRecursion (IsOwn name) parts → AllByRecursion IsSet (removals parts)
removed-fit name [] each = tt
removed-fit name (part ∷ parts) each = ((each.0.written, tt), removed-fit name parts each.1)

pub removed-parts : (parts : List PartKey) → map (λ (set : SetOffset). set.part) (removals parts) ≡ parts
removed-parts [] = refl
removed-parts (part ∷ parts) = ap (λ l. part ∷ l) (removed-parts parts)

pub removals-may : (setting : Setting) (s : Cluster) (is_source : Bool) (name : List ℕ) → LogFacts setting s → MaySet name (removals (parts_with_offsets is_source name s.entries))
removals-may setting s is_source name f =
    let chosen : List PartKey = filter (has_offset is_source name s.entries) (flat_map parts_in s.entries) in
    let each : AllByRecursion (IsOwn name) (parts_with_offsets is_source name s.entries) =
    each-folded (IsOwn name) partition_cmp chosen []
    (each-passed IsPart (IsOwn name) (has_offset is_source name s.entries) (flat_map parts_in s.entries)
    (λ part written passes. record {
      connector = is-own name part (and_parts (is_part_of name part) (is_of_type is_source part) (and_parts (is_part_of name part && is_of_type is_source part) _ passes).0).0;
      written = written;
    }) (parts-written setting s f)) tt in
    record {
      own = removed-own name (parts_with_offsets is_source name s.entries) each;
      distinct = subst (IsDistinct same_part) (sym (removed-parts (parts_with_offsets is_source name s.entries)))
          (rising-distinct (parts_with_offsets is_source name s.entries) (rising-fold partition_cmp partition_total chosen [] (rising-none partition_cmp partition_total)));
      fit = removed-fit name (parts_with_offsets is_source name s.entries) each;
    }

-- ---- what a list of alterations sets

named-at : (k : List ℕ) (o : Option Data) (name : List ℕ) → option_and_then (name_at k) o ≡ Some name → IsName name
named-at k None name is = absurd (cc)
named-at k (Some d) name is = of (option_and_then as_str (get k d)) is where
  last : (bytes : List ℕ) (fault : Option NameFault) → name_fault bytes ≡ fault → unless_fault bytes fault ≡ Some name → IsName name
  last bytes None none is = let same : bytes ≡ name = cc in subst IsName same none
  last bytes (Some fault) some is = absurd (cc)

  of : (o : Option (List ℕ)) → option_and_then name_of o ≡ Some name → IsName name
  of None is = absurd (cc)
  of (Some bytes) is = last bytes (name_fault bytes) refl is

count-below : (k : List ℕ) (o : Option Data) (n : ℕ) → option_and_then (count_at k) o ≡ Some n → n < 2 ^ 32
count-below k None n is = absurd (cc)
count-below k (Some d) n is = of (u64_at k d) is where
  last : (m : ℕ) (b : Bool) → nat_lt m (2 ^ 32) ≡ b → (if b then Some m else None) ≡ Some n → n < 2 ^ 32
  last m true below is = let same : m ≡ n = cc in let least : m < 2 ^ 32 = ltb-true m (2 ^ 32) below in omega (arith, same, least)
  last m false above is = absurd (cc)

  of : (o : Option ℕ) → option_and_then below_32 o ≡ Some n → n < 2 ^ 32
  of None is = absurd (cc)
  of (Some m) is = last m (nat_lt m (2 ^ 32)) refl is

part-own : (name : List ℕ) (part : PartKey) (a : Option (List ℕ)) (b : Option ℕ) (c : Option (List ℕ)) → IsName name → ((f : List ℕ) → a ≡ Some f → IsName f) →
    ((n : ℕ) → b ≡ Some n → n < 2 ^ 32) → ((t : List ℕ) → c ≡ Some t → IsName t) →
    first_some (option_map (File name) a) (first_some (option_map (Seq name) b) (option_map (Sink name) c)) ≡ Some part → IsOwn name part
part-own name part (Some f) b c named feed count topic is = let same : File name f ≡ part = cc in subst (IsOwn name) same record { connector = refl; written = (named, feed f refl) }
part-own name part None (Some n) c named feed count topic is = let same : Seq name n ≡ part = cc in subst (IsOwn name) same record { connector = refl; written = (named, count n refl) }
part-own name part None None (Some t) named feed count topic is = let same : Sink name t ≡ part = cc in subst (IsOwn name) same record { connector = refl; written = (named, topic t refl) }
part-own name part None None None named feed count topic is = absurd (cc)

part_in-own : (name : List ℕ) (d : Data) (part : PartKey) → IsName name → part_in name d ≡ Some part → IsOwn name part
part_in-own name d part named is = part-own name part (feed_in d) (sequence_in d) (topic_in d) named
    (λ f there. named-at (codes "filename") (where_it (has_members 1) d) f there) (λ n there. count-below (codes "sequence") (where_it (has_members 1) d) n there)
    (λ t there. named-at (codes "kafka_topic") (where_it (λ d. has_members 2 d && option_map_or (λ n. n == 0) (u64_at (codes "kafka_partition") d) false) d) t there) is

offset-fits : (part : PartKey) (d : Data) (to : Option ℕ) → offset_in part d ≡ Some to → IsOffset to
offset-fits part found.null to is = let same : None ≡ to = cc in subst IsOffset same tt
offset-fits part (found.boolean b) to is = absurd (cc)
offset-fits part (found.number n) to is = absurd (cc)
offset-fits part (found.string s) to is = absurd (cc)
offset-fits part (found.array items) to is = absurd (cc)
offset-fits part (found.object members) to is = of (option_and_then (u64_at (offset_name part)) (where_it (has_members 1) (found.object members))) is where
  last : (n : ℕ) (b : Bool) → nat_lt n (2 ^ 48) ≡ b → option_map Some (if b then Some n else None) ≡ Some to → IsOffset to
  last n true below is = let same : Some n ≡ to = cc in let least : n < 2 ^ 48 = ltb-true n (2 ^ 48) below in subst IsOffset same (omega (arith, least))
  last n false above is = absurd (cc)

  of : (o : Option ℕ) → option_map Some (option_and_then (where_it (λ n. nat_lt n (2 ^ 48))) o) ≡ Some to → IsOffset to
  of None is = absurd (cc)
  of (Some n) is = last n (nat_lt n (2 ^ 48)) refl is

-- what an alteration sets
record IsSetBy (name : List ℕ) (a : Alteration) (set : SetOffset) : Type 0 where
  part : part_in name a.partition ≡ Some set.part
  own : connector_of set.part ≡ Some name
  fits : IsSet set

set-by : (is_source : Bool) (name : List ℕ) (a : Alteration) (set : SetOffset) → IsName name → set_by is_source name a ≡ Some set → IsSetBy name a set
set-by is_source name a set named is = of (part_in name a.partition) refl is where
  made : (part : PartKey) (o : Option (Option ℕ)) → offset_in part a.offset ≡ o → part_in name a.partition ≡ Some part →
      option_map (λ to. record { part = part; to = to }) o ≡ Some set → IsSetBy name a set
  made part None none there is = absurd (cc)
  made part (Some to) some there is =
      let same : record { part = part; to = to } ≡ set = cc in
      let its : IsOwn name part = part_in-own name a.partition part named there in
      subst (IsSetBy name a) same record { part = there; own = its.connector; fits = (its.written, offset-fits part a.offset to some) }

  typed : (part : PartKey) (b : Bool) → part_in name a.partition ≡ Some part →
      option_and_then (λ part. option_map (λ to. record { part = part; to = to }) (offset_in part a.offset)) (if b then Some part else None) ≡ Some set → IsSetBy name a set
  typed part true there is = made part (offset_in part a.offset) refl there is
  typed part false there is = absurd (cc)

  of : (o : Option PartKey) → part_in name a.partition ≡ o →
      option_and_then (λ part. option_map (λ to. record { part = part; to = to }) (offset_in part a.offset)) (option_and_then (where_it (is_of_type is_source)) o) ≡ Some set → IsSetBy name a set
  of None none is = absurd (cc)
  of (Some part) there is = typed part (is_of_type is_source part) there is

-- what a list of them sets
record AreSetBy (name : List ℕ) (list : List Alteration) (sets : List SetOffset) : Type 0 where
  own : AllByRecursion (λ set. connector_of set.part ≡ Some name) sets
  fit : AllByRecursion IsSet sets
  parts : map (λ set. set.part) sets ≡ filter_map (λ a. part_in name a.partition) list

sets-by : (is_source : Bool) (name : List ℕ) (list : List Alteration) (sets : List SetOffset) → IsName name → each_of (set_by is_source name) list ≡ Some sets → AreSetBy name list sets
sets-by is_source name [] sets named is = let same : [] ≡ sets = cc in subst (AreSetBy name []) same record { own = tt; fit = tt; parts = refl }
sets-by is_source name (a ∷ list) sets named is =
    of (set_by is_source name a) (each_of (set_by is_source name) list) (λ set there. set-by is_source name a set named there) (λ others there. sets-by is_source name list others named there) is where
      of : (o : Option SetOffset) (os : Option (List SetOffset)) → ((set : SetOffset) → o ≡ Some set → IsSetBy name a set) → ((others : List SetOffset) → os ≡ Some others → AreSetBy name list others) →
          with_each o os ≡ Some sets → AreSetBy name (a ∷ list) sets
      of None os first rest is = absurd (cc)
      of (Some set) None first rest is = absurd (cc)
      of (Some set) (Some others) first rest is =
          let same : set ∷ others ≡ sets = cc in
          let here : IsSetBy name a set = first set refl in
          let those : AreSetBy name list others = rest others refl in
          subst (AreSetBy name (a ∷ list)) same record {
            own = (here.own, those.own);
            fit = (here.fits, those.fit);
            parts = ap (λ l. set.part ∷ l) those.parts ∙ sym (ap (λ (o : Option PartKey). cons_option o (filter_map (λ (b : Alteration). part_in name b.partition) list)) here.part);
          }

-- no part of a list stands twice
none-same : (part : PartKey) (parts : List PartKey) → list_any (same_part part) parts ≡ false → AllByRecursion (λ other. same_part part other ≡ false) parts
none-same part [] none = tt
none-same part (other ∷ parts) none = let both = or_parts (same_part part other) (list_any (same_part part) parts) none in (both.0, none-same part parts both.1)

pub once-distinct : (parts : List PartKey) → has_repeat parts ≡ false → IsDistinct same_part parts
unfolding IsDistinct
once-distinct [] once = tt
once-distinct (part ∷ parts) once = by (list_any (same_part part) parts) refl once (once-distinct parts) where
  by : (b : Bool) → list_any (same_part part) parts ≡ b → (if b then true else has_repeat parts) ≡ false → (has_repeat parts ≡ false → IsDistinct same_part parts) →
      AllByRecursion (λ other. same_part part other ≡ false) parts × IsDistinct same_part parts
  by true any once rest = absurd (cc)
  by false none once rest = (none-same part parts none, rest once)

tested : {A : Type 0} (test : A → Bool) (o : Option A) (x : A) → option_and_then (where_it test) o ≡ Some x → test x ≡ true
tested test None x is = absurd (cc)
tested test (Some y) x is = by (test y) refl is where
  by : (b : Bool) → test y ≡ b → (if b then Some y else None) ≡ Some x → test x ≡ true
  by true passes is = let same : y ≡ x = cc in subst (λ z. test z ≡ true) same passes
  by false fails is = absurd (cc)

-- a list of alterations that names no part twice
pub alterations-may : (is_source : Bool) (name : List ℕ) (list : List Alteration) (sets : List SetOffset) → IsName name → is_list_of_offsets name list ≡ true →
    sets_by is_source name list ≡ Some sets → MaySet name sets
alterations-may is_source name list sets named once is =
    let those : AreSetBy name list sets = sets-by is_source name list sets named is in
    record {
      own = those.own;
      distinct = subst (IsDistinct same_part) (sym those.parts)
          (once-distinct (filter_map (λ a. part_in name a.partition) list) (not-true (has_repeat (filter_map (λ a. part_in name a.partition) list)) (and_parts (nat_lt 0 (length list) && nat_le (length list) 1000) _ once).1));
      fit = those.fit;
    }

pub alterations-listed : (name body : List ℕ) (list : List Alteration) → alterations_in name body ≡ Some list → is_list_of_offsets name list ≡ true
alterations-listed name body list is = of (reading body) is where
  of : (o : Option Data) → option_and_then (alterations_by name) o ≡ Some list → is_list_of_offsets name list ≡ true
  of None is = absurd (cc)
  of (Some value) is = tested (is_list_of_offsets name)
      (option_and_then (λ items. each_of alteration_of (elements_of items)) (option_and_then as_array (option_and_then (get (codes "offsets")) (where_it (has_members 1) value)))) list is
