-- What a call that would succeed sets of offsets may be set: parts of the stopped connector, none twice, each with an
-- offset that fits.
use Rattle.std.proofs.Common.{◌≡◌, ℕ, ◌==◌, ◌<◌, ◌^◌, ◌∷◌, [], ◌&&◌, Bool, true, false, not, cond, List, Option, Some, None, IsSome, is_some, nat_le, nat_lt, length, map, option_map, option_and_then, unwrap_or, codes, if◌then◌else◌, refl, sym, subst, ap, ◌∙◌, arith}
use Rattle.std.specs.List.{AllByRecursion, IsDistinct, filter, filter_map, flat_map, fold}
use Rattle.std.specs.List.Sorted.{IsStrictlySortedBy}
use Rattle.std.specs.Option.{option_map_or}
use Rattle.std.specs.BTreeSet.{insert_key}
use Rattle.std.specs.Cmp.{IsTotalOrder, on_total}
use Rattle.std.specs.Cmp.Lexicographic.{nat_list_cmp_total}
use Rattle.std.specs.Ordering.{match_ordering}
use Rattle.std.specs.declared.cmp.Ordering.{Ordering}
use Rattle.std.specs.declared.cmp.Ordering.TheVariants.{Less, Equal, Greater}
use Rattle.std.proofs.lemmas.List.Elements.{All-from_recursion}
use Rattle.cw_laws.proofs.TaskParts.{then_some}
use Rattle.cw_laws.proofs.CallValues.{unless-done}
use Rattle.cw_laws.proofs.CallOffsets.{entries-parts, is-own, rising-distinct, removed-parts, once-distinct}
use borrow.Author.Tests.{ltb-true}
use Rattle.serde_json.specs.Data.{Data, null, boolean, number, string, array, object}
use Rattle.serde_json.specs.Find.{get, as_str, as_array}
use Rattle.serde_json.specs.Written.{compact_text}
use Rattle.cw_types.specs.Name.{IsName, name_fault, name_of, unless_fault}
use Rattle.cw_types.specs.declared.name.NameFault.{NameFault}
use Rattle.cw_types.specs.Same.{same_part, connector_of}
use Rattle.cw_types.specs.declared.ids.PartKey.{PartKey}
use Rattle.cw_types.specs.declared.ids.PartKey.TheVariants.{File, Seq, Sink}
use Rattle.cw_bytes.specs.Spelling.{IsPart}
use Rattle.cw_keys.specs.Counts.{u64_at, below_32, count_at}
use Rattle.cw_keys.specs.Offsets.{offset_name}
use Rattle.cw_keys.specs.Parts.{name_at, first_some}
use Rattle.cw_txn.specs.Body.{IsEntry, IsSet, IsOffset}
use Rattle.cw_route.specs.HeldNames.{HoldsName}
use Rattle.cw_route.specs.declared.call.Call.{Call}
use Rattle.cw_route.specs.declared.call.Call.TheVariants.{Refused, Connectors, Create, Info, Delete, Config, PutConfig, Status, Tasks, TaskStatus, Pause, Resume, Stop, Restart, RestartTask, Offsets, Alter, Reset, Plugins}
use Rattle.cw_rest.specs.Calls.{writes_offsets, deed_of}
use Rattle.cw_rest.specs.Operations.{removals}
use Rattle.cw_txn.specs.declared.entry.SetOffset.{SetOffset}
use Rattle.cw_rest.specs.Bodies.{has_members, where_it}
use Rattle.cw_json.specs.Reading.{reading}
use Rattle.cw_rest.specs.Offsets.{Alteration, alteration_of, elements_of, part_in, feed_in, sequence_in, topic_in, offset_in, set_by, sets_by, each_of, with_each, has_repeat, is_of_type, is_part_of, has_offset, partition_of, partition_cmp, parts_in, is_list_of_offsets, alterations_by, alterations_in}
use Rattle.cw_laws.proofs.Disks.{and-first, and-second}
use Rattle.cw_types.proofs.Rising.{rising-fold, rising-none}
use Rattle.cw_laws.proofs.Lists.{each-weaker}
use Rattle.cw_keys.specs.declared.target.Target.{Target}
use Rattle.cw_keys.specs.declared.target.Target.TheVariants.{Started, Paused, Stopped}
use Rattle.cw_config.specs.View.{target_of}
use Rattle.cw_route.specs.declared.reply.Reply.{Reply}
use Rattle.cw_rest.specs.Seen.{Seen, is_connector}
use Rattle.cw_rest.specs.Messages.{replied, no_connector, not_stopped, bad_offset}
use Rattle.cw_rest.specs.Pages.{is_source, config_seen, parts_seen, message}
use Rattle.cw_rest.specs.Replies.{unless, unless_bad, is_stopped, if_stopped, sets_of, alter_reply, reset_reply, reply_to, offsets_of, connector_set}
use Rattle.cw_model.specs.State.{Cluster}
use Rattle.cw_model.specs.Lookups.{row_of}
use Rattle.cw_model.specs.EventsLeading.{MaySetOffsets}
use Rattle.cw_model.specs.Journal.{is_success}

-- ---- what is read of an option

-- what is made of something that is there
pub made : {A B : Type 0} (f : A → B) (o : Option A) (y : B) → option_map f o ≡ Some y → (x : A) × (o ≡ Some x) × (f x ≡ y)
made f None y is = absurd (cc)
made f (Some x) y is = (x, refl, cc)

pub tested : {A : Type 0} (test : A → Bool) (x y : A) → where_it test x ≡ Some y → (test x ≡ true) × (x ≡ y)
tested test x y is = at (test x) refl is where
  at : (b : Bool) → test x ≡ b → (if b then Some x else None) ≡ Some y → (test x ≡ true) × (x ≡ y)
  at true passes is = (passes, cc)
  at false fails is = absurd (cc)

-- ---- a part that a partition names

name-of : (bytes name : List ℕ) → name_of bytes ≡ Some name → IsName name
name-of bytes name is = at (name_fault bytes) refl is where
  at : (o : Option NameFault) → name_fault bytes ≡ o → unless_fault bytes o ≡ Some name → IsName name
  at None good is = let equal : bytes ≡ name = cc in subst (λ t. name_fault t ≡ None) equal good
  at (Some fault) bad is = absurd (cc)

name-at : (key : List ℕ) (d : Data) (name : List ℕ) → name_at key d ≡ Some name → IsName name
name-at key d name is = let it = then_some name_of (option_and_then as_str (get key d)) name is in name-of it.0 name it.2

count-fits : (key : List ℕ) (d : Data) (n : ℕ) → count_at key d ≡ Some n → n < 2 ^ 32
count-fits key d n is = let it = then_some below_32 (u64_at key d) n is in at it.0 (nat_lt it.0 (2 ^ 32)) refl it.2 where
  at : (m : ℕ) (b : Bool) → nat_lt m (2 ^ 32) ≡ b → (if b then Some m else None) ≡ Some n → n < 2 ^ 32
  at m true below is = let same : m ≡ n = cc in subst (λ k. k < 2 ^ 32) same (ltb-true m (2 ^ 32) below)
  at m false above is = absurd (cc)

-- a part of the connector, with names and numbers that fit
pub record IsOwn (name : List ℕ) (part : PartKey) : Type 0 where
  pub own : connector_of part ≡ Some name
  pub fits : IsPart part

module _ (name : List ℕ) (named : IsName name) where
  part-own : (partition : Data) (part : PartKey) → part_in name partition ≡ Some part → IsOwn name part
  part-own partition part is = at (feed_in partition) (sequence_in partition) (topic_in partition) refl refl refl is where
    feed-named : (feed : List ℕ) → feed_in partition ≡ Some feed → IsName feed
    feed-named feed is = let it = then_some (name_at (codes "filename")) (where_it (has_members 1) partition) feed is in name-at (codes "filename") it.0 feed it.2

    sequence-fits : (n : ℕ) → sequence_in partition ≡ Some n → n < 2 ^ 32
    sequence-fits n is = let it = then_some (count_at (codes "sequence")) (where_it (has_members 1) partition) n is in count-fits (codes "sequence") it.0 n it.2

    topic-named : (topic : List ℕ) → topic_in partition ≡ Some topic → IsName topic
    topic-named topic is = let it = then_some (name_at (codes "kafka_topic")) (where_it (λ d. has_members 2 d && option_map_or (λ n. n == 0) (u64_at (codes "kafka_partition") d) false) partition) topic is in name-at (codes "kafka_topic") it.0 topic it.2

    at : (f : Option (List ℕ)) (q : Option ℕ) (t : Option (List ℕ)) → feed_in partition ≡ f → sequence_in partition ≡ q → topic_in partition ≡ t →
        first_some (option_map (File name) f) (first_some (option_map (Seq name) q) (option_map (Sink name) t)) ≡ Some part → IsOwn name part
    at (Some feed) q t a b c is = let same : File name feed ≡ part = cc in subst (IsOwn name) same (record { own = refl; fits = (named, feed-named feed a) })
    at None (Some index) t a b c is = let same : Seq name index ≡ part = cc in subst (IsOwn name) same (record { own = refl; fits = (named, sequence-fits index b) })
    at None None (Some topic) a b c is = let same : Sink name topic ≡ part = cc in subst (IsOwn name) same (record { own = refl; fits = (named, topic-named topic c) })
    at None None None a b c is = absurd (cc)

  offset-fits : (part : PartKey) (value : Data) (to : Option ℕ) → offset_in part value ≡ Some to → IsOffset to
  offset-fits part null to is = let same : None ≡ to = cc in subst IsOffset same tt
  offset-fits part (boolean b) to is = absurd (cc)
  offset-fits part (number n) to is = absurd (cc)
  offset-fits part (string s) to is = absurd (cc)
  offset-fits part (array items) to is = absurd (cc)
  offset-fits part (object members) to is =
      let one = made Some (option_and_then (where_it (λ n. nat_lt n (2 ^ 48))) (option_and_then (u64_at (offset_name part)) (where_it (has_members 1) (object members)))) to is in
      let two = then_some (where_it (λ n. nat_lt n (2 ^ 48))) (option_and_then (u64_at (offset_name part)) (where_it (has_members 1) (object members))) one.0 one.1 in
      let three = tested (λ n. nat_lt n (2 ^ 48)) two.0 one.0 two.2 in
      let below : two.0 < 2 ^ 48 = ltb-true two.0 (2 ^ 48) three.0 in
      subst IsOffset one.2 (omega (arith, below, three.1))

  -- what an alteration sets
  pub record IsSetBy (alteration : Alteration) (set : SetOffset) : Type 0 where
    pub part : part_in name alteration.partition ≡ Some set.part
    pub own : IsOwn name set.part
    pub fits : IsOffset set.to

  set-by : (is_source : Bool) (alteration : Alteration) (set : SetOffset) → set_by is_source name alteration ≡ Some set → IsSetBy alteration set
  set-by is_source alteration set is =
      let one = then_some (λ part. option_map (λ to. record { part = part; to = to }) (offset_in part alteration.offset)) (option_and_then (where_it (is_of_type is_source)) (part_in name alteration.partition)) set is in
      let two = then_some (where_it (is_of_type is_source)) (part_in name alteration.partition) one.0 one.1 in
      let three = tested (is_of_type is_source) two.0 one.0 two.2 in
      let four = made (λ (to : Option ℕ). record { part = one.0; to = to }) (offset_in one.0 alteration.offset) set one.2 in
      let there : part_in name alteration.partition ≡ Some one.0 = two.1 ∙ ap (λ (p : PartKey). Some p) three.1 in
      subst (IsSetBy alteration) four.2 (record { part = there; own = part-own alteration.partition one.0 there; fits = offset-fits one.0 alteration.offset four.0 four.1 })

  -- what a list of them sets
  pub record AreSetBy (list : List Alteration) (sets : List SetOffset) : Type 0 where
    pub each : AllByRecursion (λ (set : SetOffset). IsOwn name set.part × IsOffset set.to) sets
    pub parts : filter_map (λ (a : Alteration). part_in name a.partition) list ≡ map (λ (set : SetOffset). set.part) sets

  sets-by : (is_source : Bool) (list : List Alteration) (sets : List SetOffset) → sets_by is_source name list ≡ Some sets → AreSetBy list sets
  sets-by is_source [] sets is = let none : [] ≡ sets = cc in subst (AreSetBy []) none (record { each = tt; parts = refl })
  sets-by is_source (a ∷ list) sets is = at (set_by is_source name a) (each_of (set_by is_source name) list) refl refl is (sets-by is_source list) where
    at : (first : Option SetOffset) (others : Option (List SetOffset)) → set_by is_source name a ≡ first → each_of (set_by is_source name) list ≡ others → with_each first others ≡ Some sets →
        ((rest : List SetOffset) → each_of (set_by is_source name) list ≡ Some rest → AreSetBy list rest) → AreSetBy (a ∷ list) sets
    at None others one two is later = absurd (cc)
    at (Some first) None one two is later = absurd (cc)
    at (Some first) (Some rest) one two is later =
        let own : IsSetBy a first = set-by is_source a first one in
        let more : AreSetBy list rest = later rest two in
        let same : first ∷ rest ≡ sets = cc in
        subst (AreSetBy (a ∷ list)) same (record {
          each = ((own.own, own.fits), more.each);
          parts = let there : part_in name a.partition ≡ Some first.part = own.part in rw there (ap (λ (l : List PartKey). first.part ∷ l) more.parts);
        })

-- ---- parts that are named once

-- ---- the parts that have offsets

-- the order of partitions is one of texts
partition_total : IsTotalOrder partition_cmp
partition_total = on_total (λ part. compact_text (partition_of part)) nat_list_cmp_total

-- what is so of each part is so of those that are put in order
insert-each : (P : PartKey → Type 0) (parts : List PartKey) (part : PartKey) → P part → AllByRecursion P parts → AllByRecursion P (insert_key partition_cmp parts part)
insert-each P [] part own each = (own, tt)
insert-each P (p ∷ parts) part own each = at (partition_cmp part p) (insert-each P parts part own each.1) where
  at : (o : Ordering) → AllByRecursion P (insert_key partition_cmp parts part) → AllByRecursion P (match_ordering o (part ∷ p ∷ parts) (p ∷ parts) (p ∷ insert_key partition_cmp parts part))
  at Less rest = (own, each)
  at Equal rest = each
  at Greater rest = (each.0, rest)

fold-each : (P : PartKey → Type 0) (parts done : List PartKey) → AllByRecursion P parts → AllByRecursion P done → AllByRecursion P (fold (insert_key partition_cmp) done parts)
fold-each P [] done each own = own
fold-each P (p ∷ parts) done each own = fold-each P parts (insert_key partition_cmp done p) each.1 (insert-each P done p each.0 own)

filter-each : (P : PartKey → Type 0) (test : PartKey → Bool) (parts : List PartKey) → AllByRecursion P parts → AllByRecursion (λ p. P p × (test p ≡ true)) (filter test parts)
filter-each P test [] each = tt
filter-each P test (p ∷ parts) each = at (test p) refl (filter-each P test parts each.1) where
  at : (b : Bool) → test p ≡ b → AllByRecursion (λ p. P p × (test p ≡ true)) (filter test parts) → AllByRecursion (λ p. P p × (test p ≡ true)) (cond b (p ∷ filter test parts) (filter test parts))
  at true passes rest = ((each.0, passes), rest)
  at false fails rest = rest

-- a part that is the connector's and fits may be removed
removed-each : (name : List ℕ) (parts : List PartKey) → AllByRecursion (IsOwn name) parts → AllByRecursion (λ (set : SetOffset). IsOwn name set.part × IsOffset set.to) (removals parts)
removed-each name [] each = tt
removed-each name (part ∷ parts) each = ((each.0, tt), removed-each name parts each.1)

-- ---- the offsets that a call alters

abbrev Sets : List SetOffset → Type 0
Sets sets = AllByRecursion IsSet sets

module _ (leader : ℕ) (s : Cluster) (leads : IsSome (row_of leader s).lead) (seen : Seen) (same : seen.configs ≡ s.configs) (name : List ℕ) (named : IsName name) where
  -- what is to be done with offsets of a connector that may be modified
  stopped-may : (sets : List SetOffset) → AllByRecursion (λ (set : SetOffset). IsOwn name set.part × IsOffset set.to) sets → IsDistinct same_part (map (λ (set : SetOffset). set.part) sets) →
      target_of name seen.configs ≡ Stopped → MaySetOffsets leader name sets s
  stopped-may sets each once stops = record {
    leads = leads;
    stopped = ap (target_of name) (sym same) ∙ stops;
    own = All-from_recursion (λ (set : SetOffset). connector_of set.part ≡ Some name) sets (each-weaker _ _ sets (λ set it. it.0.own) each);
    distinct = once;
    fit = All-from_recursion IsSet sets (each-weaker _ _ sets (λ set it. (it.0.fits, it.1)) each);
  }

  -- an offset may be modified where the call succeeds
  modified : (done : Reply) → is_success (if_stopped true seen name done) ≡ true → (target_of name seen.configs ≡ Stopped) × (is_success done ≡ true)
  modified done succeeds =
      let one = unless-done (is_connector name seen) (no_connector name) (unless (is_stopped (target_of name seen.configs)) not_stopped done) refl succeeds in
      let two = unless-done (is_stopped (target_of name seen.configs)) not_stopped done refl one.1 in
      (at (target_of name seen.configs) two.0, two.1) where
        at : (target : Target) → is_stopped target ≡ true → target ≡ Stopped
        at Started is = absurd (let never : false ≡ true = is in cc)
        at Paused is = absurd (let never : false ≡ true = is in cc)
        at Stopped is = refl

  alter-may : (body : List ℕ) (o : Option (List Alteration)) → alterations_in name body ≡ o → is_success (unless_bad o (alter_reply true seen name)) ≡ true →
      MaySetOffsets leader name (unwrap_or (option_and_then (sets_of name seen) o) []) s
  alter-may body None none succeeds = absurd (let never : false ≡ true = succeeds in cc)
  alter-may body (Some list) is succeeds = at (sets_of name seen list) refl once.1 where
    once : (target_of name seen.configs ≡ Stopped) × (is_success (unless (is_some (sets_of name seen list)) bad_offset (replied 200 (message (codes "The offsets for this connector have been altered successfully")))) ≡ true)
    once = modified (unless (is_some (sets_of name seen list)) bad_offset (replied 200 (message (codes "The offsets for this connector have been altered successfully")))) succeeds

    apart : has_repeat (filter_map (λ (a : Alteration). part_in name a.partition) list) ≡ false
    apart =
        let read = then_some (alterations_by name) (reading body) list is in
        let found = then_some (where_it (is_list_of_offsets name)) (option_and_then (λ items. each_of alteration_of (elements_of items))
        (option_and_then as_array (option_and_then (get (codes "offsets")) (where_it (has_members 1) read.0)))) list read.2 in
        let passes = tested (is_list_of_offsets name) found.0 list found.2 in
        let good : is_list_of_offsets name list ≡ true = subst (λ (l : List Alteration). is_list_of_offsets name l ≡ true) passes.1 passes.0 in
        not-true (has_repeat (filter_map (λ (a : Alteration). part_in name a.partition) list)) (and-second (nat_lt 0 (length list) && nat_le (length list) 1000)
        (not (has_repeat (filter_map (λ (a : Alteration). part_in name a.partition) list))) good) where
          not-true : (b : Bool) → not b ≡ true → b ≡ false
          not-true true is = absurd (let never : false ≡ true = is in cc)
          not-true false is = refl

    at : (sets : Option (List SetOffset)) → sets_of name seen list ≡ sets → is_success (unless (is_some sets) bad_offset (replied 200 (message (codes "The offsets for this connector have been altered successfully")))) ≡ true →
        MaySetOffsets leader name (unwrap_or sets []) s
    at None none succeeds = absurd (let never : false ≡ true = succeeds in cc)
    at (Some sets) there succeeds =
        let set : AreSetBy name named list sets = sets-by name named (is_source (config_seen name seen)) list sets there in
        stopped-may sets set.each (once-distinct (map (λ (set : SetOffset). set.part) sets) (subst (λ (l : List PartKey). has_repeat l ≡ false) set.parts apart)) once.0

  reset-may : AllByRecursion IsEntry seen.entries → is_success (reset_reply true seen name) ≡ true → MaySetOffsets leader name (removals (parts_seen name seen)) s
  reset-may written succeeds =
      let once = modified (replied 200 (message (codes "The offsets for this connector have been reset successfully"))) succeeds in
      let test : PartKey → Bool = has_offset (is_source (config_seen name seen)) name seen.entries in
      let passed = filter-each IsPart test (flat_map parts_in seen.entries) (entries-parts seen.entries written) in
      let owned : AllByRecursion (IsOwn name) (filter test (flat_map parts_in seen.entries)) = each-weaker _ _ (filter test (flat_map parts_in seen.entries)) (λ part it. record {
        own = is-own name part (and-first (is_part_of name part) (is_of_type (is_source (config_seen name seen)) part) (and-first _ _ it.1));
        fits = it.0;
      }) passed in
      let parts : List PartKey = parts_seen name seen in
      let each : AllByRecursion (IsOwn name) parts = fold-each (IsOwn name) (filter test (flat_map parts_in seen.entries)) [] owned tt in
      let rising : IsStrictlySortedBy partition_cmp parts =
      rising-fold partition_cmp partition_total (filter test (flat_map parts_in seen.entries)) [] (rising-none partition_cmp partition_total) in
      stopped-may (removals parts) (removed-each name parts each) (subst (IsDistinct same_part) (sym (removed-parts parts)) (rising-distinct parts rising)) once.0

-- the offsets of a call that would succeed
pub offsets-may : (leader : ℕ) (s : Cluster) → IsSome (row_of leader s).lead → (seen : Seen) → seen.configs ≡ s.configs → AllByRecursion IsEntry seen.entries → (call : Call) →
    deed_of call ≡ writes_offsets → HoldsName call → is_success (reply_to true seen call) ≡ true → MaySetOffsets leader (connector_set call) (offsets_of seen call) s
offsets-may leader s leads seen same written (Alter name body) writes named succeeds = alter-may leader s leads seen same name named body (alterations_in name body) refl succeeds
offsets-may leader s leads seen same written (Reset name) writes named succeeds = reset-may leader s leads seen same name named written succeeds
offsets-may leader s leads seen same written (Create body) writes named succeeds = absurd (cc)
offsets-may leader s leads seen same written (PutConfig name body) writes named succeeds = absurd (cc)
offsets-may leader s leads seen same written (Delete name) writes named succeeds = absurd (cc)
offsets-may leader s leads seen same written (Pause name) writes named succeeds = absurd (cc)
offsets-may leader s leads seen same written (Resume name) writes named succeeds = absurd (cc)
offsets-may leader s leads seen same written (Stop name) writes named succeeds = absurd (cc)
offsets-may leader s leads seen same written (Refused fault) writes named succeeds = absurd (cc)
offsets-may leader s leads seen same written Connectors writes named succeeds = absurd (cc)
offsets-may leader s leads seen same written (Info name) writes named succeeds = absurd (cc)
offsets-may leader s leads seen same written (Config name) writes named succeeds = absurd (cc)
offsets-may leader s leads seen same written (Status name) writes named succeeds = absurd (cc)
offsets-may leader s leads seen same written (Tasks name) writes named succeeds = absurd (cc)
offsets-may leader s leads seen same written (TaskStatus id) writes named succeeds = absurd (cc)
offsets-may leader s leads seen same written (Restart name) writes named succeeds = absurd (cc)
offsets-may leader s leads seen same written (RestartTask id) writes named succeeds = absurd (cc)
offsets-may leader s leads seen same written (Offsets name) writes named succeeds = absurd (cc)
offsets-may leader s leads seen same written Plugins writes named succeeds = absurd (cc)
