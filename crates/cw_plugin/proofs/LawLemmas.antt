-- The tasks of properties without a fault: each is a task, and no part is in two of them.
use Rattle.std.proofs.Common.{◌≡◌, ℕ, zero, suc, ◌/◌, ◌%◌, ◌<◌, ◌≤◌, min, ◌^◌, ◌-◌, ◌+◌, ◌*◌, List, [], ◌∷◌, ◌++◌, append-nil, length, map, All, AllPairs, true, false, not, cond, Option, Some, None, option_map, Result, Ok, Err, IfOk, codes, decimal, unwrap_or, IsSome, refl, sym, ap, ◌∙◌, subst, inl, inr, arith}
use Rattle.std.specs.Option.{option_map_or, is_some}
use Rattle.std.specs.List.{cons_option, filter_map, flat_map, join_with_byte, range_with_len}
use Rattle.std.proofs.lemmas.Bool.Decides.{nat_tests}
use Rattle.std.proofs.lemmas.List.Elements.{filter_map-append}
use Rattle.std.proofs.lemmas.Bool.{not-false, cases_eq}
use Rattle.std.proofs.lemmas.Nat.{le-div}
use Rattle.std.proofs.lemmas.List.Elements.{All-from_recursion}
use Rattle.cw_types.specs.declared.ids.PartKey.{PartKey}
use Rattle.cw_types.specs.declared.ids.PartKey.TheVariants.{File, Seq, Sink}
use Rattle.cw_json.specs.Pairs.{value_in}
use Rattle.cw_plugin.specs.declared.class.Class.{Class}
use Rattle.cw_plugin.specs.declared.class.Class.TheVariants.{FileStreamSource, FileSetSource, SequenceSource, FileStreamSink}
use Rattle.cw_plugin.specs.declared.class.Field.{Field}
use Rattle.cw_plugin.specs.declared.class.Field.TheVariants.{Feed, Feeds, Sequences, Count, Topic, Outlet, Topics}
use Rattle.cw_plugin.specs.declared.task.TaskSpec.{TaskSpec}
use Rattle.cw_plugin.specs.Classes.{ClassRow, row_of}
use Rattle.cw_plugin.specs.Checks.{is_name, is_bad_name, is_bad_number}
use Rattle.cw_plugin.specs.Lists.{elements, has_repeat}
use Rattle.cw_types.specs.Decimal.{number_of}
use Rattle.cw_plugin.specs.Numbers.{within, or_default, batch_size, sequences, count}
use Rattle.cw_plugin.specs.Parts.{part_of, parts_behind, pieces, parts_of, idle_task, task_of}
use Rattle.cw_plugin.specs.Tasks.{IsFaultless, ShareNone, class_parts, config_parts, parts_at, task_config, task_configs, configs_of_class, once, groups, parted_up_to, shared_in, share_count}
use Rattle.cw_plugin.proofs.ShareLemmas.{Texts, groups_none}
use Rattle.cw_plugin.proofs.GroupLemmas.{Each, each_map, each_weaker, Pairs, pairs_map, IsGroup, Apart, groups_law, groups-joined, HasNoComma, elements-join, elements_clean, once_unrepeated, each_once, numbers_unrepeated, decimal_clean, each_number}
use Rattle.cw_plugin.proofs.FaultlessLemmas.{Props, Faultless, faultless, next_there, next_good, next_loaded, loaded_one, loaded_all, all_named, some_of, source_numbers}
use Rattle.cw_plugin.proofs.TaskLemmas.{value_in-task_config, no_later, HasParts, parts_there, number_named, sequences_few, IsTaskOf, task_there, parts_all, share_none, field_next, task_is}

-- tasks that share no part, and together have these
pub record AreTasks (connector : List ℕ) (configs : List Props) (parts : List PartKey) : Type 0 where
  pub each : Each (λ config. IsSome (task_of connector config)) configs
  pub apart : Pairs (λ a b. ShareNone (parts_at connector a) (parts_at connector b)) configs
  pub whole : flat_map (parts_at connector) configs ≡ parts

-- an element that names a part and has no comma
pub record Names (connector : List ℕ) (field : Field) (e : List ℕ) : Type 0 where
  pub clean : HasNoComma e
  pub named : IsSome (part_of connector field e)

each_both : {X : Type 0} (P R Q : X → Type 0) → ((x : X) → P x → R x → Q x) → (xs : List X) → Each P xs → Each R xs → Each Q xs
each_both P R Q step [] ps rs = tt
each_both P R Q step (x ∷ xs) ps rs = (step x ps.0 rs.0, each_both P R Q step xs ps.1 rs.1)

pairs_weaker : {X : Type 0} (P : X → Type 0) (R Q : X → X → Type 0) → ((x y : X) → P x → P y → R x y → Q x y) → (xs : List X) → Each P xs → Pairs R xs → Pairs Q xs
pairs_weaker P R Q step [] ps rs = tt
pairs_weaker P R Q step (x ∷ xs) ps rs = (each_both P (R x) (Q x) (λ y. step x y ps.0) xs ps.1 rs.0, pairs_weaker P R Q step xs ps.1 rs.1)

-- the parts of all groups are those of all elements
whole_groups : (connector : List ℕ) (field : Field) (config_of : List ℕ → Props) (P : Texts → Type 0) (gs : List Texts)
    → ((g : Texts) → P g → IsTaskOf connector field g (config_of (join_with_byte 44 g))) → Each P gs
    → flat_map (parts_at connector) (map config_of (map (join_with_byte 44) gs)) ≡ filter_map (part_of connector field) (flat_map (λ g. g) gs)
whole_groups connector field config_of P [] task all = refl
whole_groups connector field config_of P (g ∷ gs) task all =
    ap (λ ps. ps ++ flat_map (parts_at connector) (map config_of (map (join_with_byte 44) gs))) (parts_all connector field g (config_of (join_with_byte 44 g)) (task g all.0))
    ∙ ap (λ ps. filter_map (part_of connector field) g ++ ps) (whole_groups connector field config_of P gs task all.1)
    ∙ sym (filter_map-append (part_of connector field) g (flat_map (λ g. g) gs))

-- the tasks of groups
tasks_of_groups : (connector : List ℕ) (field : Field) (es : Texts) (config_of : List ℕ → Props) (gs : List Texts)
    → ((g : Texts) → IsGroup (Names connector field) es g → IsTaskOf connector field g (config_of (join_with_byte 44 g)))
    → Each (IsGroup (Names connector field) es) gs → Pairs Apart gs
    → AreTasks connector (map config_of (map (join_with_byte 44) gs)) (filter_map (part_of connector field) (flat_map (λ g. g) gs))
tasks_of_groups connector field es config_of gs task groups_are groups_apart = record {
  each = each_map (λ config. IsSome (task_of connector config)) config_of (map (join_with_byte 44) gs)
      (each_map (λ t. IsSome (task_of connector (config_of t))) (join_with_byte 44) gs
      (each_weaker (IsGroup (Names connector field) es) (λ g. IsSome (task_of connector (config_of (join_with_byte 44 g)))) (λ g group. task_there connector field g (config_of (join_with_byte 44 g)) (task g group)) gs groups_are));
  apart = pairs_map (λ a b. ShareNone (parts_at connector a) (parts_at connector b)) config_of (map (join_with_byte 44) gs)
      (pairs_map (λ s t. ShareNone (parts_at connector (config_of s)) (parts_at connector (config_of t))) (join_with_byte 44) gs
      (pairs_weaker (IsGroup (Names connector field) es) Apart (λ g h. ShareNone (parts_at connector (config_of (join_with_byte 44 g))) (parts_at connector (config_of (join_with_byte 44 h))))
      (λ g h g_group h_group apart. share_none connector field g h (config_of (join_with_byte 44 g)) (config_of (join_with_byte 44 h)) (task g g_group) (task h h_group) apart) gs groups_are groups_apart));
  whole = whole_groups connector field config_of (IsGroup (Names connector field) es) gs task groups_are;
}

no_elements : (es : Texts) → length es ≡ 0 → [] ≡ es
no_elements [] none = refl
no_elements (e ∷ es) none = absurd (omega (arith, none))

-- the tasks of elements that are shared out
tasks_of_shares : (connector : List ℕ) (field : Field) (es : Texts) (config_of : List ℕ → Props) (most : ℕ)
    → 0 < most → has_repeat es ≡ false → Each (Names connector field) es
    → ((g : Texts) → IsGroup (Names connector field) es g → IsTaskOf connector field g (config_of (join_with_byte 44 g)))
    → AreTasks connector (map config_of (parted_up_to most es)) (filter_map (part_of connector field) es)
tasks_of_shares connector field es config_of most counted unrepeated names task =
    let size : ℕ = min (length es) most in
    elim (cases_eq size 0) [
      | inl none ↦
          let nothing : [] ≡ es = no_elements es (omega arith) in
          subst (λ gs. AreTasks connector (map config_of (map (join_with_byte 44) gs)) (filter_map (part_of connector field) es)) (sym (groups_none size (length es / size) (length es % size) es none))
          (record { each = tt; apart = tt; whole = ap (filter_map (part_of connector field)) nothing })
      | inr some ↦
          let positive : 0 < size = omega (arith, some) in
          let least_some : 1 ≤ length es / size = le-div 1 (length es) size positive (omega arith) in
          let law = groups_law (Names connector field) size (length es / size) (length es % size) es (omega (arith, least_some)) (omega (arith, positive)) unrepeated names in
          let all : size * (length es / size) + length es % size ≡ length es = omega (arith, positive) in
          let few : length es % size ≤ size = omega (arith, positive) in
          let joined : flat_map (λ g. g) (groups size (length es / size) (length es % size) es) ≡ es = groups-joined size (length es / size) (length es % size) es all few in
          subst (λ them. AreTasks connector (map config_of (parted_up_to most es)) (filter_map (part_of connector field) them)) joined
          (tasks_of_groups connector field es config_of (groups size (length es / size) (length es % size) es) task law.0 law.1)
    ]

parts_of_pieces : (connector : List ℕ) (field : Field) (text : List ℕ) (es : Texts) (parts : List PartKey) → pieces field text ≡ es → has_repeat es ≡ false → parts_behind [] connector field es ≡ Some parts → parts_of connector field text ≡ Some parts
parts_of_pieces connector field text es parts are unrepeated found =
    ap (λ them. cond (has_repeat them) None (parts_behind [] connector field them)) are
    ∙ ap (λ b. cond b None (parts_behind [] connector field es)) unrepeated
    ∙ found

abbrev GroupParts : List ℕ → Field → Texts → Type 0
GroupParts connector field g = (parts : List PartKey) × (parts_of connector field (join_with_byte 44 g) ≡ Some parts) × HasParts connector field g parts

-- the parts of a group's text are those of its elements
group_parts : (connector : List ℕ) (field : Field) (es g : Texts) → ((text : List ℕ) → pieces field text ≡ elements text) → IsGroup (Names connector field) es g → GroupParts connector field g
group_parts connector field es g cut group =
    let them = parts_there connector field [] g (each_weaker (Names connector field) (λ e. IsSome (part_of connector field e)) (λ e it. it.named) g group.pass) in
    let again : elements (join_with_byte 44 g) ≡ g = elements-join g group.some (each_weaker (Names connector field) HasNoComma (λ e it. it.clean) g group.pass) in
    (them.0, parts_of_pieces connector field (join_with_byte 44 g) g them.0 (cut (join_with_byte 44 g) ∙ again) group.unrepeated them.1, them.2)

-- the parts of tasks, told otherwise
with_parts : (connector : List ℕ) (configs : List Props) (parts others : List PartKey) → parts ≡ others → AreTasks connector configs parts → AreTasks connector configs others
with_parts connector configs parts others same tasks = subst (λ them. AreTasks connector configs them) same tasks

-- there may be a task
counted_by : (value : Option (List ℕ)) → 0 < unwrap_or (or_default 1 1000 1 value) 1
counted_by None = omega arith
counted_by (Some text) = at_least (number_of (2 ^ 32 - 1) text) where
  at_least : (o : Option ℕ) → 0 < unwrap_or (within 1 1000 o) 1
  at_least None = omega arith
  at_least (Some n) = grind (arith, nat_tests)

counted : (props : Props) → 0 < share_count props
counted props = counted_by (value_in props (codes "tasks.max"))

feeds_all : (connector : List ℕ) (es : Texts) → Each (λ e. is_name e ≡ true) es → filter_map (part_of connector Feeds) es ≡ map (File connector) es
feeds_all connector [] named = refl
feeds_all connector (e ∷ es) named =
    ap (λ b. cons_option (cond b (Some (File connector e)) None) (filter_map (part_of connector Feeds) es)) named.0
    ∙ ap (λ ps. File connector e ∷ ps) (feeds_all connector es named.1)

topics_all : (connector : List ℕ) (es : Texts) → Each (λ e. is_name e ≡ true) es → filter_map (part_of connector Topics) es ≡ map (Sink connector) es
topics_all connector [] named = refl
topics_all connector (e ∷ es) named =
    ap (λ b. cons_option (cond b (Some (Sink connector e)) None) (filter_map (part_of connector Topics) es)) named.0
    ∙ ap (λ ps. Sink connector e ∷ ps) (topics_all connector es named.1)

numbers_all : (connector : List ℕ) (a n : ℕ) → a + n ≤ 1000
    → filter_map (part_of connector Sequences) (map decimal (range_with_len a n)) ≡ map (Seq connector) (range_with_len a n)
numbers_all connector a zero small = refl
numbers_all connector a (suc n) small =
    ap (λ o. cons_option (option_map (λ i. Seq connector i) o) (filter_map (part_of connector Sequences) (map decimal (range_with_len (a + 1) n)))) (number_named a (omega arith))
    ∙ ap (λ ps. Seq connector a ∷ ps) (numbers_all connector (a + 1) n (omega arith))

abbrev Present : Props → List ℕ → Type 0
Present props key = (text : List ℕ) × (value_in props key ≡ Some text)

topic_named : (topic : List ℕ) → not (is_name topic) ≡ false → is_name topic ≡ true
topic_named topic e = not-false (is_name topic) e

-- ---- FileStreamSource

one_name : (connector file : List ℕ) → is_name file ≡ true → IsSome (part_of connector Feed file)
one_name connector file e = ap (λ b. is_some (cond b (Some (File connector file)) None)) e

stream_task : (connector file topic share : List ℕ) (props : Props) (n : ℕ) → value_in props (codes "file") ≡ Some file → value_in props (codes "topic") ≡ Some topic
    → is_name file ≡ true → is_name topic ≡ true → batch_size props ≡ Some n → IsTaskOf connector Feed (file ∷ []) (task_config props (row_of FileStreamSource) share)
stream_task connector file topic share props n has_file has_topic file_named topic_is batch =
    let row : ClassRow = row_of FileStreamSource in
    let config : Props = task_config props row share in
    let them = parts_there connector Feed [] (file ∷ []) (one_name connector file file_named, tt) in
    let parts : parts_of connector Feed file ≡ Some them.0 = parts_of_pieces connector Feed file (file ∷ []) them.0 refl refl them.1 in
    let idle : TaskSpec = idle_task FileStreamSource n in
    let middle : TaskSpec = record idle { parts = them.0 } in
    let task : TaskSpec = record middle { topic = Some topic } in
    record {
      task = task;
      is = task_is connector config FileStreamSource n task (value_in-task_config props row share (codes "task.class")) refl
          (ap (or_default 1 100000 2000) (value_in-task_config props row share (codes "batch.size") ∙ no_later (value_in props (codes "batch.size"))) ∙ batch)
          (field_next connector config idle middle Feed (Topic ∷ []) file (Some task) (value_in-task_config props row share (codes "file") ∙ no_later (value_in props (codes "file")) ∙ has_file) (ap (option_map (λ ps. record idle { parts = ps })) parts)
          (field_next connector config middle task Topic [] topic (Some task) (value_in-task_config props row share (codes "topic") ∙ no_later (value_in props (codes "topic")) ∙ has_topic) (ap (λ b. cond b (Some task) None) topic_is) refl));
      parts = them.2;
    }

stream_law : (connector : List ℕ) (props : Props) → Faultless props (row_of FileStreamSource) → AreTasks connector (configs_of_class props (row_of FileStreamSource)) (class_parts connector props FileStreamSource)
stream_law connector props good =
    let file = next_there props Feed (Topic ∷ []) good.none_missing in
    let topic = next_there props Topic [] file.1 in
    let loaded = next_loaded props Feed (Topic ∷ []) file.0.0 file.0.1 good.feeds_loaded in
    let names = next_good is_bad_name props Feed (Topic ∷ []) file.0.0 file.0.1 good.names_good in
    let topics = next_good is_bad_name props Topic [] topic.0.0 topic.0.1 names.1 in
    let numbers = source_numbers props (row_of FileStreamSource) refl good.no_bad_number in
    let task = stream_task connector file.0.0 topic.0.0 [] props numbers.0.0 file.0.1 topic.0.1 (loaded_one is_name file.0.0 (is_name file.0.0) refl loaded.0) (topic_named topic.0.0 topics.0) numbers.0.1 in
    let config : Props = task_config props (row_of FileStreamSource) [] in
    let named : is_name file.0.0 ≡ true = loaded_one is_name file.0.0 (is_name file.0.0) refl loaded.0 in
    record {
      each = (task_there connector Feed (file.0.0 ∷ []) config task, tt);
      apart = (tt, tt);
      whole = append-nil (parts_at connector config)
          ∙ parts_all connector Feed (file.0.0 ∷ []) config task
          ∙ ap (λ b. cons_option (cond b (Some (File connector file.0.0)) None) []) named
          ∙ sym (ap (λ o. option_map_or (λ f. File connector f ∷ []) o []) file.0.1);
    }

-- ---- FileSetSource

set_task : (connector topic : List ℕ) (es g : Texts) (props : Props) (n : ℕ) → value_in props (codes "topic") ≡ Some topic
    → is_name topic ≡ true → batch_size props ≡ Some n → IsGroup (Names connector Feeds) es g → IsTaskOf connector Feeds g (task_config props (row_of FileSetSource) (join_with_byte 44 g))
set_task connector topic es g props n has_topic topic_is batch group =
    let row : ClassRow = row_of FileSetSource in
    let share : List ℕ = join_with_byte 44 g in
    let config : Props = task_config props row share in
    let them = group_parts connector Feeds es g (λ text. refl) group in
    let idle : TaskSpec = idle_task FileSetSource n in
    let middle : TaskSpec = record idle { parts = them.0 } in
    let task : TaskSpec = record middle { topic = Some topic } in
    record {
      task = task;
      is = task_is connector config FileSetSource n task (value_in-task_config props row share (codes "task.class")) refl
          (ap (or_default 1 100000 2000) (value_in-task_config props row share (codes "batch.size") ∙ no_later (value_in props (codes "batch.size"))) ∙ batch)
          (field_next connector config idle middle Feeds (Topic ∷ []) share (Some task) (value_in-task_config props row share (codes "files")) (ap (option_map (λ ps. record idle { parts = ps })) them.1)
          (field_next connector config middle task Topic [] topic (Some task) (value_in-task_config props row share (codes "topic") ∙ no_later (value_in props (codes "topic")) ∙ has_topic) (ap (λ b. cond b (Some task) None) topic_is) refl));
      parts = them.2;
    }

feed_names : (connector : List ℕ) (es : Texts) → Each HasNoComma es → Each (λ e. is_name e ≡ true) es → Each (Names connector Feeds) es
feed_names connector es clean named = each_both HasNoComma (λ e. is_name e ≡ true) (Names connector Feeds)
    (λ e no_comma is. record { clean = no_comma; named = ap (λ b. is_some (cond b (Some (File connector e)) None)) is }) es clean named

of_value : (connector : List ℕ) (props : Props) (row : ClassRow) (f : List ℕ → Texts) (parts : List ℕ → List PartKey) (value : Option (List ℕ)) (text : List ℕ) → value ≡ Some text
    → AreTasks connector (map (task_config props row) (f text)) (parts text) → AreTasks connector (map (task_config props row) (option_map_or f value [])) (option_map_or parts value [])
of_value connector props row f parts value text is tasks = subst (λ o. AreTasks connector (map (task_config props row) (option_map_or f o [])) (option_map_or parts o [])) (sym is) tasks

set_law : (connector : List ℕ) (props : Props) → Faultless props (row_of FileSetSource) → AreTasks connector (configs_of_class props (row_of FileSetSource)) (class_parts connector props FileSetSource)
set_law connector props good =
    let files = next_there props Feeds (Topic ∷ []) good.none_missing in
    let topic = next_there props Topic [] files.1 in
    let loaded = next_loaded props Feeds (Topic ∷ []) files.0.0 files.0.1 good.feeds_loaded in
    let names = next_good is_bad_name props Feeds (Topic ∷ []) files.0.0 files.0.1 good.names_good in
    let topics = next_good is_bad_name props Topic [] topic.0.0 topic.0.1 names.1 in
    let numbers = source_numbers props (row_of FileSetSource) refl good.no_bad_number in
    let es : Texts = once (elements files.0.0) in
    let named : Each (λ e. is_name e ≡ true) (elements files.0.0) = loaded_all is_name (elements files.0.0) loaded.0 in
    let all : Each (Names connector Feeds) es = each_once (Names connector Feeds) (elements files.0.0) (feed_names connector (elements files.0.0) (elements_clean files.0.0) named) in
    of_value connector props (row_of FileSetSource) (λ text. parted_up_to (share_count props) (shared_in Feeds text)) (λ text. map (File connector) (once (elements text))) (value_in props (codes "files")) files.0.0 files.0.1
    (with_parts connector (map (task_config props (row_of FileSetSource)) (parted_up_to (share_count props) es)) (filter_map (part_of connector Feeds) es) (map (File connector) es) (feeds_all connector es (each_once (λ e. is_name e ≡ true) (elements files.0.0) named))
    (tasks_of_shares connector Feeds es (task_config props (row_of FileSetSource)) (share_count props) (counted props) (once_unrepeated (elements files.0.0)) all
    (λ g group. set_task connector topic.0.0 es g props numbers.0.0 topic.0.1 (topic_named topic.0.0 topics.0) numbers.0.1 group)))

-- ---- SequenceSource

sequence_task : (connector topic number : List ℕ) (es g : Texts) (props : Props) (n k : ℕ) → value_in props (codes "topic") ≡ Some topic → value_in props (codes "count") ≡ Some number
    → is_name topic ≡ true → count number ≡ Some k → batch_size props ≡ Some n → IsGroup (Names connector Sequences) es g
    → IsTaskOf connector Sequences g (task_config props (row_of SequenceSource) (join_with_byte 44 g))
sequence_task connector topic number es g props n k has_topic has_count topic_is count_is batch group =
    let row : ClassRow = row_of SequenceSource in
    let share : List ℕ = join_with_byte 44 g in
    let config : Props = task_config props row share in
    let them = group_parts connector Sequences es g (λ text. refl) group in
    let idle : TaskSpec = idle_task SequenceSource n in
    let first : TaskSpec = record idle { parts = them.0 } in
    let second : TaskSpec = record first { count = k } in
    let task : TaskSpec = record second { topic = Some topic } in
    record {
      task = task;
      is = task_is connector config SequenceSource n task (value_in-task_config props row share (codes "task.class")) refl
          (ap (or_default 1 100000 2000) (value_in-task_config props row share (codes "batch.size") ∙ no_later (value_in props (codes "batch.size"))) ∙ batch)
          (field_next connector config idle first Sequences (Count ∷ Topic ∷ []) share (Some task) (value_in-task_config props row share (codes "partitions")) (ap (option_map (λ ps. record idle { parts = ps })) them.1)
          (field_next connector config first second Count (Topic ∷ []) number (Some task) (value_in-task_config props row share (codes "count") ∙ no_later (value_in props (codes "count")) ∙ has_count) (ap (option_map (λ i. record first { count = i })) count_is)
          (field_next connector config second task Topic [] topic (Some task) (value_in-task_config props row share (codes "topic") ∙ no_later (value_in props (codes "topic")) ∙ has_topic) (ap (λ b. cond b (Some task) None) topic_is) refl)));
      parts = them.2;
    }

number_names : (connector : List ℕ) (k : ℕ) → k < 1000 → Names connector Sequences (decimal k)
number_names connector k small = record { clean = decimal_clean k small; named = ap (λ o. is_some (option_map (λ i. Seq connector i) o)) (number_named k small) }

sequence_law : (connector : List ℕ) (props : Props) → Faultless props (row_of SequenceSource) → AreTasks connector (configs_of_class props (row_of SequenceSource)) (class_parts connector props SequenceSource)
sequence_law connector props good =
    let partitions = next_there props Sequences (Count ∷ Topic ∷ []) good.none_missing in
    let number = next_there props Count (Topic ∷ []) partitions.1 in
    let topic = next_there props Topic [] number.1 in
    let names = next_good is_bad_name props Sequences (Count ∷ Topic ∷ []) partitions.0.0 partitions.0.1 good.names_good in
    let later = next_good is_bad_name props Count (Topic ∷ []) number.0.0 number.0.1 names.1 in
    let topics = next_good is_bad_name props Topic [] topic.0.0 topic.0.1 later.1 in
    let numbers = source_numbers props (row_of SequenceSource) refl good.no_bad_number in
    let sequences_good = next_good is_bad_number props Sequences (Count ∷ Topic ∷ []) partitions.0.0 partitions.0.1 numbers.1 in
    let count_good = next_good is_bad_number props Count (Topic ∷ []) number.0.0 number.0.1 sequences_good.1 in
    let all = some_of (sequences partitions.0.0) sequences_good.0 in
    let each = some_of (count number.0.0) count_good.0 in
    let few : all.0 ≤ 1000 = sequences_few partitions.0.0 all.0 all.1 in
    let es : Texts = map decimal (range_with_len 0 all.0) in
    of_value connector props (row_of SequenceSource) (λ text. parted_up_to (share_count props) (shared_in Sequences text)) (λ text. map (Seq connector) (range_with_len 0 (unwrap_or (sequences text) 0))) (value_in props (codes "partitions")) partitions.0.0 partitions.0.1
    (subst (λ m. AreTasks connector (map (task_config props (row_of SequenceSource)) (parted_up_to (share_count props) (map decimal (range_with_len 0 (unwrap_or m 0))))) (map (Seq connector) (range_with_len 0 (unwrap_or m 0)))) (sym all.1)
    (with_parts connector (map (task_config props (row_of SequenceSource)) (parted_up_to (share_count props) es)) (filter_map (part_of connector Sequences) es) (map (Seq connector) (range_with_len 0 all.0)) (numbers_all connector 0 all.0 (omega (arith, few)))
    (tasks_of_shares connector Sequences es (task_config props (row_of SequenceSource)) (share_count props) (counted props) (numbers_unrepeated 0 all.0 (omega (arith, few))) (each_number (Names connector Sequences) 0 all.0 (omega (arith, few)) (number_names connector))
    (λ g group. sequence_task connector topic.0.0 number.0.0 es g props numbers.0.0 each.0 topic.0.1 number.0.1 (topic_named topic.0.0 topics.0) each.1 numbers.0.1 group))))

-- ---- FileStreamSink

sink_task : (connector file : List ℕ) (es g : Texts) (props : Props) → value_in props (codes "file") ≡ Some file → is_name file ≡ true → IsGroup (Names connector Topics) es g
    → IsTaskOf connector Topics g (task_config props (row_of FileStreamSink) (join_with_byte 44 g))
sink_task connector file es g props has_file file_named group =
    let row : ClassRow = row_of FileStreamSink in
    let share : List ℕ = join_with_byte 44 g in
    let config : Props = task_config props row share in
    let them = group_parts connector Topics es g (λ text. refl) group in
    let idle : TaskSpec = idle_task FileStreamSink 2000 in
    let middle : TaskSpec = record idle { file = Some file } in
    let task : TaskSpec = record middle { parts = them.0 } in
    record {
      task = task;
      is = task_is connector config FileStreamSink 2000 task (value_in-task_config props row share (codes "task.class")) refl refl
          (field_next connector config idle middle Outlet (Topics ∷ []) file (Some task) (value_in-task_config props row share (codes "file") ∙ no_later (value_in props (codes "file")) ∙ has_file) (ap (λ b. cond b (Some middle) None) file_named)
          (field_next connector config middle task Topics [] share (Some task) (value_in-task_config props row share (codes "topics")) (ap (option_map (λ ps. record middle { parts = ps })) them.1) refl));
      parts = them.2;
    }

topic_names : (connector : List ℕ) (es : Texts) → Each HasNoComma es → Each (λ e. is_name e ≡ true) es → Each (Names connector Topics) es
topic_names connector es clean named = each_both HasNoComma (λ e. is_name e ≡ true) (Names connector Topics)
    (λ e no_comma is. record { clean = no_comma; named = ap (λ b. is_some (cond b (Some (Sink connector e)) None)) is }) es clean named

sink_law : (connector : List ℕ) (props : Props) → Faultless props (row_of FileStreamSink) → AreTasks connector (configs_of_class props (row_of FileStreamSink)) (class_parts connector props FileStreamSink)
sink_law connector props good =
    let file = next_there props Outlet (Topics ∷ []) good.none_missing in
    let topics = next_there props Topics [] file.1 in
    let names = next_good is_bad_name props Outlet (Topics ∷ []) file.0.0 file.0.1 good.names_good in
    let all_good = next_good is_bad_name props Topics [] topics.0.0 topics.0.1 names.1 in
    let es : Texts = once (elements topics.0.0) in
    let named : Each (λ e. is_name e ≡ true) (elements topics.0.0) = all_named (elements topics.0.0) all_good.0 in
    let all : Each (Names connector Topics) es = each_once (Names connector Topics) (elements topics.0.0) (topic_names connector (elements topics.0.0) (elements_clean topics.0.0) named) in
    of_value connector props (row_of FileStreamSink) (λ text. parted_up_to (share_count props) (shared_in Topics text)) (λ text. map (Sink connector) (once (elements text))) (value_in props (codes "topics")) topics.0.0 topics.0.1
    (with_parts connector (map (task_config props (row_of FileStreamSink)) (parted_up_to (share_count props) es)) (filter_map (part_of connector Topics) es) (map (Sink connector) es) (topics_all connector es (each_once (λ e. is_name e ≡ true) (elements topics.0.0) named))
    (tasks_of_shares connector Topics es (task_config props (row_of FileStreamSink)) (share_count props) (counted props) (once_unrepeated (elements topics.0.0)) all
    (λ g group. sink_task connector file.0.0 es g props file.0.1 (topic_named file.0.0 names.0) group)))

-- ---- each class

class_law : (connector : List ℕ) (props : Props) (class : Class) → Faultless props (row_of class) → AreTasks connector (configs_of_class props (row_of class)) (class_parts connector props class)
class_law connector props FileStreamSource good = stream_law connector props good
class_law connector props FileSetSource good = set_law connector props good
class_law connector props SequenceSource good = sequence_law connector props good
class_law connector props FileStreamSink good = sink_law connector props good

-- the tasks of properties without a fault
pub are_tasks : (connector : List ℕ) (props : Props) → IsFaultless props → AreTasks connector (task_configs props) (config_parts connector props)
are_tasks connector props none =
    let it = faultless props none in
    subst (λ o. AreTasks connector (option_map_or (λ class. configs_of_class props (row_of class)) o []) (option_map_or (class_parts connector props) o [])) (sym it.1) (class_law connector props it.0 it.2)

all_pairs : {X : Type 0} (R : X → X → Type 0) (xs : List X) → Pairs R xs → AllPairs R xs
all_pairs R [] all i j d below within = absurd (omega arith)
all_pairs R (x ∷ xs) all zero zero d below within = absurd (omega arith)
all_pairs R (x ∷ xs) all zero (suc j) d below within = All-from_recursion (R x) xs all.0 j d (omega arith)
all_pairs R (x ∷ xs) all (suc i) zero d below within = absurd (omega arith)
all_pairs R (x ∷ xs) all (suc i) (suc j) d below within = all_pairs R xs all.1 i j d (omega arith) (omega arith)

pub each_is_task : (connector : List ℕ) (props : Props) (configs : List Props) → IsFaultless props → configs ≡ task_configs props → All (λ config. IsSome (task_of connector config)) configs
each_is_task connector props configs none are =
    subst (λ them. All (λ config. IsSome (task_of connector config)) them) (sym are) (All-from_recursion (λ config. IsSome (task_of connector config)) (task_configs props) (are_tasks connector props none).each)

pub no_part_twice : (connector : List ℕ) (props : Props) (configs : List Props) → IsFaultless props → configs ≡ task_configs props → AllPairs (λ a b. ShareNone (parts_at connector a) (parts_at connector b)) configs
no_part_twice connector props configs none are =
    subst (λ them. AllPairs (λ a b. ShareNone (parts_at connector a) (parts_at connector b)) them) (sym are) (all_pairs (λ a b. ShareNone (parts_at connector a) (parts_at connector b)) (task_configs props) (are_tasks connector props none).apart)

pub nothing_left_out : (connector : List ℕ) (props : Props) (configs : List Props) → IsFaultless props → configs ≡ task_configs props → flat_map (parts_at connector) configs ≡ config_parts connector props
nothing_left_out connector props configs none are = ap (flat_map (parts_at connector)) are ∙ (are_tasks connector props none).whole

pub if_ok : {A E : Type 0} (r : Result A E) (P Q : A → Type 0) → ((x : A) → P x → Q x) → IfOk r P → IfOk r Q
if_ok (Ok x) P Q step h = step x h
if_ok (Err e) P Q step h = tt
