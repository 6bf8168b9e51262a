-- The items that are configured: just those stand in their list.
use Rattle.std.proofs.Common.{◌≡◌, ◌⊎◌, inl, inr, ℕ, ◌+◌, ◌==◌, ◌<◌, ◌≤◌, Bool, true, false, ◌&&◌, ◌||◌, cond, List, [], ◌∷◌, map, reverse, zero, suc, nat_lt, Option, Some, None, refl, sym, ap, ◌∙◌, subst, arith}
use Rattle.std.proofs.lemmas.Bool.{or_right, or_left, or_cases}
use Rattle.std.specs.Option.{is_some, option_and_then}
use Rattle.std.specs.Bool.{Decides}
use Rattle.std.specs.Str.{bytes_eq}
use Rattle.std.specs.List.{find, filter, filter_map, flat_map, cons_option, list_any, range_with_len}
use Rattle.std.proofs.lemmas.Bool.Decides.{nat_tests, Decides-eqb}
use Rattle.std.proofs.lemmas.Slice.Eq.{bytes_eq-Decides}
use Rattle.std.proofs.lemmas.List.{reverse-append}
use Rattle.std.proofs.lemmas.List.Folds.{list_any-append}
use Rattle.cw_types.specs.declared.ids.TaskId.{TaskId}
use Rattle.cw_types.specs.declared.ids.Item.{Item}
use Rattle.cw_types.specs.declared.ids.Item.TheVariants.{Connector, Task}
use Rattle.cw_assign.specs.Items.{has, same_item}
use Rattle.cw_assign.proofs.ItemLemmas.{same_item-Decides}
use Rattle.cw_group.proofs.GroupLemmas.{has-append}
use Rattle.cw_keys.specs.declared.config_key.ConfigKey.{ConfigKey}
use Rattle.cw_keys.specs.declared.config_key.ConfigKey.TheVariants as key
use Rattle.cw_keys.specs.declared.config_value.ConfigValue.{ConfigValue}
use Rattle.cw_config.specs.declared.records.ConfigRecord.{ConfigRecord}
use Rattle.cw_config.specs.Records.{same_key, has_key, last_of, value_of}
use Rattle.cw_config.specs.View.{Properties, properties_in, config_of, task_count_of}
use Rattle.cw_rest.specs.Seen.{connector_key}
use Rattle.cw_model.specs.Lookups.{items_of, configured_items, is_configured}
use Rattle.cw_laws.proofs.Held.{has-in_order}

-- ---- what a search says of what is among the elements

-- no element passes where none is found
pub find-none : {X : Type 0} (E : X → X → Bool) → ((a b : X) → Decides (E a b) (a ≡ b)) → (p : X → Bool) (xs : List X) (x : X) → find p xs ≡ None →
    list_any (λ y. E x y) xs ≡ true → p x ≡ false
find-none E decides p [] x none is = absurd (cc)
find-none E decides p (y ∷ ys) x none is = pick (p y) refl none (or_cases (E x y) (list_any (λ y. E x y) ys) is) (find-none E decides p ys x) where
  pick : (b : Bool) → p y ≡ b → cond b (Some y) (find p ys) ≡ None → (E x y ≡ true) ⊎ (list_any (λ y. E x y) ys ≡ true) →
      (find p ys ≡ None → list_any (λ y. E x y) ys ≡ true → p x ≡ false) → p x ≡ false
  pick true fails none is rest = absurd (cc)
  pick false fails none (inl here) rest = ap p ((decides x y).0 here) ∙ fails
  pick false fails none (inr there) rest = rest none there

-- an element that passes stays in a filter
pub any-filter : {X : Type 0} (E : X → X → Bool) → ((a b : X) → Decides (E a b) (a ≡ b)) → (p : X → Bool) (xs : List X) (x : X) → p x ≡ true →
    list_any (λ y. E x y) xs ≡ true → list_any (λ y. E x y) (filter p xs) ≡ true
any-filter E decides p [] x passes is = absurd (cc)
any-filter E decides p (y ∷ ys) x passes is = pick (p y) refl (or_cases (E x y) (list_any (λ y. E x y) ys) is) (any-filter E decides p ys x passes) where
  pick : (b : Bool) → p y ≡ b → (E x y ≡ true) ⊎ (list_any (λ y. E x y) ys ≡ true) → (list_any (λ y. E x y) ys ≡ true → list_any (λ y. E x y) (filter p ys) ≡ true) →
      list_any (λ y. E x y) (cond b (y ∷ filter p ys) (filter p ys)) ≡ true
  pick true here (inl same) rest = or_left (E x y) (list_any (λ y. E x y) (filter p ys)) same
  pick true here (inr there) rest = or_right (E x y) (list_any (λ y. E x y) (filter p ys)) (rest there)
  pick false fails (inl same) rest = absurd (let passes' : p y ≡ true = ap p (sym ((decides x y).0 same)) ∙ passes in cc)
  pick false fails (inr there) rest = rest there

any-reverse : {X : Type 0} (p : X → Bool) (xs : List X) → list_any p (reverse xs) ≡ list_any p xs
any-reverse p [] = refl
any-reverse p (x ∷ xs) = ap (list_any p) (reverse-append (x ∷ []) xs) ∙ list_any-append p (reverse xs) (x ∷ []) ∙ ap (λ b. b || (p x || false)) (any-reverse p xs) ∙ swap (list_any p xs) (p x) where
  swap : (a b : Bool) → (a || (b || false)) ≡ (b || a)
  swap true true = refl
  swap true false = refl
  swap false true = refl
  swap false false = refl

any-found : {X : Type 0} (p : X → Bool) (xs : List X) → is_some (find p xs) ≡ list_any p xs
any-found p [] = refl
any-found p (x ∷ xs) = pick (p x) (any-found p xs) where
  pick : (b : Bool) → is_some (find p xs) ≡ list_any p xs → is_some (cond b (Some x) (find p xs)) ≡ (b || list_any p xs)
  pick true rest = refl
  pick false rest = rest

-- ---- a connector that is configured has a record of its name

abbrev named : List ℕ → List ℕ → Bool
named name other = bytes_eq name other

some-record : (f : ConfigValue → Option Properties) (o : Option ConfigRecord) → is_some (option_and_then f (value_of o)) ≡ true → is_some o ≡ true
some-record f None is = absurd (cc)
some-record f (Some r) is = refl

flip-name : (a b : List ℕ) → bytes_eq a b ≡ true → bytes_eq b a ≡ true
flip-name a b is = (bytes_eq-Decides b a).1 (sym ((bytes_eq-Decides a b).0 is))

key-named : (name : List ℕ) (k : ConfigKey) (rest : List (List ℕ)) → same_key k (key.Connector name) ≡ true → list_any (named name) (cons_option (connector_key k) rest) ≡ true
key-named name (key.Connector a) rest is = or_left (bytes_eq name a) (list_any (named name) rest) (flip-name a name is)
key-named name (key.Task a) rest is = absurd (cc)
key-named name (key.Commit a) rest is = absurd (cc)
key-named name (key.Target a) rest is = absurd (cc)
key-named name (key.Fencing a) rest is = absurd (cc)

still-named : (name : List ℕ) (o : Option (List ℕ)) (rest : List (List ℕ)) → list_any (named name) rest ≡ true → list_any (named name) (cons_option o rest) ≡ true
still-named name None rest is = is
still-named name (Some a) rest is = or_right (bytes_eq name a) (list_any (named name) rest) is

record-named : (name : List ℕ) (records : List ConfigRecord) → list_any (has_key (key.Connector name)) records ≡ true →
    list_any (named name) (filter_map (λ r. connector_key r.key) records) ≡ true
record-named name [] is = absurd (cc)
record-named name (r ∷ records) is = pick (or_cases (has_key (key.Connector name) r) (list_any (has_key (key.Connector name)) records) is) (record-named name records) where
  pick : (has_key (key.Connector name) r ≡ true) ⊎ (list_any (has_key (key.Connector name)) records ≡ true) →
      (list_any (has_key (key.Connector name)) records ≡ true → list_any (named name) (filter_map (λ r. connector_key r.key) records) ≡ true) →
      list_any (named name) (cons_option (connector_key r.key) (filter_map (λ r. connector_key r.key) records)) ≡ true
  pick (inl here) so = key-named name r.key (filter_map (λ r. connector_key r.key) records) here
  pick (inr there) so = still-named name (connector_key r.key) (filter_map (λ r. connector_key r.key) records) (so there)

module _ (records : List ConfigRecord) where
  abbrev configured : List ℕ → Bool
  configured name = is_some (config_of name records)

  abbrev names : List (List ℕ)
  names = filter configured (filter_map (λ r. connector_key r.key) records)

  configured-named : (name : List ℕ) → configured name ≡ true → list_any (named name) names ≡ true
  configured-named name is =
      let some : is_some (last_of (key.Connector name) records) ≡ true = some-record properties_in (last_of (key.Connector name) records) is in
      let any : list_any (has_key (key.Connector name)) records ≡ true =
      sym (any-reverse (has_key (key.Connector name)) records) ∙ sym (any-found (has_key (key.Connector name)) (reverse records)) ∙ some in
      any-filter (λ a b. bytes_eq a b) bytes_eq-Decides configured (filter_map (λ r. connector_key r.key) records) name is (record-named name records any)

  -- ---- its items stand in the list

  abbrev task_at : List ℕ → ℕ → Item
  task_at name n = Task (record { connector = name; index = n })

  abbrev tasks : List ℕ → (from count : ℕ) → List Item
  tasks name from count = map (λ index. Task (record { connector = name; index = index })) (range_with_len from count)

  -- a task whose number is one of some
  has-task : (name : List ℕ) (from count index : ℕ) → from ≤ index → index < from + count → has (tasks name from count) (Task (record { connector = name; index = index })) ≡ true
  has-task name from zero index low high = absurd (omega arith)
  has-task name from (suc count) index low high = pick (from == index) refl (has-task name (from + 1) count index) where
    pick : (b : Bool) → (from == index) ≡ b → (from + 1 ≤ index → index < from + 1 + count → has (tasks name (from + 1) count) (task_at name index) ≡ true) →
        (same_item (task_at name index) (task_at name from) || has (tasks name (from + 1) count) (task_at name index)) ≡ true
    pick true is rest = or_left (same_item (task_at name index) (task_at name from)) (has (tasks name (from + 1) count) (task_at name index)) ((same_item-Decides (task_at name index) (task_at name from)).1 (ap (task_at name) (sym ((Decides-eqb from index).0 is))))
    pick false is rest = or_right (same_item (task_at name index) (task_at name from)) (has (tasks name (from + 1) count) (task_at name index)) (rest (apart is) (omega (arith, high))) where
      apart : (from == index) ≡ false → from + 1 ≤ index
      apart is = grind (arith, nat_tests, low)

  in-names : (x : Item) (name : List ℕ) (list : List (List ℕ)) → list_any (named name) list ≡ true → has (items_of records name) x ≡ true → has (flat_map (items_of records) list) x ≡ true
  in-names x name [] any is = absurd (cc)
  in-names x name (a ∷ list) any is =
      has-append (items_of records a) (flat_map (items_of records) list) x ∙ pick (or_cases (bytes_eq name a) (list_any (named name) list) any) (in-names x name list) where
        pick : (bytes_eq name a ≡ true) ⊎ (list_any (named name) list ≡ true) → (list_any (named name) list ≡ true → has (items_of records name) x ≡ true → has (flat_map (items_of records) list) x ≡ true) →
            (has (items_of records a) x || has (flat_map (items_of records) list) x) ≡ true
        pick (inl here) rest = or_left (has (items_of records a) x) (has (flat_map (items_of records) list) x)
            (subst (λ (n : List ℕ). has (items_of records n) x ≡ true) ((bytes_eq-Decides name a).0 here) is)
        pick (inr there) rest = or_right (has (items_of records a) x) (has (flat_map (items_of records) list) x) (rest there is)

  -- the items of a connector that is configured
  pub items-configured : (name : List ℕ) (x : Item) → configured name ≡ true → has (items_of records name) x ≡ true → has (configured_items records) x ≡ true
  items-configured name x is there = has-in_order x (flat_map (items_of records) names) ∙ in-names x name names (configured-named name is) there

  pub connector-listed : (name : List ℕ) → configured name ≡ true → has (configured_items records) (Connector name) ≡ true
  connector-listed name is = items-configured name (Connector name) is
      (or_left (same_item (Connector name) (Connector name)) (has (tasks name 0 (task_count_of name records)) (Connector name)) ((same_item-Decides (Connector name) (Connector name)).1 refl))

  -- ---- what stands in the list is configured

  task-number : (name : List ℕ) (from count : ℕ) (x : Item) → has (tasks name from count) x ≡ true → configured name ≡ true → from + count ≤ task_count_of name records → is_configured records x ≡ true
  task-number name from zero x is there most = absurd (cc)
  task-number name from (suc count) x is there most = pick (or_cases (same_item x (task_at name from)) (has (tasks name (from + 1) count) x) is) (task-number name (from + 1) count x) where
    below : (a b : ℕ) → a < b → nat_lt a b ≡ true
    below a b lt = grind (arith, nat_tests, lt)

    pick : (same_item x (task_at name from) ≡ true) ⊎ (has (tasks name (from + 1) count) x ≡ true) →
        (has (tasks name (from + 1) count) x ≡ true → configured name ≡ true → from + 1 + count ≤ task_count_of name records → is_configured records x ≡ true) → is_configured records x ≡ true
    pick (inl here) rest = subst (λ (y : Item). is_configured records y ≡ true) (sym ((same_item-Decides x (task_at name from)).0 here))
        (ap (λ b. b && nat_lt from (task_count_of name records)) there ∙ below from (task_count_of name records) (omega (arith, most)))
    pick (inr behind) rest = rest behind there (omega (arith, most))

  of-connector : (name : List ℕ) (x : Item) → configured name ≡ true → has (items_of records name) x ≡ true → is_configured records x ≡ true
  of-connector name x there is = pick (or_cases (same_item x (Connector name)) (has (tasks name 0 (task_count_of name records)) x) is) where
    pick : (same_item x (Connector name) ≡ true) ⊎ (has (tasks name 0 (task_count_of name records)) x ≡ true) → is_configured records x ≡ true
    pick (inl here) = subst (λ (y : Item). is_configured records y ≡ true) (sym ((same_item-Decides x (Connector name)).0 here)) there
    pick (inr task) = task-number name 0 (task_count_of name records) x task there (omega arith)

  of-names : (x : Item) (list : List (List ℕ)) → has (flat_map (items_of records) (filter configured list)) x ≡ true → is_configured records x ≡ true
  of-names x [] is = absurd (cc)
  of-names x (a ∷ list) is = pick (configured a) refl is (of-names x list) where
    pick : (b : Bool) → configured a ≡ b → has (flat_map (items_of records) (cond b (a ∷ filter configured list) (filter configured list))) x ≡ true →
        (has (flat_map (items_of records) (filter configured list)) x ≡ true → is_configured records x ≡ true) → is_configured records x ≡ true
    pick false there is rest = rest is
    pick true there is rest = elim (or_cases (has (items_of records a) x) (has (flat_map (items_of records) (filter configured list)) x)
        (sym (has-append (items_of records a) (flat_map (items_of records) (filter configured list)) x) ∙ is)) [
          | inl here ↦ of-connector a x there here
          | inr behind ↦ rest behind
        ]

  pub listed-configured : (x : Item) → has (configured_items records) x ≡ true → is_configured records x ≡ true
  listed-configured x is = of-names x (filter_map (λ r. connector_key r.key) records) (sym (has-in_order x (flat_map (items_of records) names)) ∙ is)

  pub task-listed : (id : TaskId) → configured id.connector ≡ true → id.index < task_count_of id.connector records → has (configured_items records) (Task id) ≡ true
  task-listed id is below = items-configured id.connector (Task id) is
      (or_right (same_item (Task id) (Connector id.connector)) (has (tasks id.connector 0 (task_count_of id.connector records)) (Task id))
      (has-task id.connector 0 (task_count_of id.connector records) id.index (omega arith) (omega (arith, below))))
