-- The items of the connectors that a view lists are the configured ones.
use Rattle.std.proofs.Common.{◌≡◌, ℕ, Bool, true, false, ◌||◌, ◌&&◌, cond, List, [], ◌∷◌, Option, None, Some, refl, ap, sym, subst, ◌∙◌, true≢false}
use Rattle.std.specs.Option.{is_some, option_and_then, option_or}
use Rattle.std.specs.List.{filter, filter_map, flat_map, cons_option, list_any}
use Rattle.std.specs.Cmp.{both_ways}
use Rattle.std.specs.Cmp.Lexicographic.{nat_list_cmp_total}
use Rattle.std.specs.Ordering.{eq_by_cmp, is_eq}
use Rattle.std.specs.declared.cmp.Ordering.TheVariants.{Equal}
use Rattle.std.proofs.lemmas.Cmp.{eq_by_cmp_equiv}
use Rattle.std.proofs.lemmas.List.Folds.{list_any-append}
use Rattle.std.proofs.lemmas.Map.Text.{is_eq-slice_cmp}
use Rattle.std.proofs.lemmas.Map.Views.{Contains-from_any, list_any-from_Contains, any-filter_same}
use Rattle.std.proofs.lemmas.Slice.Eq.{bytes_eq-Decides}
use Rattle.cw_types.specs.declared.ids.Item.{Item}
use Rattle.cw_types.specs.declared.ids.Item.TheVariants.{Connector, Task}
use Rattle.cw_types.specs.Order.{name_cmp, item_cmp}
use Rattle.cw_types.proofs.ItemOrder.{item_total}
use Rattle.cw_types.proofs.Sorted.{same_fold}
use Rattle.cw_assign.specs.Items.{has, same_item, in_order}
use Rattle.cw_assign.proofs.ItemLemmas.{same_item-Decides}
use Rattle.cw_keys.specs.declared.config_key.ConfigKey.{ConfigKey}
use Rattle.cw_keys.specs.declared.config_key.ConfigKey.TheVariants as key
use Rattle.cw_config.specs.declared.records.ConfigRecord.{ConfigRecord}
use Rattle.cw_config.specs.Records.{has_key, last_of, value_of}
use Rattle.cw_config.specs.View.{properties_in, config_of}
use Rattle.cw_config.specs.Connectors.{AreConnectors}
use Rattle.cw_config.proofs.Rising.{last_where-cons}
use Rattle.cw_rest.specs.Seen.{connector_key}
use Rattle.cw_model.specs.Lookups.{items_of, configured_items}
use Rattle.std.proofs.lemmas.Bool.{or_right}

-- ---- items that compare as equal are one

one-item : (a b : Item) → item_cmp a b ≡ Equal → a ≡ b
one-item a b is = (same_item-Decides a b).0 (ap is_eq is)

-- ---- the names of the configured connectors

one-name : (x y : List ℕ) → name_cmp x y ≡ Equal → x ≡ y
one-name x y is = (bytes_eq-Decides x y).0 (sym (is_eq-slice_cmp x y) ∙ ap is_eq is)

named : (x y : List ℕ) → eq_by_cmp name_cmp x y ≡ true → x ≡ y
named x y is = (bytes_eq-Decides x y).0 (sym (is_eq-slice_cmp x y) ∙ is)

abbrev keys : List ConfigRecord → List (List ℕ)
keys records = filter_map (λ (r : ConfigRecord). connector_key r.key) records

cons-has : (name : List ℕ) (o : Option (List ℕ)) (names : List (List ℕ)) → list_any (eq_by_cmp name_cmp name) names ≡ true
    → list_any (eq_by_cmp name_cmp name) (cons_option o names) ≡ true
cons-has name None names there = there
cons-has name (Some other) names there = either (eq_by_cmp name_cmp name other) there
  where
    either : (b : Bool) → list_any (eq_by_cmp name_cmp name) names ≡ true → (b || list_any (eq_by_cmp name_cmp name) names) ≡ true
    either true more = refl
    either false more = more

key-has : (name : List ℕ) (k : ConfigKey) (names : List (List ℕ)) → has_key (key.Connector name) (record { offset = 0; stamp = 0; key = k; value = None }) ≡ true
    → list_any (eq_by_cmp name_cmp name) (cons_option (connector_key k) names) ≡ true
key-has name (key.Connector own) names is =
    let one : own ≡ name = (bytes_eq-Decides own name).0 is in
    subst (λ (n : List ℕ). (eq_by_cmp name_cmp n own || list_any (eq_by_cmp name_cmp n) names) ≡ true) one
    (ap (λ (b : Bool). b || list_any (eq_by_cmp name_cmp own) names) (is_eq-slice_cmp own own ∙ (bytes_eq-Decides own own).1 refl))
key-has name (key.Task id) names is = absurd (true≢false (sym is))
key-has name (key.Commit own) names is = absurd (true≢false (sym is))
key-has name (key.Target own) names is = absurd (true≢false (sym is))
key-has name (key.Fencing own) names is = absurd (true≢false (sym is))

found : (name : List ℕ) (r : ConfigRecord) (records : List ConfigRecord) (b : Bool) (o : Option ConfigRecord) → has_key (key.Connector name) r ≡ b
    → (is_some o ≡ true → list_any (eq_by_cmp name_cmp name) (keys records) ≡ true) → is_some (option_or o (cond b (Some r) None)) ≡ true
    → list_any (eq_by_cmp name_cmp name) (keys (r ∷ records)) ≡ true
found name r records true o is more some = key-has name r.key (keys records) is
found name r records false (Some other) is more some = cons-has name (connector_key r.key) (keys records) (more refl)
found name r records false None is more some = absurd (true≢false (sym some))

last-has : (name : List ℕ) (records : List ConfigRecord) → is_some (last_of (key.Connector name) records) ≡ true → list_any (eq_by_cmp name_cmp name) (keys records) ≡ true
last-has name [] some = absurd (true≢false (sym some))
last-has name (r ∷ records) some =
    found name r records (has_key (key.Connector name) r) (last_of (key.Connector name) records) refl (last-has name records)
    (ap is_some (sym (last_where-cons (has_key (key.Connector name)) r records)) ∙ some)

read-there : (o : Option ConfigRecord) → is_some (option_and_then properties_in (value_of o)) ≡ true → is_some o ≡ true
read-there None some = absurd (true≢false (sym some))
read-there (Some r) some = refl

there-has : (b c : Bool) → (b ≡ true → c ≡ true) → b ≡ (b && c)
there-has true c also = sym (also refl)
there-has false c also = refl

module _ (records : List ConfigRecord) where
  abbrev is_configured : List ℕ → Bool
  is_configured name = is_some (config_of name records)

  abbrev written : List (List ℕ)
  written = filter is_configured (keys records)

  listed : (name : List ℕ) → is_configured name ≡ list_any (eq_by_cmp name_cmp name) written
  listed name =
      there-has (is_configured name) (list_any (eq_by_cmp name_cmp name) (keys records))
      (λ there. last-has name records (read-there (last_of (key.Connector name) records) there))
      ∙ sym (any-filter_same (eq_by_cmp name_cmp name) is_configured (is_configured name)
      (λ own is. ap is_configured (sym (named name own is))) (keys records))

  -- each name stands in both lists or in neither
  alike : (names : List (List ℕ)) → AreConnectors records names → (name : List ℕ)
      → list_any (eq_by_cmp name_cmp name) names ≡ list_any (eq_by_cmp name_cmp name) written
  alike names are name =
      both_ways (list_any (eq_by_cmp name_cmp name) names) (is_configured name)
      (λ within. (are.each name).0 (Contains-from_any named name names within))
      (λ there. list_any-from_Contains (eq_by_cmp_equiv nat_list_cmp_total) name names ((are.each name).1 there))
      ∙ listed name

-- ---- their items

-- what holds of an element of one list holds of one of the other
any-alike : (P : List ℕ → Bool) (xs ys : List (List ℕ))
    → ((name : List ℕ) → list_any (eq_by_cmp name_cmp name) xs ≡ true → list_any (eq_by_cmp name_cmp name) ys ≡ true)
    → list_any P xs ≡ true → list_any P ys ≡ true
any-alike P [] ys within is = absurd (true≢false (sym is))
any-alike P (x ∷ xs) ys within is = pick (P x) refl is (any-alike P xs ys (λ name there. within name (or_right (eq_by_cmp name_cmp name x) (list_any (eq_by_cmp name_cmp name) xs) there))) where
  there : (zs : List (List ℕ)) → P x ≡ true → list_any (eq_by_cmp name_cmp x) zs ≡ true → list_any P zs ≡ true
  there [] holds at = absurd (true≢false (sym at))
  there (z ∷ zs) holds at = here (eq_by_cmp name_cmp x z) refl at (there zs holds) where
    here : (b : Bool) → eq_by_cmp name_cmp x z ≡ b → (b || list_any (eq_by_cmp name_cmp x) zs) ≡ true → (list_any (eq_by_cmp name_cmp x) zs ≡ true → list_any P zs ≡ true)
        → (P z || list_any P zs) ≡ true
    here true one at rest = ap (λ (b : Bool). b || list_any P zs) (ap P (sym (named x z one)) ∙ holds)
    here false other at rest = or_right (P z) (list_any P zs) (rest at)

  itself : eq_by_cmp name_cmp x x ≡ true
  itself = is_eq-slice_cmp x x ∙ (bytes_eq-Decides x x).1 refl

  pick : (b : Bool) → P x ≡ b → (b || list_any P xs) ≡ true → (list_any P xs ≡ true → list_any P ys ≡ true) → list_any P ys ≡ true
  pick true holds is rest = there ys holds (within x (ap (λ (b : Bool). b || list_any (eq_by_cmp name_cmp x) xs) itself))
  pick false fails is rest = rest is

has-items : (f : List ℕ → List Item) (x : Item) (names : List (List ℕ)) → has (flat_map f names) x ≡ list_any (λ name. has (f name) x) names
has-items f x [] = refl
has-items f x (name ∷ names) =
    list_any-append (λ y. same_item x y) (f name) (flat_map f names) ∙ ap (λ (b : Bool). has (f name) x || b) (has-items f x names)

-- the items of the connectors that are listed, put in order, are the configured ones
pub listed_items : (records : List ConfigRecord) (names : List (List ℕ)) → AreConnectors records names
    → in_order (flat_map (items_of records) names) ≡ configured_items records
listed_items records names are =
    same_fold item_cmp item_total one-item (flat_map (items_of records) names) (flat_map (items_of records) (written records)) (λ x.
    has-items (items_of records) x names
    ∙ both_ways (list_any (λ name. has (items_of records name) x) names) (list_any (λ name. has (items_of records name) x) (written records))
    (any-alike (λ name. has (items_of records name) x) names (written records) (λ name there. sym (alike records names are name) ∙ there))
    (any-alike (λ name. has (items_of records name) x) (written records) names (λ name there. alike records names are name ∙ there))
    ∙ sym (has-items (items_of records) x (written records)))
