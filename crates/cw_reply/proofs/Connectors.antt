-- The connectors that a view lists are those that the definition of a reply lists.
use Rattle.std.proofs.Common.{◌≡◌, ℕ, Bool, true, false, ◌||◌, ◌&&◌, cond, List, [], ◌∷◌, Option, None, Some, refl, ap, sym, subst, ◌∙◌, true≢false}
use Rattle.std.specs.Option.{is_some, option_and_then, option_or}
use Rattle.std.specs.List.{filter, filter_map, cons_option, list_any}
use Rattle.std.specs.Cmp.{both_ways}
use Rattle.std.specs.Cmp.Lexicographic.{nat_list_cmp_total}
use Rattle.std.specs.Ordering.{eq_by_cmp, is_eq}
use Rattle.std.specs.declared.cmp.Ordering.TheVariants.{Equal}
use Rattle.std.proofs.lemmas.Cmp.{eq_by_cmp_equiv}
use Rattle.std.proofs.lemmas.Map.Text.{is_eq-slice_cmp}
use Rattle.std.proofs.lemmas.Map.Views.{Contains-from_any, list_any-from_Contains, any-filter_same}
use Rattle.std.proofs.lemmas.Slice.Eq.{bytes_eq-Decides}
use Rattle.cw_types.specs.Order.{name_cmp}
use Rattle.cw_keys.specs.declared.config_key.ConfigKey.{ConfigKey}
use Rattle.cw_keys.specs.declared.config_key.ConfigKey.TheVariants.{Connector, Task, Commit, Target, Fencing}
use Rattle.cw_config.specs.declared.records.ConfigRecord.{ConfigRecord}
use Rattle.cw_config.specs.Records.{has_key, last_of, value_of}
use Rattle.cw_config.specs.View.{properties_in}
use Rattle.cw_config.specs.Connectors.{AreConnectors}
use Rattle.cw_config.proofs.Rising.{last_where-cons}
use Rattle.cw_rest.specs.Seen.{Seen, is_connector, connector_key, connectors_in}
use Rattle.cw_types.proofs.Sorted.{has, sorted}

pub one_name : (x y : List ℕ) → name_cmp x y ≡ Equal → x ≡ y
one_name x y is = (bytes_eq-Decides x y).0 (sym (is_eq-slice_cmp x y) ∙ ap is_eq is)

pub named : (x y : List ℕ) → eq_by_cmp name_cmp x y ≡ true → x ≡ y
named x y is = (bytes_eq-Decides x y).0 (sym (is_eq-slice_cmp x y) ∙ is)

-- the keys of configs
abbrev keys : List ConfigRecord → List (List ℕ)
keys records = filter_map (λ (r : ConfigRecord). connector_key r.key) records

cons_has : (name : List ℕ) (o : Option (List ℕ)) (names : List (List ℕ)) → list_any (eq_by_cmp name_cmp name) names ≡ true
    → list_any (eq_by_cmp name_cmp name) (cons_option o names) ≡ true
cons_has name None names has = has
cons_has name (Some other) names has = either (eq_by_cmp name_cmp name other) has
  where
    either : (b : Bool) → list_any (eq_by_cmp name_cmp name) names ≡ true → (b || list_any (eq_by_cmp name_cmp name) names) ≡ true
    either true more = refl
    either false more = more

key_has : (name : List ℕ) (key : ConfigKey) (names : List (List ℕ)) → has_key (Connector name) (record { offset = 0; stamp = 0; key = key; value = None }) ≡ true
    → list_any (eq_by_cmp name_cmp name) (cons_option (connector_key key) names) ≡ true
key_has name (Connector own) names is =
    let one : own ≡ name = (bytes_eq-Decides own name).0 is in
    subst (λ (n : List ℕ). (eq_by_cmp name_cmp n own || list_any (eq_by_cmp name_cmp n) names) ≡ true) one
    (ap (λ (b : Bool). b || list_any (eq_by_cmp name_cmp own) names) (is_eq-slice_cmp own own ∙ (bytes_eq-Decides own own).1 refl))
key_has name (Task id) names is = absurd (true≢false (sym is))
key_has name (Commit own) names is = absurd (true≢false (sym is))
key_has name (Target own) names is = absurd (true≢false (sym is))
key_has name (Fencing own) names is = absurd (true≢false (sym is))

found : (name : List ℕ) (r : ConfigRecord) (records : List ConfigRecord) (b : Bool) (o : Option ConfigRecord) → has_key (Connector name) r ≡ b
    → (is_some o ≡ true → list_any (eq_by_cmp name_cmp name) (keys records) ≡ true) → is_some (option_or o (cond b (Some r) None)) ≡ true
    → list_any (eq_by_cmp name_cmp name) (keys (r ∷ records)) ≡ true
found name r records true o is more some = key_has name r.key (keys records) is
found name r records false (Some other) is more some = cons_has name (connector_key r.key) (keys records) (more refl)
found name r records false None is more some = absurd (true≢false (sym some))

last_has : (name : List ℕ) (records : List ConfigRecord) → is_some (last_of (Connector name) records) ≡ true → list_any (eq_by_cmp name_cmp name) (keys records) ≡ true
last_has name [] some = absurd (true≢false (sym some))
last_has name (r ∷ records) some =
    found name r records (has_key (Connector name) r) (last_of (Connector name) records) refl (last_has name records)
    (ap is_some (sym (last_where-cons (has_key (Connector name)) r records)) ∙ some)

read_there : (o : Option ConfigRecord) → is_some (option_and_then properties_in (value_of o)) ≡ true → is_some o ≡ true
read_there None some = absurd (true≢false (sym some))
read_there (Some r) some = refl

there_has : (b c : Bool) → (b ≡ true → c ≡ true) → b ≡ (b && c)
there_has true c has = sym (has refl)
there_has false c has = refl

listed : (seen : Seen) (name : List ℕ)
    → is_connector name seen ≡ list_any (eq_by_cmp name_cmp name) (filter (λ own. is_connector own seen) (keys seen.configs))
listed seen name =
    there_has (is_connector name seen) (list_any (eq_by_cmp name_cmp name) (keys seen.configs))
    (λ there. last_has name seen.configs (read_there (last_of (Connector name) seen.configs) there))
    ∙ sym (any-filter_same (eq_by_cmp name_cmp name) (λ own. is_connector own seen) (is_connector name seen)
    (λ own is. ap (λ (n : List ℕ). is_connector n seen) (sym (named name own is))) (keys seen.configs))

pub are_listed : (seen : Seen) (names : List (List ℕ)) → AreConnectors seen.configs names → names ≡ connectors_in seen
are_listed seen names are =
    sorted name_cmp nat_list_cmp_total one_name names (filter (λ own. is_connector own seen) (keys seen.configs)) are.rising
    (λ name. both_ways (list_any (eq_by_cmp name_cmp name) names) (is_connector name seen)
    (λ within. (are.each name).0 (Contains-from_any named name names within))
    (λ there. list_any-from_Contains (eq_by_cmp_equiv nat_list_cmp_total) name names ((are.each name).1 there))
    ∙ listed seen name)
