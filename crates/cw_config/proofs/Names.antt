-- The configured connectors as a list.
use Rattle.std.proofs.Common.{◌≡◌, ℕ, Bool, true, false, ◌&&◌, cond, List, [], ◌∷◌, ◌++◌, map, Bor, Option, None, Some, Contains, refl, ap, sym, subst, ◌∙◌}
use Rattle.std.specs.Option.{is_some, option_map, option_and_then, unwrap_or}
use Rattle.std.specs.List.{filter, list_any}
use Rattle.std.specs.List.Sorted.{IsStrictlySortedBy}
use Rattle.std.specs.Str.{bytes_eq}
use Rattle.std.specs.Ordering.{eq_by_cmp}
use Rattle.std.specs.BTreeMap.{BTreeMap, IsOrdered, get, keys}
use Rattle.std.specs.Cmp.Lexicographic.{nat_list_cmp_total}
use Rattle.std.specs.Map.Iter.{deref}
use Rattle.std.proofs.lemmas.Cmp.{eq_by_cmp_equiv}
use Rattle.std.proofs.lemmas.List.{map-append, append-nil}
use Rattle.std.proofs.lemmas.List.Elements.{filter-append}
use Rattle.std.proofs.lemmas.List.Kept.{IsStrictlySortedBy-filter}
use Rattle.std.proofs.lemmas.Map.Made.{is_some-lookup}
use Rattle.std.proofs.lemmas.Map.Text.{is_eq-slice_cmp}
use Rattle.std.proofs.lemmas.Map.Views.{Contains-from_any, list_any-from_Contains, any-filter_same}
use Rattle.std.proofs.lemmas.Slice.Eq.{bytes_eq-Decides}
use Rattle.cw_types.specs.Order.{name_cmp}
use Rattle.cw_config.specs.declared.records.ConfigRecord.{ConfigRecord}
use Rattle.cw_config.specs.declared.tables.Stored.{Stored}
use Rattle.cw_config.specs.declared.tables.Tables.{Tables}
use Rattle.cw_config.specs.Connectors.{AreConnectors}
use Rattle.cw_config.specs.View.{properties_in, config_of}
use Rattle.cw_config.specs.Tables.{Keeps, value_in, named_at}
use Rattle.cw_config.proofs.Looks.{config_kept}

same_names : (x y : List ℕ) → eq_by_cmp name_cmp x y ≡ true → x ≡ y
same_names x y e = (bytes_eq-Decides x y).0 (sym (is_eq-slice_cmp x y) ∙ e)

-- a row with a config is there
there : (o : Option (Option Stored)) → (is_some (option_and_then properties_in (value_in (unwrap_or o None))) && is_some o) ≡ is_some (option_and_then properties_in (value_in (unwrap_or o None)))
there None = refl
there (Some row) = and_true (is_some (option_and_then properties_in (value_in row)))
  where
    and_true : (b : Bool) → (b && true) ≡ b
    and_true true = refl
    and_true false = refl

-- whether a name is configured
abbrev pub configured : List ConfigRecord → List ℕ → Bool
configured records name = is_some (config_of name records)

pub some_mapped : {A B : Type 0} (f : A → B) (o : Option A) → is_some (option_map f o) ≡ is_some o
some_mapped f None = refl
some_mapped f (Some x) = refl

pub none_more : (records : List ConfigRecord) (names : List (Bor (List ℕ))) (name : Bor (List ℕ)) → configured records name.now ≡ false
    → filter (configured records) (map deref names) ≡ filter (configured records) (map deref (names ++ name ∷ []))
none_more records names name fails =
    sym (ap (filter (configured records)) (map-append deref names (name ∷ []))
    ∙ filter-append (configured records) (map deref names) (name.now ∷ [])
    ∙ ap (λ (b : Bool). filter (configured records) (map deref names) ++ cond b (name.now ∷ []) []) fails
    ∙ append-nil (filter (configured records) (map deref names)))

module _ (tables : Tables) (records : List ConfigRecord) (kept : Keeps tables records) where
  among : (name : List ℕ) → list_any (eq_by_cmp name_cmp name) (filter (configured records) (keys tables.connectors)) ≡ configured records name
  among name =
      any-filter_same (eq_by_cmp name_cmp name) (configured records) (configured records name) (λ k e. ap (configured records) (sym (same_names name k e))) (keys tables.connectors)
      ∙ ap (λ (b : Bool). configured records name && b) (sym (is_some-lookup (eq_by_cmp name_cmp name) tables.connectors.entries))
      ∙ ap (λ o. is_some o && is_some (get name_cmp tables.connectors name)) (sym (config_kept tables records kept name))
      ∙ there (get name_cmp tables.connectors name)
      ∙ ap is_some (config_kept tables records kept name)

  pub are_connectors : (names : List (List ℕ)) → IsOrdered name_cmp tables.connectors → names ≡ filter (configured records) (keys tables.connectors) → AreConnectors records names
  are_connectors names ordered listed = subst (AreConnectors records) (sym listed) (record {
    rising = IsStrictlySortedBy-filter name_cmp (configured records) (keys tables.connectors) ordered;
    each = λ name. (
      λ (within : Contains (filter (configured records) (keys tables.connectors)) name).
          sym (among name) ∙ list_any-from_Contains (eq_by_cmp_equiv nat_list_cmp_total) name (filter (configured records) (keys tables.connectors)) within,
      λ is. Contains-from_any same_names name (filter (configured records) (keys tables.connectors)) (among name ∙ is),
    );
  })
