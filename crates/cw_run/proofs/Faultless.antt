-- A config that its class takes with feeds that are loaded has no fault, since loaded feeds have names.
use Rattle.std.proofs.Common.{◌≡◌, ℕ, ◌||◌, ◌∷◌, [], Bool, true, false, List, Option, Some, None, option_map, Ok, bytes_eq, codes, if◌then◌else◌, refl, subst}
use Rattle.std.specs.List.{AllByRecursion}
use Rattle.std.proofs.lemmas.Slice.Eq.{bytes_eq-Decides}
use Rattle.cw_types.specs.Name.{IsName, name_fault}
use Rattle.cw_json.specs.Pairs.{value_in}
use Rattle.cw_plugin.specs.declared.class.Class.{Class}
use Rattle.cw_plugin.specs.declared.class.Field.{Field}
use Rattle.cw_plugin.specs.declared.class.Field.TheVariants.{Feed, Feeds, Sequences, Count, Topic, Outlet, Topics}
use Rattle.cw_plugin.specs.declared.fault.PluginFault.{PluginFault}
use Rattle.cw_plugin.specs.declared.fault.PluginFault.TheVariants.{Missing, BadInt, NoFeed, BadName}
use Rattle.cw_plugin.specs.Checks.{is_name, is_among, first_failing, missing_key, bad_number, or_text, value_feed_lacking, feed_lacking, bad_key, is_bad_name, or_fault, fault_of_class, unless_faulty, class_unless, class_called, checked}
use Rattle.cw_plugin.specs.Classes.{ClassRow, row_of, class_of, key_of}
use Rattle.cw_plugin.specs.Lists.{elements}
use Rattle.cw_plugin.specs.Tasks.{IsFaultless}
use Rattle.cw_plugin.proofs.FaultlessLemmas.{faultless_from}

abbrev Props : Type 0
Props = List (List ℕ × List ℕ)

module _ (feeds : List (List ℕ)) (named : AllByRecursion IsName feeds) where
  -- what is among the feeds is a name
  among-named : (fs : List (List ℕ)) (text : List ℕ) → AllByRecursion IsName fs → is_among fs text ≡ true → is_name text ≡ true
  among-named [] text each among = absurd (let never : false ≡ true = among in cc)
  among-named (f ∷ fs) text each among = at (bytes_eq f text) refl among (among-named fs text each.1) where
    at : (b : Bool) → bytes_eq f text ≡ b → (b || is_among fs text) ≡ true → (is_among fs text ≡ true → is_name text ≡ true) → is_name text ≡ true
    at true same is later =
        let equal : f ≡ text = (bytes_eq-Decides f text).0 same in
        let good : name_fault text ≡ None = subst (λ t. name_fault t ≡ None) equal each.0 in
        rw good refl
    at false other is later = later is

  none-failing : (es : List (List ℕ)) → first_failing (is_among feeds) es ≡ None → first_failing is_name es ≡ None
  none-failing [] none = refl
  none-failing (e ∷ es) none = at (is_among feeds e) refl none (none-failing es) where
    at : (b : Bool) → is_among feeds e ≡ b → (if b then first_failing (is_among feeds) es else Some e) ≡ None → (first_failing (is_among feeds) es ≡ None → first_failing is_name es ≡ None) →
        (if is_name e then first_failing is_name es else Some e) ≡ None
    at true among none later = let good : is_name e ≡ true = among-named feeds e named among in rw good (later none)
    at false other none later = absurd (cc)

  loaded : (field : Field) (value : Option (List ℕ)) → value_feed_lacking (is_among feeds) field value ≡ None → value_feed_lacking is_name field value ≡ None
  loaded field None none = refl
  loaded Feed (Some text) none = at (is_among feeds text) refl none where
    at : (b : Bool) → is_among feeds text ≡ b → (if b then None else Some text) ≡ None → (if is_name text then None else Some text) ≡ None
    at true among none = let good : is_name text ≡ true = among-named feeds text named among in rw good refl
    at false other none = absurd (cc)
  loaded Feeds (Some text) none = none-failing (elements text) none
  loaded Sequences (Some text) none = refl
  loaded Count (Some text) none = refl
  loaded Topic (Some text) none = refl
  loaded Outlet (Some text) none = refl
  loaded Topics (Some text) none = refl

  all-loaded : (props : Props) (fields : List Field) → feed_lacking (is_among feeds) props fields ≡ None → feed_lacking is_name props fields ≡ None
  all-loaded props [] none = refl
  all-loaded props (field ∷ more) none = at (value_feed_lacking (is_among feeds) field (value_in props (key_of field))) refl none (all-loaded props more) where
    at : (o : Option (List ℕ)) → value_feed_lacking (is_among feeds) field (value_in props (key_of field)) ≡ o → or_text o (feed_lacking (is_among feeds) props more) ≡ None →
        (feed_lacking (is_among feeds) props more ≡ None → feed_lacking is_name props more ≡ None) →
        or_text (value_feed_lacking is_name field (value_in props (key_of field))) (feed_lacking is_name props more) ≡ None
    at None is none later = let good : value_feed_lacking is_name field (value_in props (key_of field)) ≡ None = loaded field (value_in props (key_of field)) is in rw good (later none)
    at (Some text) is none later = absurd (cc)

  -- the faults of a class
  four : (a b c d e : Option (List ℕ)) → (c ≡ None → e ≡ None) → or_fault (option_map Missing a) (or_fault (option_map BadInt b) (or_fault (option_map NoFeed c) (option_map BadName d))) ≡ None →
      or_fault (option_map Missing a) (or_fault (option_map BadInt b) (or_fault (option_map NoFeed e) (option_map BadName d))) ≡ None
  four (Some x) b c d e so none = absurd (cc)
  four None (Some x) c d e so none = absurd (cc)
  four None None (Some x) d e so none = absurd (cc)
  four None None None d e so none = let good : e ≡ None = so refl in rw good none

  class-faultless : (props : Props) (row : ClassRow) → fault_of_class (is_among feeds) props row ≡ None → fault_of_class is_name props row ≡ None
  class-faultless props row none =
      four (missing_key props row.fields) (bad_number props row) (feed_lacking (is_among feeds) props row.fields) (bad_key is_bad_name props row.fields) (feed_lacking is_name props row.fields)
      (all-loaded props row.fields) none

  -- a config that its class takes
  pub taken-faultless : (props : Props) (class : Class) → checked (is_among feeds) props ≡ Ok class → IsFaultless props
  taken-faultless props class taken = called (value_in props (codes "connector.class")) refl taken where
    unless : (text : List ℕ) (found : Class) → value_in props (codes "connector.class") ≡ Some text → class_of text ≡ Some found → (o : Option PluginFault) →
        fault_of_class (is_among feeds) props (row_of found) ≡ o → unless_faulty found o ≡ Ok class → IsFaultless props
    unless text found called own None none is = faultless_from props text found called own (class-faultless props (row_of found) none)
    unless text found called own (Some fault) faulty is = absurd (cc)

    of : (text : List ℕ) → value_in props (codes "connector.class") ≡ Some text → (o : Option Class) → class_of text ≡ o → class_unless (is_among feeds) props o ≡ Ok class → IsFaultless props
    of text called None none is = absurd (cc)
    of text called (Some found) own is = unless text found called own (fault_of_class (is_among feeds) props (row_of found)) refl is

    called : (o : Option (List ℕ)) → value_in props (codes "connector.class") ≡ o → class_called (is_among feeds) props o ≡ Ok class → IsFaultless props
    called None none is = absurd (cc)
    called (Some text) there is = of text there (class_of text) refl is
