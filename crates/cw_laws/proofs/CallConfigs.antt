-- A config that a call of the REST API gives a connector can be written, and is one that its class takes.
use Rattle.std.proofs.Common.{◌≡◌, ℕ, ◌||◌, ◌∷◌, ◌++◌, [], Bool, true, false, cond, List, Option, Some, None, Result, Ok, Err, bytes_eq, codes, option_map, option_and_then, if◌then◌else◌, refl, sym, subst, ap}
use Rattle.std.specs.List.{AllByRecursion, list_any, filter}
use Rattle.std.specs.Ordering.{nat_cmp, is_lt, is_gt}
use Rattle.std.specs.Cmp.Lexicographic.{slice_cmp}
use Rattle.std.specs.Str.{IsUtf8}
use Rattle.std.proofs.lemmas.Slice.Eq.{bytes_eq-Decides}
use Rattle.serde_json.specs.Data.{Data}
use Rattle.serde_json.specs.Find.{get, as_str}
use Rattle.std.specs.Result.{result_ok}
use Rattle.cw_types.specs.Name.{IsName}
use Rattle.cw_json.specs.Plain.{AreTexts}
use Rattle.cw_json.specs.Inserting.{below, above, with_value}
use Rattle.cw_json.proofs.Inserting.{rising_with}
use Rattle.cw_json.specs.Pairs.{value_in}
use Rattle.cw_json.specs.Props.{props_of_data}
use Rattle.cw_json.specs.Reading.{reading}
use Rattle.cw_json.specs.declared.fault.JsonFault.{JsonFault}
use Rattle.cw_keys.proofs.Ascii.{name_utf8}
use Rattle.cw_config.specs.View.{Properties}
use Rattle.cw_plugin.specs.declared.class.Class.{Class}
use Rattle.cw_plugin.specs.declared.class.Field.{Field}
use Rattle.cw_plugin.specs.declared.class.Field.TheVariants.{Feed, Feeds, Sequences, Count, Topic, Outlet, Topics}
use Rattle.cw_plugin.specs.declared.fault.PluginFault.{PluginFault}
use Rattle.cw_plugin.specs.declared.fault.PluginFault.TheVariants.{Missing, BadInt, NoFeed, BadName}
use Rattle.cw_plugin.specs.Classes.{ClassRow, row_of, class_of, key_of}
use Rattle.cw_plugin.specs.Checks.{is_name, is_among, first_failing, missing_key, bad_number, value_feed_lacking, or_text, feed_lacking, is_bad_name, bad_key, or_fault, fault_of_class, unless_faulty, class_unless, class_called, checked}
use Rattle.cw_plugin.specs.Lists.{elements}
use Rattle.cw_plugin.specs.Tasks.{IsFaultless}
use Rattle.cw_plugin.proofs.FaultlessLemmas.{faultless_from}
use Rattle.cw_rest.specs.Bodies.{Asked, asked_with, asked_by, asked_in, config_in, named_config, may_be_named, where_it, has_members}
use Rattle.cw_laws.proofs.ReadProps.{props-written}
use Rattle.cw_laws.proofs.ReadStatuses.{at-key}
use Rattle.cw_laws.proofs.ReadValues.{IsTextData, reading-text}
use Rattle.cw_laws.proofs.Reports.{literal-utf8}
use Rattle.cw_laws.proofs.TaskTexts.{AreWritable}

-- ---- a property more

pub texts-kept : (test : List ℕ × List ℕ → Bool) (ps : Properties) → AreTexts ps → AreTexts (filter test ps)
texts-kept test [] texts = tt
texts-kept test (p ∷ ps) texts = by (test p) (texts-kept test ps texts.2) where
  by : (b : Bool) → AreTexts (filter test ps) → AreTexts (cond b (p ∷ filter test ps) (filter test ps))
  by true rest = (texts.0, texts.1, rest)
  by false rest = rest

pub texts-append : (ps qs : Properties) → AreTexts ps → AreTexts qs → AreTexts (ps ++ qs)
texts-append [] qs one other = other
texts-append (p ∷ ps) qs one other = (one.0, one.1, texts-append ps qs one.2 other)

property-stays : (k v : List ℕ) (ps : Properties) → IsUtf8 k → IsUtf8 v → AreWritable ps → AreWritable (with_value k v ps)
property-stays k v ps key value stay = (
  rising_with k v ps stay.0,
  texts-append (below k ps) ((k, v) ∷ above k ps) (texts-kept (λ p. is_lt (slice_cmp nat_cmp p.0 k)) ps stay.1)
      (key, value, texts-kept (λ p. is_gt (slice_cmp nat_cmp p.0 k)) ps stay.1),
)

-- ---- what a body gives a connector

taken : (r : Result Properties JsonFault) (name : List ℕ) (props : Properties) → ((ps : Properties) → r ≡ Ok ps → AreWritable ps) → IsUtf8 name →
    option_map (with_value (codes "name") name) (option_and_then (where_it (may_be_named name)) (result_ok r)) ≡ Some props → AreWritable props
taken (Err fault) name props each named is = absurd (cc)
taken (Ok ps) name props each named is = by (may_be_named name ps) is where
  by : (b : Bool) → option_map (with_value (codes "name") name) (if b then Some ps else None) ≡ Some props → AreWritable props
  by true is =
      let same : with_value (codes "name") name ps ≡ props = cc in
      subst AreWritable same (property-stays (codes "name") name ps (literal-utf8 (codes "name") refl) named (each ps refl))
  by false is = absurd (cc)

named-written : (name : List ℕ) (d : Data) (props : Properties) → IsTextData d → IsUtf8 name → named_config name d ≡ Some props → AreWritable props
named-written name d props text named is = taken (props_of_data d) name props (λ ps there. props-written d ps text there) named is

pub config-written : (name body : List ℕ) (props : Properties) → IsName name → config_in name body ≡ Some props → AreWritable props
config-written name body props named is = of (reading body) (λ d there. reading-text body d there) is where
  of : (o : Option Data) → ((d : Data) → o ≡ Some d → IsTextData d) → option_and_then (named_config name) o ≡ Some props → AreWritable props
  of None text is = absurd (cc)
  of (Some d) text is = named-written name d props (text d refl) (name_utf8 name named) is

asked-written : (d : Data) (asked : Asked) → IsTextData d → IsName asked.name → asked_by d ≡ Some asked → AreWritable asked.config
asked-written d asked text named is = of (option_and_then as_str (get (codes "name") d)) is where
  made : (name : List ℕ) (o : Option Properties) → ((props : Properties) → o ≡ Some props → IsUtf8 name → AreWritable props) →
      option_map (λ config. record { name = name; config = config }) o ≡ Some asked → AreWritable asked.config
  made name None each is = absurd (cc)
  made name (Some props) each is =
      let same : record { name = name; config = props } ≡ asked = cc in
      let own : IsUtf8 name = subst IsUtf8 (sym (ap (λ (a : Asked). a.name) same)) (name_utf8 asked.name named) in
      subst (λ (a : Asked). AreWritable a.config) same (each props refl own)

  config : (name : List ℕ) (o : Option Data) → ((e : Data) → o ≡ Some e → IsTextData e) → (props : Properties) → option_and_then (named_config name) o ≡ Some props →
      IsUtf8 name → AreWritable props
  config name None each props is own = absurd (cc)
  config name (Some e) each props is own = named-written name e props (each e refl) own is

  of : (o : Option (List ℕ)) → option_and_then (asked_with d) o ≡ Some asked → AreWritable asked.config
  of None is = absurd (cc)
  of (Some name) is =
      made name (option_and_then (named_config name) (get (codes "config") d))
      (λ props there own. config name (get (codes "config") d) (λ e at. at-key (codes "config") d e text at) props there own) is

pub asked_in-written : (body : List ℕ) (asked : Asked) → IsName asked.name → asked_in body ≡ Some asked → AreWritable asked.config
asked_in-written body asked named is = of (reading body) (λ d there. reading-text body d there) is where
  passed : (b : Bool) (d : Data) → IsTextData d → option_and_then asked_by (if b then Some d else None) ≡ Some asked → AreWritable asked.config
  passed true d text is = asked-written d asked text named is
  passed false d text is = absurd (cc)

  of : (o : Option Data) → ((d : Data) → o ≡ Some d → IsTextData d) → option_and_then asked_by (option_and_then (where_it (has_members 2)) o) ≡ Some asked → AreWritable asked.config
  of None text is = absurd (cc)
  of (Some d) text is = passed (has_members 2 d) d (text d refl) is

-- ---- what a class takes

among-named : (feeds : List (List ℕ)) (text : List ℕ) → AllByRecursion IsName feeds → is_among feeds text ≡ true → is_name text ≡ true
among-named [] text named is = absurd (let never : false ≡ true = is in cc)
among-named (feed ∷ feeds) text named is = by (bytes_eq feed text) refl (among-named feeds text named.1) is where
  by : (b : Bool) → bytes_eq feed text ≡ b → (is_among feeds text ≡ true → is_name text ≡ true) → (b || list_any (λ name. bytes_eq name text) feeds) ≡ true → is_name text ≡ true
  by true same later is = let own : IsName text = subst IsName ((bytes_eq-Decides feed text).0 same) named.0 in rw own refl
  by false other later is = later is

loaded-named : (test : List ℕ → Bool) → ((text : List ℕ) → test text ≡ true → is_name text ≡ true) → (es : List (List ℕ)) → first_failing test es ≡ None → first_failing is_name es ≡ None
loaded-named test so [] none = refl
loaded-named test so (e ∷ es) none = by (test e) refl (loaded-named test so es) none where
  by : (b : Bool) → test e ≡ b → (first_failing test es ≡ None → first_failing is_name es ≡ None) → (if b then first_failing test es else Some e) ≡ None →
      (if is_name e then first_failing is_name es else Some e) ≡ None
  by true passes later none = rw (so e passes) (later none)
  by false fails later none = absurd (cc)

one-loaded : (b c : Bool) (text : List ℕ) → (b ≡ true → c ≡ true) → (if b then None else Some text) ≡ None → (if c then None else Some text) ≡ None
one-loaded true c text so none = rw (so refl) refl
one-loaded false c text so none = absurd (cc)

value-loaded : (test : List ℕ → Bool) → ((text : List ℕ) → test text ≡ true → is_name text ≡ true) → (field : Field) (value : Option (List ℕ)) →
    value_feed_lacking test field value ≡ None → value_feed_lacking is_name field value ≡ None
value-loaded test so field None none = refl
value-loaded test so Feed (Some text) none = one-loaded (test text) (is_name text) text (so text) none
value-loaded test so Feeds (Some text) none = loaded-named test so (elements text) none
value-loaded test so Sequences (Some text) none = refl
value-loaded test so Count (Some text) none = refl
value-loaded test so Topic (Some text) none = refl
value-loaded test so Outlet (Some text) none = refl
value-loaded test so Topics (Some text) none = refl

text-parts : (a b : Option (List ℕ)) → or_text a b ≡ None → (a ≡ None) × (b ≡ None)
text-parts None b none = (refl, none)
text-parts (Some text) b none = absurd (cc)

feeds-loaded : (test : List ℕ → Bool) → ((text : List ℕ) → test text ≡ true → is_name text ≡ true) → (props : Properties) (fields : List Field) →
    feed_lacking test props fields ≡ None → feed_lacking is_name props fields ≡ None
feeds-loaded test so props [] none = refl
feeds-loaded test so props (field ∷ fields) none =
    let parts = text-parts (value_feed_lacking test field (value_in props (key_of field))) (feed_lacking test props fields) none in
    rw (value-loaded test so field (value_in props (key_of field)) parts.0, feeds-loaded test so props fields parts.1) refl

fault-parts : (a b : Option PluginFault) → or_fault a b ≡ None → (a ≡ None) × (b ≡ None)
fault-parts None b none = (refl, none)
fault-parts (Some fault) b none = absurd (cc)

unmapped : (f : List ℕ → PluginFault) (o : Option (List ℕ)) → option_map f o ≡ None → o ≡ None
unmapped f None none = refl
unmapped f (Some text) none = absurd (cc)

-- a class that has no fault with loaded feeds has none with names
faults-named : (test : List ℕ → Bool) → ((text : List ℕ) → test text ≡ true → is_name text ≡ true) → (props : Properties) (row : ClassRow) → fault_of_class test props row ≡ None →
    fault_of_class is_name props row ≡ None
faults-named test so props row none =
    let one = fault-parts (option_map Missing (missing_key props row.fields)) (or_fault (option_map BadInt (bad_number props row)) (or_fault (option_map NoFeed (feed_lacking test props row.fields))
    (option_map BadName (bad_key is_bad_name props row.fields)))) none in
    let two = fault-parts (option_map BadInt (bad_number props row)) (or_fault (option_map NoFeed (feed_lacking test props row.fields)) (option_map BadName (bad_key is_bad_name props row.fields))) one.1 in
    let three = fault-parts (option_map NoFeed (feed_lacking test props row.fields)) (option_map BadName (bad_key is_bad_name props row.fields)) two.1 in
    let feeds : feed_lacking is_name props row.fields ≡ None = feeds-loaded test so props row.fields (unmapped NoFeed (feed_lacking test props row.fields) three.0) in
    rw (unmapped Missing (missing_key props row.fields) one.0, unmapped BadInt (bad_number props row) two.0, feeds) three.1

-- a config that its class takes, with feeds that have names, is faultless
pub taken-faultless : (feeds : List (List ℕ)) (props : Properties) (class : Class) → AllByRecursion IsName feeds → checked (is_among feeds) props ≡ Ok class → IsFaultless props
taken-faultless feeds props class named is = of (value_in props (codes "connector.class")) refl is where
  third : (text : List ℕ) (c : Class) (o : Option PluginFault) → fault_of_class (is_among feeds) props (row_of c) ≡ o → value_in props (codes "connector.class") ≡ Some text →
      class_of text ≡ Some c → unless_faulty c o ≡ Ok class → IsFaultless props
  third text c None none there called is =
      faultless_from props text c there called (faults-named (is_among feeds) (λ t there. among-named feeds t named there) props (row_of c) none)
  third text c (Some fault) some there called is = absurd (cc)

  second : (text : List ℕ) (o : Option Class) → class_of text ≡ o → value_in props (codes "connector.class") ≡ Some text → class_unless (is_among feeds) props o ≡ Ok class → IsFaultless props
  second text None none there is = absurd (cc)
  second text (Some c) called there is = third text c (fault_of_class (is_among feeds) props (row_of c)) refl there called is

  of : (o : Option (List ℕ)) → value_in props (codes "connector.class") ≡ o → class_called (is_among feeds) props o ≡ Ok class → IsFaultless props
  of None none is = absurd (cc)
  of (Some text) there is = second text (class_of text) refl there is
