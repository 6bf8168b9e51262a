-- What a request's body asks for is text, and its keys rise: so it can be written.
use Rattle.std.proofs.Common.{◌≡◌, ℕ, suc, ◌∷◌, [], pos, negsuc, Bool, true, false, List, Option, Some, None, Result, Ok, Err, IsUtf8, decimal, option_map, option_and_then, codes, if◌then◌else◌, refl, subst, ap, ◌∙◌, arith}
use Rattle.std.specs.List.{AllByRecursion}
use Rattle.std.specs.Option.{option_map_or}
use Rattle.std.specs.Str.{is_utf8}
use Rattle.std.specs.Ordering.{nat_cmp, is_lt, is_gt, match_ordering, ordering_reverse}
use Rattle.std.specs.Cmp.{IsTotalOrder}
use Rattle.std.specs.Cmp.Lexicographic.{slice_cmp, nat_list_cmp_total}
use Rattle.std.specs.declared.cmp.Ordering.{Ordering}
use Rattle.std.specs.declared.cmp.Ordering.TheVariants.{Less, Equal, Greater}
use Rattle.std.proofs.lemmas.Str.{IsUtf8-from_is_utf8}
use Rattle.json.proofs.Printed.Utf8.{IsUtf8-are_ascii}
use Rattle.json.specs.Json as json
use Rattle.json.specs.Lex.{tokens}
use Rattle.serde_json.specs.Data as values
use Rattle.serde_json.specs.Data.{Num, Data, Members, no_members, member, put}
use Rattle.serde_json.specs.Find.{get, get_member, as_str}
use Rattle.serde_json.specs.Read.{number_of, of_json, of_items, of_members, read, max_depth}
use Rattle.std.specs.Result.{result_ok}
use Rattle.cw_json.specs.declared.fault.JsonFault.{JsonFault}
use Rattle.cw_json.specs.Inserting.{below, above, with_value}
use Rattle.cw_json.specs.Plain.{AreTexts}
use Rattle.cw_json.specs.Props.{number_property, property, add_property, member_props, props_of_data}
use Rattle.cw_json.specs.Reading.{reading}
use Rattle.cw_json.specs.Rising.{IsRising}
use Rattle.cw_json.proofs.Inserting.{rising_with}
use Rattle.cw_keys.proofs.Ascii.{name_utf8}
use Rattle.cw_config.specs.View.{Properties}
use Rattle.cw_rest.specs.Bodies.{has_members, where_it, may_be_named, named_config, config_in, Asked, asked_with, asked_by, asked_in}
use Rattle.cw_route.specs.declared.call.Call.{Call}
use Rattle.cw_route.specs.declared.call.Call.TheVariants.{Refused, Connectors, Create, Info, Delete, Config, PutConfig, Status, Tasks, TaskStatus, Pause, Resume, Stop, Restart, RestartTask, Offsets, Alter, Reset, Plugins}
use Rattle.cw_route.specs.HeldNames.{HoldsName}
use Rattle.cw_keys.specs.Configs.{IsConfigValue}
use Rattle.cw_keys.specs.declared.config_key.ConfigKey.{ConfigKey}
use Rattle.cw_keys.specs.declared.config_value.ConfigValue.{ConfigValue}
use Rattle.cw_rest.specs.Operations.{config_values}
use Rattle.cw_laws.proofs.Reports.{decimal-utf8}
use Rattle.cw_run.proofs.Altering.{tested, made}
use Rattle.cw_run.proofs.JsonStrings.{ascii-first}
use Rattle.cw_run.proofs.JsonTexts.{IsJson, AreItems, AreMembers, json-read}
use Rattle.cw_run.proofs.Writing.{CanBeWritten}
use Rattle.cw_laws.proofs.TaskParts.{then_some}
use Rattle.cw_laws.proofs.CallConfigs.{texts-kept, texts-append}

-- ---- values whose keys rise

abbrev cmp : List ℕ → List ℕ → Ordering
cmp = slice_cmp nat_cmp

order : IsTotalOrder cmp
order = nat_list_cmp_total

less-behind : (k l : List ℕ) → cmp k l ≡ Greater → cmp l k ≡ Less
less-behind k l is = order.antisymm l k ∙ ap ordering_reverse is

-- each key is above this one
abbrev Above : List ℕ → Members → Type 0
Above k no_members = Unit {0}
Above k (member l e ms) = (cmp k l ≡ Less) × Above k ms

abbrev Rises : Members → Type 0
Rises no_members = Unit {0}
Rises (member k d ms) = Above k ms × Rises ms

abbrev mutual
  IsData : Data → Type 0
  IsData values.null = Unit {0}
  IsData (values.boolean b) = Unit {0}
  IsData (values.number n) = Unit {0}
  IsData (values.string s) = IsUtf8 s
  IsData (values.array ds) = AreData ds
  IsData (values.object ms) = AreFields ms × Rises ms

  AreData : values.Items → Type 0
  AreData values.no_items = Unit {0}
  AreData (values.item d ds) = IsData d × AreData ds

  AreFields : Members → Type 0
  AreFields no_members = Unit {0}
  AreFields (member k d ms) = IsUtf8 k × IsData d × AreFields ms

above-less : (k l : List ℕ) (ms : Members) → cmp k l ≡ Less → Above l ms → Above k ms
above-less k l no_members less above = tt
above-less k l (member m e ms) less above = (order.trans k l m less above.0, above-less k l ms less above.1)

put-above : (x k : List ℕ) (d : Data) (ms : Members) → cmp x k ≡ Less → Above x ms → Above x (put k d ms)
put-above x k d no_members less above = (less, tt)
put-above x k d (member l e ms) less above = at (cmp k l) (put-above x k d ms less above.1) where
  at : (o : Ordering) → Above x (put k d ms) → Above x (match_ordering o (member k d (member l e ms)) (member l d ms) (member l e (put k d ms)))
  at Less rest = (less, above)
  at Equal rest = above
  at Greater rest = (above.0, rest)

put-rises : (k : List ℕ) (d : Data) (ms : Members) → Rises ms → Rises (put k d ms)
put-rises k d no_members rises = (tt, tt)
put-rises k d (member l e ms) rises = at (cmp k l) refl (put-rises k d ms rises.1) where
  at : (o : Ordering) → cmp k l ≡ o → Rises (put k d ms) → Rises (match_ordering o (member k d (member l e ms)) (member l d ms) (member l e (put k d ms)))
  at Less is rest = ((is, above-less k l ms is rises.0), rises)
  at Equal is rest = rises
  at Greater is rest = (put-above l k d ms (less-behind k l is) rises.0, rest)

put-fields : (k : List ℕ) (d : Data) (ms : Members) → IsUtf8 k → IsData d → AreFields ms → AreFields (put k d ms)
put-fields k d no_members key is each = (key, is, tt)
put-fields k d (member l e ms) key is each = at (cmp k l) (put-fields k d ms key is each.2) where
  at : (o : Ordering) → AreFields (put k d ms) → AreFields (match_ordering o (member k d (member l e ms)) (member l d ms) (member l e (put k d ms)))
  at Less rest = (key, is, each)
  at Equal rest = (each.0, is, each.2)
  at Greater rest = (each.0, each.1, rest)

mutual
  json-data : (j : json.Json) → IsJson j → (d : Data) → of_json j ≡ Some d → IsData d
  json-data json.null is d e = let same : values.null ≡ d = cc in subst IsData same tt
  json-data (json.boolean b) is d e = let same : values.boolean b ≡ d = cc in subst IsData same tt
  json-data (json.number s) is d e = let it = made values.number (number_of s) d e in subst IsData it.2 tt
  json-data (json.string s) is d e = let same : values.string s ≡ d = cc in subst IsData same is
  json-data (json.array js) is d e = let it = made values.array (of_items js) d e in subst IsData it.2 (items-data js is it.0 it.1)
  json-data (json.object ms) is d e = let it = made values.object (of_members ms no_members) d e in subst IsData it.2 (members-data ms is no_members tt tt it.0 it.1)

  items-data : (js : json.Items) → AreItems js → (ds : values.Items) → of_items js ≡ Some ds → AreData ds
  items-data json.no_items is ds e = let same : values.no_items ≡ ds = cc in subst AreData same tt
  items-data (json.item j js) is ds e =
      let it = then_some (λ d. option_map (values.item d) (of_items js)) (of_json j) ds e in
      let more = made (values.item it.0) (of_items js) ds it.2 in
      subst AreData more.2 (json-data j is.0 it.0 it.1, items-data js is.1 more.0 more.1)

  members-data : (ms : json.Members) → AreMembers ms → (found : Members) → AreFields found → Rises found → (all : Members) → of_members ms found ≡ Some all → AreFields all × Rises all
  members-data json.no_members is found each rises all e = let same : found ≡ all = cc in (subst AreFields same each, subst Rises same rises)
  members-data (json.member k j ms) is found each rises all e =
      let it = then_some (λ d. of_members ms (put k d found)) (of_json j) all e in
      members-data ms is.2 (put k it.0 found) (put-fields k it.0 found is.0 (json-data j is.1 it.0 it.1) each) (put-rises k it.0 found rises) all it.2

-- what is read of bytes
reading-data : (text : List ℕ) (d : Data) → reading text ≡ Some d → IsData d
reading-data text d is = at (is_utf8 text) refl is where
  at : (b : Bool) → is_utf8 text ≡ b → (if b then read text else None) ≡ Some d → IsData d
  at false bad found = absurd (cc)
  at true good found =
      let it = then_some of_json (option_and_then (λ p. json.if_last p.0 p.1) (json.value max_depth (tokens text))) d found in
      json-data it.0 (json-read text (IsUtf8-from_is_utf8 text good) it.0 it.1) d it.2

-- a member of a value
member-data : (k : List ℕ) (ms : Members) (e : Data) → AreFields ms → get_member k ms ≡ Some e → IsData e
member-data k no_members e each is = absurd (cc)
member-data k (member l d ms) e each is = at (cmp k l) is (member-data k ms e each.2) where
  at : (o : Ordering) → match_ordering o (get_member k ms) (Some d) (get_member k ms) ≡ Some e → (get_member k ms ≡ Some e → IsData e) → IsData e
  at Less found later = later found
  at Equal found later = let same : d ≡ e = cc in subst IsData same each.1
  at Greater found later = later found

get-data : (k : List ℕ) (d e : Data) → IsData d → get k d ≡ Some e → IsData e
get-data k values.null e are is = absurd (cc)
get-data k (values.boolean b) e are is = absurd (cc)
get-data k (values.number n) e are is = absurd (cc)
get-data k (values.string s) e are is = absurd (cc)
get-data k (values.array ds) e are is = absurd (cc)
get-data k (values.object ms) e are is = member-data k ms e are.0 is

text-data : (d : Data) (s : List ℕ) → IsData d → as_str d ≡ Some s → IsUtf8 s
text-data values.null s are is = absurd (cc)
text-data (values.boolean b) s are is = absurd (cc)
text-data (values.number n) s are is = absurd (cc)
text-data (values.string t) s are is = let same : t ≡ s = cc in subst IsUtf8 same are
text-data (values.array ds) s are is = absurd (cc)
text-data (values.object ms) s are is = absurd (cc)

-- ---- properties

signed-utf8 : (n : Num) (s : List ℕ) → number_property n ≡ Some s → IsUtf8 s
signed-utf8 (values.unsigned n) s is = let same : decimal n ≡ s = cc in subst IsUtf8 same (decimal-utf8 n)
signed-utf8 (values.negative (pos n)) s is = let same : decimal n ≡ s = cc in subst IsUtf8 same (decimal-utf8 n)
signed-utf8 (values.negative (negsuc n)) s is = let same : 45 ∷ decimal (suc n) ≡ s = cc in subst IsUtf8 same (ascii-first 45 (decimal (suc n)) (omega arith) (decimal-utf8 (suc n)))
signed-utf8 (values.float x) s is = absurd (cc)

property-utf8 : (d : Data) (s : List ℕ) → IsData d → property d ≡ Some s → IsUtf8 s
property-utf8 (values.string t) s are is = let same : t ≡ s = cc in subst IsUtf8 same are
property-utf8 (values.boolean true) s are is = let same : codes "true" ≡ s = cc in subst IsUtf8 same (IsUtf8-are_ascii (codes "true") refl)
property-utf8 (values.boolean false) s are is = let same : codes "false" ≡ s = cc in subst IsUtf8 same (IsUtf8-are_ascii (codes "false") refl)
property-utf8 (values.number n) s are is = signed-utf8 n s is
property-utf8 values.null s are is = absurd (cc)
property-utf8 (values.array ds) s are is = absurd (cc)
property-utf8 (values.object ms) s are is = absurd (cc)

abbrev AllAbove : List ℕ → Properties → Type 0
AllAbove k = AllByRecursion (λ (q : List ℕ × List ℕ). cmp k q.0 ≡ Less)

-- properties that can be written, each above the keys below all members
pub record AreProps (ms : Members) (props : Properties) : Type 0 where
  pub rising : IsRising props
  pub texts : AreTexts props
  pub above : (k : List ℕ) → Above k ms → AllAbove k props

member-texts : (ms : Members) → AreFields ms → Rises ms → (props : Properties) → member_props ms ≡ Ok props → AreProps ms props
member-texts no_members each rises props is = let same : [] ≡ props = cc in subst (AreProps no_members) same (record { rising = tt; texts = tt; above = λ k above. tt })
member-texts (member k d ms) each rises props is = at (property d) (member_props ms) refl refl is (member-texts ms each.2 rises.1) where
  at : (value : Option (List ℕ)) (rest : Result (List (List ℕ × List ℕ)) JsonFault) → property d ≡ value → member_props ms ≡ rest → add_property k value rest ≡ Ok props →
      ((more : Properties) → member_props ms ≡ Ok more → AreProps ms more) → AreProps (member k d ms) props
  at None rest none found is later = absurd (cc)
  at (Some value) (Err fault) there found is later = absurd (cc)
  at (Some value) (Ok more) there found is later =
      let are : AreProps ms more = later more found in
      let same : (k, value) ∷ more ≡ props = cc in
      subst (AreProps (member k d ms)) same (record {
        rising = (are.above k rises.0, are.rising);
        texts = (each.0, property-utf8 d value each.1 there, are.texts);
        above = λ l above. (above.0, are.above l above.1);
      })

abbrev AreGood : Properties → Type 0
AreGood props = IsRising props × AreTexts props

data-props : (d : Data) → IsData d → (props : Properties) → props_of_data d ≡ Ok props → AreGood props
data-props values.null are props is = absurd (cc)
data-props (values.boolean b) are props is = absurd (cc)
data-props (values.number n) are props is = absurd (cc)
data-props (values.string s) are props is = absurd (cc)
data-props (values.array ds) are props is = absurd (cc)
data-props (values.object ms) are props is = let good : AreProps ms props = member-texts ms are.0 are.1 props is in (good.rising, good.texts)

with-texts : (key value : List ℕ) (ps : Properties) → IsUtf8 key → IsUtf8 value → AreTexts ps → AreTexts (with_value key value ps)
with-texts key value ps own text texts =
    texts-append (below key ps) ((key, value) ∷ above key ps) (texts-kept (λ p. is_lt (cmp p.0 key)) ps texts)
    (own, text, texts-kept (λ p. is_gt (cmp p.0 key)) ps texts)

-- ---- what a body asks for

read-props : (o : Result Properties JsonFault) (props : Properties) → result_ok o ≡ Some props → o ≡ Ok props
read-props (Ok own) props is = let same : own ≡ props = cc in ap (λ (p : Properties). Ok p) same
read-props (Err fault) props is = absurd (cc)

named-good : (name : List ℕ) (d : Data) (config : Properties) → IsUtf8 name → IsData d → named_config name d ≡ Some config → AreGood config
named-good name d config text are is =
    let one = made (with_value (codes "name") name) (option_and_then (where_it (may_be_named name)) (result_ok (props_of_data d))) config is in
    let two = then_some (where_it (may_be_named name)) (result_ok (props_of_data d)) one.0 one.1 in
    let three = tested (may_be_named name) two.0 one.0 two.2 in
    let good : AreGood two.0 = data-props d are two.0 (read-props (props_of_data d) two.0 two.1) in
    let own : AreGood one.0 = subst AreGood three.1 good in
    subst AreGood one.2 (rising_with (codes "name") name one.0 own.0, with-texts (codes "name") name one.0 (IsUtf8-are_ascii (codes "name") refl) text own.1)

asked-good : (body : List ℕ) (asked : Asked) → asked_in body ≡ Some asked → AreGood asked.config
asked-good body asked is =
    let one = then_some asked_by (option_and_then (where_it (has_members 2)) (reading body)) asked is in
    let two = then_some (where_it (has_members 2)) (reading body) one.0 one.1 in
    let three = tested (has_members 2) two.0 one.0 two.2 in
    let are : IsData one.0 = subst IsData three.1 (reading-data body two.0 two.1) in
    let four = then_some (asked_with one.0) (option_and_then as_str (get (codes "name") one.0)) asked one.2 in
    let five = then_some as_str (get (codes "name") one.0) four.0 four.1 in
    let text : IsUtf8 four.0 = text-data five.0 four.0 (get-data (codes "name") one.0 five.0 are five.1) five.2 in
    let six = made (λ (config : Properties). record { name = four.0; config = config }) (option_and_then (named_config four.0) (get (codes "config") one.0)) asked four.2 in
    let seven = then_some (named_config four.0) (get (codes "config") one.0) six.0 six.1 in
    subst (λ (a : Asked). AreGood a.config) six.2 (named-good four.0 seven.0 six.0 text (get-data (codes "config") one.0 seven.0 are seven.1) seven.2)

config-good : (name body : List ℕ) (config : Properties) → IsUtf8 name → config_in name body ≡ Some config → AreGood config
config-good name body config text is =
    let one = then_some (named_config name) (reading body) config is in
    named-good name one.0 config text (reading-data body one.0 one.1) one.2

-- what each call writes can be written
pub call-written : (call : Call) → HoldsName call → CanBeWritten call
call-written (Create body) named = at (asked_in body) refl where
  at : (o : Option Asked) → asked_in body ≡ o → AllByRecursion (λ (kv : ConfigKey × Option ConfigValue). IsConfigValue kv.1) (option_map_or (λ (asked : Asked). config_values asked.name asked.config) o [])
  at None none = tt
  at (Some asked) there = ((tt, asked-good body asked there), tt)
call-written (PutConfig name body) named = at (config_in name body) refl where
  at : (o : Option Properties) → config_in name body ≡ o → AllByRecursion (λ (kv : ConfigKey × Option ConfigValue). IsConfigValue kv.1) (option_map_or (config_values name) o [])
  at None none = tt
  at (Some config) there = ((tt, config-good name body config (name_utf8 name named) there), tt)
call-written (Delete name) named = ((omega arith, tt), (tt, (tt, tt)))
call-written (Pause name) named = ((tt, tt), tt)
call-written (Resume name) named = ((tt, tt), tt)
call-written (Stop name) named = ((omega arith, tt), ((tt, tt), tt))
call-written (Refused fault) named = tt
call-written Connectors named = tt
call-written (Info name) named = tt
call-written (Config name) named = tt
call-written (Status name) named = tt
call-written (Tasks name) named = tt
call-written (TaskStatus id) named = tt
call-written (Restart name) named = tt
call-written (RestartTask id) named = tt
call-written (Offsets name) named = tt
call-written (Alter name body) named = tt
call-written (Reset name) named = tt
call-written Plugins named = tt
