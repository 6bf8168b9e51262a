-- What is read as a record of the config log is one: its key and its value are in the grammar of what is written.
use Rattle.std.proofs.Common.{◌≡◌, ℕ, ◌<◌, ◌^◌, nat_lt, Bool, true, false, cond, codes, List, [], ◌∷◌, Option, Some, None, Result, Ok, Err, refl, ap, subst, arith}
use Rattle.std.specs.Option.{option_and_then}
use Rattle.std.specs.List.{AllByRecursion}
use Rattle.std.specs.Str.{IsUtf8}
use Rattle.std.specs.Ordering.{nat_cmp}
use Rattle.std.specs.declared.cmp.Ordering.TheVariants.{Less}
use Rattle.std.specs.Cmp.Lexicographic.{slice_cmp}
use Rattle.std.proofs.lemmas.Bool.Decides.{nat_tests}
use Rattle.std.proofs.lemmas.Option.{option_and_then_some}
use Rattle.serde_json.specs.Data.{Data, Members}
use Rattle.serde_json.specs.Data as found
use Rattle.serde_json.specs.Find.{get, as_str, as_object}
use Rattle.cw_bytes.specs.declared.applied.Applied.{Applied}
use Rattle.cw_json.specs.Reading.{reading}
use Rattle.cw_keys.specs.ConfigKeys.{IsConfigKey, config_key, may_be_removed}
use Rattle.cw_keys.specs.Counts.{below_32, u64_at, count_at, commit_of, fencing_of}
use Rattle.cw_keys.specs.Properties.{add_text, member_texts, properties_of}
use Rattle.cw_keys.specs.Targets.{target_of}
use Rattle.cw_keys.specs.Configs.{config_value, config_of, or_bad_value, with_value, with_key, is_record, IsCounted, HasTexts, IsConfigValue}
use Rattle.cw_keys.specs.declared.config_key.ConfigKey.{ConfigKey}
use Rattle.cw_keys.specs.declared.config_key.ConfigKey.TheVariants as key
use Rattle.cw_keys.specs.declared.config_value.ConfigValue.{ConfigValue}
use Rattle.cw_keys.specs.declared.config_value.ConfigValue.TheVariants.{Connector, Task, Commit, Target, Fencing}
use Rattle.cw_keys.specs.declared.fault.KeyFault.{KeyFault}
use Rattle.cw_keys.specs.declared.fault.KeyFault.TheVariants.{BadValue}
use Rattle.cw_keys.proofs.Cuts.{mapped}
use Rattle.cw_keys.proofs.Fitting.{value_fits}
use Rattle.cw_keys.proofs.Keys.{config_key_only}
use Rattle.cw_config.specs.declared.records.ConfigRecord.{ConfigRecord}
use Rattle.cw_config.specs.Acceptance.{record_with}
use Rattle.cw_config.specs.Compaction.{config_in}
use Rattle.cw_laws.proofs.CompactConfigs.{config-reads}
use Rattle.cw_laws.proofs.ReadValues.{IsTextData, MembersAreTexts, AreAbove, reading-text}
use Rattle.cw_laws.proofs.ReadStatuses.{at-key}
use Rattle.cw_laws.proofs.TaskTexts.{AreWritable}

-- ---- counts

small-below : (m : ℕ) → nat_lt m (2 ^ 32) ≡ true → m < 2 ^ 32
small-below m small = grind (arith, nat_tests)

below-fits : (b : Bool) (m n : ℕ) → nat_lt m (2 ^ 32) ≡ b → cond b (Some m) None ≡ Some n → n < 2 ^ 32
below-fits true m n small e = let same : m ≡ n = cc in subst (λ (x : ℕ). x < 2 ^ 32) same (small-below m small)
below-fits false m n small e = absurd (cc)

count-fits : (k : List ℕ) (d : Data) (n : ℕ) → count_at k d ≡ Some n → n < 2 ^ 32
count-fits k d n e = option_and_then_some below_32 (u64_at k d) n e (λ m there found. below-fits (nat_lt m (2 ^ 32)) m n refl found)

-- ---- properties

string-text : (d : Data) (v : List ℕ) → IsTextData d → as_str d ≡ Some v → IsUtf8 v
string-text (found.string s) v text is = let same : s ≡ v = cc in subst IsUtf8 same text
string-text found.null v text is = absurd (cc)
string-text (found.boolean b) v text is = absurd (cc)
string-text (found.number n) v text is = absurd (cc)
string-text (found.array ds) v text is = absurd (cc)
string-text (found.object ms) v text is = absurd (cc)

abbrev Props : Type 0
Props = List (List ℕ × List ℕ)

-- what properties of members have
record AreOf (ms : Members) (ps : Props) : Type 0 where
  writable : AreWritable ps
  above : (k : List ℕ) → AreAbove k ms → AllByRecursion (λ (q : List ℕ × List ℕ). slice_cmp nat_cmp k q.0 ≡ Less) ps

member-added : (k : List ℕ) (d : Data) (ms : Members) (ps : Props) (o : Option (List ℕ)) (rest : Option Props) → MembersAreTexts (found.member k d ms) →
    ((v : List ℕ) → o ≡ Some v → IsUtf8 v) → ((qs : Props) → rest ≡ Some qs → AreOf ms qs) → add_text k o rest ≡ Some ps → AreOf (found.member k d ms) ps
member-added k d ms ps None rest text value others is = absurd (cc)
member-added k d ms ps (Some v) None text value others is = absurd (cc)
member-added k d ms ps (Some v) (Some qs) text value others is =
    let those : AreOf ms qs = others qs refl in
    let same : (k, v) ∷ qs ≡ ps = cc in
    subst (AreOf (found.member k d ms)) same record {
      writable = ((those.above k text.3, those.writable.0), (text.0, value v refl, those.writable.1));
      above = λ l above. (above.0, those.above l above.1);
    }

members-written : (ms : Members) (ps : Props) → MembersAreTexts ms → member_texts ms ≡ Some ps → AreOf ms ps
members-written found.no_members ps text is =
    let same : [] ≡ ps = cc in subst (AreOf found.no_members) same record { writable = (tt, tt); above = λ k above. tt }
members-written (found.member k d ms) ps text is =
    member-added k d ms ps (as_str d) (member_texts ms) text (λ v there. string-text d v text.1 there) (λ qs there. members-written ms qs text.2 there) is

object-members : (d : Data) (ms : Members) → IsTextData d → as_object d ≡ Some ms → MembersAreTexts ms
object-members (found.object ms) fs text is = let same : ms ≡ fs = cc in subst MembersAreTexts same text
object-members found.null fs text is = absurd (cc)
object-members (found.boolean b) fs text is = absurd (cc)
object-members (found.number n) fs text is = absurd (cc)
object-members (found.string s) fs text is = absurd (cc)
object-members (found.array ds) fs text is = absurd (cc)

props-written : (d : Data) (ps : Props) → IsTextData d → properties_of d ≡ Some ps → AreWritable ps
props-written d ps text is =
    option_and_then_some member_texts (option_and_then as_object (get (codes "properties") d)) ps is
    (λ ms there made. (members-written ms ps
    (option_and_then_some as_object (get (codes "properties") d) ms there (λ e at object. object-members e ms (at-key (codes "properties") d e text at) object)) made).writable)

-- ---- values

value-written : (k : ConfigKey) (d : Data) (v : ConfigValue) → IsTextData d → config_value k d ≡ Some v → IsCounted v × HasTexts v
value-written (key.Connector name) d v text e = let x = mapped Connector (properties_of d) v e in subst (λ (w : ConfigValue). IsCounted w × HasTexts w) x.2 (tt, props-written d x.0 text x.1)
value-written (key.Task id) d v text e = let x = mapped Task (properties_of d) v e in subst (λ (w : ConfigValue). IsCounted w × HasTexts w) x.2 (tt, props-written d x.0 text x.1)
value-written (key.Commit name) d v text e = let x = mapped Commit (commit_of d) v e in subst (λ (w : ConfigValue). IsCounted w × HasTexts w) x.2 (count-fits (codes "tasks") d x.0 x.1, tt)
value-written (key.Target name) d v text e = let x = mapped Target (target_of d) v e in subst (λ (w : ConfigValue). IsCounted w × HasTexts w) x.2 (tt, tt)
value-written (key.Fencing name) d v text e = let x = mapped Fencing (fencing_of d) v e in subst (λ (w : ConfigValue). IsCounted w × HasTexts w) x.2 (count-fits (codes "task-count") d x.0 x.1, tt)

read-written : (k : ConfigKey) (text : List ℕ) (v : ConfigValue) → option_and_then (config_value k) (reading text) ≡ Some v → IsCounted v × HasTexts v
read-written k text v e = option_and_then_some (config_value k) (reading text) v e (λ d read there. value-written k d v (reading-text text d read) there)

-- ---- records

-- a value is of its key's kind, and can be written
abbrev IsWritten : ConfigKey → Option ConfigValue → Type 0
IsWritten k v = (is_record k v ≡ true) × IsConfigValue v

second-is : (k l : ConfigKey) (v w : Option ConfigValue) → ◌≡◌ {A = Result (ConfigKey × Option ConfigValue) KeyFault} (Ok (k, v)) (Ok (l, w)) → v ≡ w
second-is k l v w e = let same : ◌≡◌ {A = ConfigKey × Option ConfigValue} (k, v) (l, w) = cc in ap (λ (p : ConfigKey × Option ConfigValue). p.1) same

no-record : (k : ConfigKey) (v : Option ConfigValue) (fault : KeyFault) → ◌≡◌ {A = Result (ConfigKey × Option ConfigValue) KeyFault} (Err fault) (Ok (k, v)) → ⊥
no-record k v fault e = cc

value-is : (k : ConfigKey) (text : Option (List ℕ)) (v : Option ConfigValue) → with_value k text ≡ Ok (k, v) → IsWritten k v
value-is k None v e = by (may_be_removed k) refl e
  where
    by : (b : Bool) → may_be_removed k ≡ b → cond {A = Result (ConfigKey × Option ConfigValue) KeyFault} b (Ok (k, None)) (Err BadValue) ≡ Ok (k, v) → IsWritten k v
    by true is e = subst (IsWritten k) (second-is k k None v e) (is, tt)
    by false is e = absurd (no-record k v BadValue e)
value-is k (Some text) v e = by (option_and_then (config_value k) (reading text)) refl e
  where
    by : (o : Option ConfigValue) → option_and_then (config_value k) (reading text) ≡ o → or_bad_value k o ≡ Ok (k, v) → IsWritten k v
    by None is e = absurd (no-record k v BadValue e)
    by (Some w) is e = subst (IsWritten k) (second-is k k (Some w) v e) (value_fits k text w is, read-written k text w is)

fields-are : (offset stamp : ℕ) (o : Result (ConfigKey × Option ConfigValue) KeyFault) (r : ConfigRecord) → record_with offset stamp o ≡ Some r → o ≡ Ok (r.key, r.value)
fields-are offset stamp (Ok (k, v)) r e =
    let made : ConfigRecord = record { offset = offset; stamp = stamp; key = k; value = v } in
    let same : made ≡ r = cc in
    ap (λ (x : ConfigRecord). Ok (x.key, x.value)) same
fields-are offset stamp (Err fault) r e = absurd (cc)

-- a record that was read
pub record IsRead (r : ConfigRecord) : Type 0 where
  pub key : IsConfigKey r.key
  pub kind : is_record r.key r.value ≡ true
  pub value : IsConfigValue r.value

pub config-read : (a : Applied) (r : ConfigRecord) → config_in a ≡ Some r → IsRead r
config-read a r e =
    let at : config_key a.key ≡ Some r.key = (config-reads a r e).key in
    let fields : with_key (config_key a.key) a.value ≡ Ok (r.key, r.value) = fields-are a.offset a.stamp (config_of a.key a.value) r e in
    let written : IsWritten r.key r.value = value-is r.key a.value r.value (subst (λ (o : Option ConfigKey). with_key o a.value ≡ Ok (r.key, r.value)) at fields) in
    record { key = (config_key_only r.key a.key at).1; kind = written.0; value = written.1 }
