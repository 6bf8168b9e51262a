-- Each config that a worker has read of an allowed list is one that its class takes.
use Rattle.std.proofs.Common.{◌≡◌, ℕ, zero, suc, ◌++◌, ◌∷◌, [], Bool, true, false, cond, List, Option, Some, None, option_and_then, take, refl, sym, subst, ◌∙◌}
use Rattle.std.specs.Option.{option_or}
use Rattle.std.specs.List.{AllByRecursion}
use Rattle.cw_bytes.specs.Frames.{EachFrom}
use Rattle.cw_keys.specs.Configs.{is_record}
use Rattle.cw_keys.specs.declared.config_key.ConfigKey.{ConfigKey}
use Rattle.cw_keys.specs.declared.config_key.ConfigKey.TheVariants as key
use Rattle.cw_keys.specs.declared.config_value.ConfigValue.{ConfigValue}
use Rattle.cw_keys.specs.declared.config_value.ConfigValue.TheVariants as value
use Rattle.cw_config.proofs.Rising.{last_where-cons}
use Rattle.cw_config.specs.declared.records.ConfigRecord.{ConfigRecord}
use Rattle.cw_config.specs.Records.{same_key, has_key, last_where, last_of, value_of}
use Rattle.cw_config.specs.View.{Properties, properties_in, config_of}
use Rattle.cw_plugin.specs.Tasks.{IsFaultless}
use Rattle.cw_model.specs.ConfigsAllowed.{IsAllowedConfig, AreAllowedConfigs, FitsBehind}
use Rattle.cw_ticks.specs.Proposed.{AreFaultless}

-- a record is allowed somewhere
abbrev Allowed : ConfigRecord → Type 0
Allowed r = (before : List ConfigRecord) × IsAllowedConfig before r

-- what is so of each record that was read
each-read : (n : ℕ) (before xs : List ConfigRecord) → AreAllowedConfigs before xs → AllByRecursion Allowed (take n xs)
each-read zero before xs each = tt
each-read (suc n) before [] each = tt
each-read (suc n) before (x ∷ xs) each = ((before, each.0), each-read n (before ++ x ∷ []) xs each.1)

found-here : (test : ConfigRecord → Bool) (x r : ConfigRecord) (b : Bool) → test x ≡ b → Allowed x → cond b (Some x) None ≡ Some r →
    Allowed r × (test r ≡ true)
found-here test x r true passes here found =
    let same : x ≡ r = cc in (subst Allowed same here, subst (λ z. test z ≡ true) same passes)
found-here test x r false fails here found = absurd (cc)

found-step : (test : ConfigRecord → Bool) (x r : ConfigRecord) (o : Option ConfigRecord) → (o ≡ Some r → Allowed r × (test r ≡ true)) →
    Allowed x → option_or o (cond (test x) (Some x) None) ≡ Some r → Allowed r × (test r ≡ true)
found-step test x r (Some y) behind here found = behind found
found-step test x r None behind here found = found-here test x r (test x) refl here found

-- what is found last is one of them, and passes
last-holds : (test : ConfigRecord → Bool) (records : List ConfigRecord) (r : ConfigRecord) → AllByRecursion Allowed records →
    last_where test records ≡ Some r → Allowed r × (test r ≡ true)
last-holds test [] r each found = absurd (cc)
last-holds test (x ∷ xs) r each found =
    found-step test x r (last_where test xs) (last-holds test xs r each.1) each.0 (sym (last_where-cons test x xs) ∙ found)

value-faultless : (name : List ℕ) (props : Properties) (before : List ConfigRecord) (k : ConfigKey) (v : Option ConfigValue) →
    same_key k (key.Connector name) ≡ true → is_record k v ≡ true → FitsBehind before k v →
    option_and_then properties_in v ≡ Some props → IsFaultless props
value-faultless name props before (key.Connector a) None same kind fits there = absurd (cc)
value-faultless name props before (key.Connector a) (Some (value.Connector p)) same kind fits there =
    let equal : p ≡ props = cc in subst IsFaultless equal fits
value-faultless name props before (key.Connector a) (Some (value.Task p)) same kind fits there = absurd (cc)
value-faultless name props before (key.Connector a) (Some (value.Commit n)) same kind fits there = absurd (cc)
value-faultless name props before (key.Connector a) (Some (value.Target target)) same kind fits there = absurd (cc)
value-faultless name props before (key.Connector a) (Some (value.Fencing n)) same kind fits there = absurd (cc)
value-faultless name props before (key.Task id) v same kind fits there = absurd (cc)
value-faultless name props before (key.Commit a) v same kind fits there = absurd (cc)
value-faultless name props before (key.Target a) v same kind fits there = absurd (cc)
value-faultless name props before (key.Fencing a) v same kind fits there = absurd (cc)

pub read-faultless : (n : ℕ) (records : List ConfigRecord) → AreAllowedConfigs [] records → AreFaultless (take n records)
read-faultless n records allowed name props is = at (last_of (key.Connector name) (take n records)) refl is where
  at : (o : Option ConfigRecord) → last_of (key.Connector name) (take n records) ≡ o →
      option_and_then properties_in (value_of o) ≡ Some props → IsFaultless props
  at None none there = absurd (cc)
  at (Some r) found there =
      let parts = last-holds (has_key (key.Connector name)) (take n records) r (each-read n [] records allowed) found in
      let a : IsAllowedConfig parts.0.0 r = parts.0.1 in
      value-faultless name props parts.0.0 r.key r.value parts.1 a.kind a.fits there
