-- Keys and values that may stand behind any records of the config log may stand there one behind the other.
use Rattle.std.proofs.Common.{◌≡◌, ℕ, ◌+◌, ◌≤◌, ◌∷◌, ◌++◌, [], true, List, Option, map, arith}
use Rattle.std.specs.List.{AllByRecursion, enumerate_from}
use Rattle.cw_keys.specs.ConfigKeys.{IsConfigKey}
use Rattle.cw_keys.specs.Configs.{IsConfigValue, is_record}
use Rattle.cw_keys.specs.declared.config_key.ConfigKey.{ConfigKey}
use Rattle.cw_keys.specs.declared.config_value.ConfigValue.{ConfigValue}
use Rattle.cw_config.specs.declared.records.ConfigRecord.{ConfigRecord}
use Rattle.cw_config.specs.Acceptance.{end_of}
use Rattle.cw_rest.specs.Seen.{KeyedValues}
use Rattle.cw_model.specs.ConfigsAllowed.{AreAllowedConfigs, FitsBehind}
use Rattle.cw_config.proofs.Pushed.{end_of-push}

-- a key and a value that may stand behind any records
pub record MayStand (kv : ConfigKey × Option ConfigValue) : Type 0 where
  pub key : IsConfigKey kv.0
  pub kind : is_record kv.0 kv.1 ≡ true
  pub value : IsConfigValue kv.1
  pub fits : (before : List ConfigRecord) → FitsBehind before kv.0 kv.1

abbrev pub recorded : ℕ → ℕ × (ConfigKey × Option ConfigValue) → ConfigRecord
recorded stamp r = record { offset = r.0; stamp = stamp; key = r.1.0; value = r.1.1 }

-- such values are allowed, one behind the other
pub values-allowed : (stamp : ℕ) (before : List ConfigRecord) (n : ℕ) (values : KeyedValues) → end_of before ≤ n → AllByRecursion MayStand values →
    AreAllowedConfigs before (map (recorded stamp) (enumerate_from n values))
values-allowed stamp before n [] below each = tt
values-allowed stamp before n (kv ∷ values) below each = (
  record { rising = below; key = each.0.key; kind = each.0.kind; value = each.0.value; fits = each.0.fits before },
  values-allowed stamp (before ++ recorded stamp (n, kv) ∷ []) (n + 1) values (omega (arith, below, end_of-push before (recorded stamp (n, kv)))) each.1,
)
