-- What is read can be written: its value is of its key's kind.
use Rattle.std.proofs.Common.{◌≡◌, ℕ, List, true, Some, option_and_then, refl, subst}
use Rattle.std.proofs.lemmas.Option.{option_and_then_some}
use Rattle.serde_json.specs.Data.{Data}
use Rattle.cw_json.specs.Reading.{reading}
use Rattle.cw_keys.specs.Counts.{commit_of, fencing_of}
use Rattle.cw_keys.specs.Properties.{properties_of}
use Rattle.cw_keys.specs.Targets.{target_of}
use Rattle.cw_keys.specs.Configs.{config_value, is_of_kind}
use Rattle.cw_keys.specs.declared.config_key.ConfigKey.{ConfigKey}
use Rattle.cw_keys.specs.declared.config_key.ConfigKey.TheVariants as key
use Rattle.cw_keys.specs.declared.config_value.ConfigValue.{ConfigValue}
use Rattle.cw_keys.specs.declared.config_value.ConfigValue.TheVariants.{Connector, Task, Commit, Target, Fencing}
use Rattle.cw_keys.proofs.Cuts.{mapped}

of_kind : (k : ConfigKey) (d : Data) (v : ConfigValue) → config_value k d ≡ Some v → is_of_kind k v ≡ true
of_kind (key.Connector name) d v e = let x = mapped Connector (properties_of d) v e in subst (λ (w : ConfigValue). is_of_kind (key.Connector name) w ≡ true) x.2 refl
of_kind (key.Task id) d v e = let x = mapped Task (properties_of d) v e in subst (λ (w : ConfigValue). is_of_kind (key.Task id) w ≡ true) x.2 refl
of_kind (key.Commit name) d v e = let x = mapped Commit (commit_of d) v e in subst (λ (w : ConfigValue). is_of_kind (key.Commit name) w ≡ true) x.2 refl
of_kind (key.Target name) d v e = let x = mapped Target (target_of d) v e in subst (λ (w : ConfigValue). is_of_kind (key.Target name) w ≡ true) x.2 refl
of_kind (key.Fencing name) d v e = let x = mapped Fencing (fencing_of d) v e in subst (λ (w : ConfigValue). is_of_kind (key.Fencing name) w ≡ true) x.2 refl

-- a value that a text tells is of its key's kind
pub value_fits : (k : ConfigKey) (text : List ℕ) (v : ConfigValue) → option_and_then (config_value k) (reading text) ≡ Some v → is_of_kind k v ≡ true
value_fits k text v e = option_and_then_some (config_value k) (reading text) v e (λ d read found. of_kind k d v found)
