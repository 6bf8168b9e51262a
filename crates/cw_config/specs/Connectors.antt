-- The connectors that are configured, as a list of names (GET /connectors of Connect's REST API).
use Rattle.std.specs.Prelude.{◌↔◌, ℕ, List, Contains, IsSome}
use Rattle.std.specs.List.Sorted.{IsStrictlySortedBy}
use Rattle.cw_types.specs.Order.{name_cmp}
use Rattle.cw_config.specs.declared.records.ConfigRecord.{ConfigRecord}
use Rattle.cw_config.specs.View.{config_of}

-- these are the configured connectors, rising by their bytes, each once
pub record AreConnectors (records : List ConfigRecord) (names : List (List ℕ)) : Type 0 where
  pub rising : IsStrictlySortedBy name_cmp names
  pub each : (name : List ℕ) → Contains names name ↔ IsSome (config_of name records)
