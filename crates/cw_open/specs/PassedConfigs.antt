-- What one record, or one frame, more of the config log does to the records that were passed. Internal.
use Rattle.std.specs.Prelude.{◌≡◌, ◌↔◌, ℕ, Bool, IsTrue, List, [], ◌∷◌, ◌++◌, Option, Some}
use Rattle.std.specs.Option.{IsSomeAnd}
use Rattle.std.specs.List.{filter_map}
use Rattle.cw_bytes.specs.declared.applied.Applied.{Applied}
use Rattle.cw_keys.specs.declared.target.Target.{Target}
use Rattle.cw_keys.specs.declared.target.Target.TheVariants.{Stopped}
use Rattle.cw_config.specs.declared.records.ConfigRecord.{ConfigRecord}
use Rattle.cw_config.specs.Acceptance.{applied}
use Rattle.cw_config.specs.Compaction.{config_in}
use Rattle.cw_model.specs.ConfigsAllowed.{IsAllowedConfig}
use Rattle.cw_model.specs.StandsFor.{IsAllowedFrame}

-- a record more: whether it is one that may stand behind those before it; then it is taken
pub record TakesConfig (old : List ConfigRecord) (a : Applied) (new : List ConfigRecord) (yes : Bool) : Type 0 where
  pub fits : IsTrue yes ↔ IsSomeAnd (config_in a) (IsAllowedConfig old)
  pub taken : IsTrue yes → (r : ConfigRecord) → config_in a ≡ Some r → new ≡ old ++ r ∷ []

-- a frame more
pub record TakesConfigs
    (old : List ConfigRecord) (frame : List Applied) (new : List ConfigRecord) (yes : Bool) : Type 0 where
  pub fits : IsTrue yes ↔ IsAllowedFrame old frame
  pub taken : IsTrue yes → new ≡ old ++ filter_map config_in frame

-- a connector that is stopped has no tasks
abbrev pub MayBeStopped : Target → ℕ → Type 0
MayBeStopped target count = target ≡ Stopped → count ≡ 0

-- the records with one more, where it is one that may stand behind them
abbrev pub with_config : List ConfigRecord → Applied → Option (List ConfigRecord)
with_config records a = applied records a.offset a.stamp a.key a.value
