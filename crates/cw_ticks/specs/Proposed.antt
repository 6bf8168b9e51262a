-- Connectors that need other tasks than they have, as they are found.
use Rattle.std.specs.Prelude.{◌≡◌, List, ℕ, Option, Some}
use Rattle.cw_types.specs.Task.{task_id}
use Rattle.cw_keys.specs.declared.config_key.ConfigKey.{ConfigKey}
use Rattle.cw_keys.specs.declared.config_key.ConfigKey.TheVariants as key
use Rattle.cw_keys.specs.declared.config_value.ConfigValue.{ConfigValue}
use Rattle.cw_keys.specs.declared.config_value.ConfigValue.TheVariants as value
use Rattle.cw_config.specs.declared.records.ConfigRecord.{ConfigRecord}
use Rattle.cw_config.specs.View.{Properties, config_of}
use Rattle.cw_plugin.specs.Tasks.{IsFaultless}
use Rattle.cw_model.specs.TickRules.{Proposing}
use Rattle.cw_ticks.specs.declared.proposals.Proposal.{Proposal}

-- each connector's config is one that its class takes
abbrev pub AreFaultless : List ConfigRecord → Type 0
AreFaultless records = (name : List ℕ) (props : Properties) → config_of name records ≡ Some props → IsFaultless props

-- a proposal as the model has it
abbrev pub proposing : Proposal → Proposing
proposing p = record { leader = p.leader; connector = p.connector }

-- the record of a task's config, by the task's number
abbrev pub task_record : List ℕ → ℕ × Properties → ConfigKey × Option ConfigValue
task_record name p = (key.Task (task_id name p.0), Some (value.Task p.1))
