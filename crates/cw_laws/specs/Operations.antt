-- What a connector may be given by an operation of Connect's REST API, so that it may be written: a name, and a config
-- that its class takes. This project's own.
use Rattle.std.specs.Prelude.{ℕ, List}
use Rattle.cw_types.specs.Name.{IsName}
use Rattle.cw_json.specs.Plain.{AreTexts}
use Rattle.cw_json.specs.Rising.{IsRising}
use Rattle.cw_config.specs.View.{Properties}
use Rattle.cw_plugin.specs.Tasks.{IsFaultless}

-- a name and a config that a connector may have: its class takes it, and its keys and values are texts in order
pub record MayConfigure (name : List ℕ) (props : Properties) : Type 0 where
  pub named : IsName name
  pub faultless : IsFaultless props
  pub rising : IsRising props
  pub texts : AreTexts props
