-- What the leader writes to the config log.
use Rattle.std.specs.Prelude.{◌≡◌, ℕ, ◌≤◌, false, List, length, Result, Ok, Err, unwrap_or, ◌==◌, if◌then◌else◌}
use Rattle.cw_types.specs.declared.logs.LogName.TheVariants.{Config}
use Rattle.cw_config.specs.declared.records.ConfigRecord.{ConfigRecord}
use Rattle.cw_config.specs.View.{generation_of}
use Rattle.cw_model.specs.declared.fault.WorldFault.{WorldFault}
use Rattle.cw_model.specs.declared.fault.WorldFault.TheVariants.{Full, StaleGeneration}
use Rattle.cw_model.specs.State.{Cluster}
use Rattle.cw_model.specs.Bodies.{config_body, frame_of}
use Rattle.cw_model.specs.EventsLeading.{fencing_of}
use Rattle.cw_model.specs.Lookups.{row_of}
use Rattle.cw_topics.specs.Configs.{have_offsets}

-- ---- what is told of a log that has no offset left

-- the log is full, since one of these records would get an offset that it can't have
pub record IsUnplaced (size : ℕ) (records : List ConfigRecord) (fault : WorldFault) : Type 0 where
  pub is : fault ≡ Full Config size (frame_of (config_body records))
  pub none : have_offsets records ≡ false

-- ---- what is known of the workers

-- each worker has read no more than there is
abbrev pub HaveRead : Cluster → Type 0
HaveRead s = (w : ℕ) → (row_of w s).prefix ≤ length s.configs

-- ---- what is tested before a fence is written

-- whether a generation is the newest
abbrev pub same_test : (own newest : ℕ) → Result (Unit {0}) WorldFault
same_test own newest = if own == newest then Ok tt else Err (StaleGeneration own newest)

-- whether a worker has fenced before the newest set of a connector's tasks
abbrev pub newest_test : ℕ → List ℕ → Cluster → Result (Unit {0}) WorldFault
newest_test w name s =
    same_test (fencing_of w name s).generation (unwrap_or (generation_of name s.configs) 0)
