-- Records for which room was made behind a list.
use Rattle.std.specs.Prelude.{List}
use Rattle.cw_config.specs.declared.records.ConfigRecord.{ConfigRecord}

-- the records so far, and the records of a frame, which are applied without memory
pub record Reserved : Type 0 where
  pub records : List ConfigRecord
  pub frame : List ConfigRecord
