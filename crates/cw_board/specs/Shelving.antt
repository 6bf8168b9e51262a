-- The config states of all workers, and which records they have. Internal: no public contract cites this.
use Rattle.std.specs.Prelude.{◌≡◌, ℕ, zero, suc, ◌<◌, List, [], ◌∷◌, ◌++◌, length, Some, slice_get}
use Rattle.std.specs.List.{filter_map}
use Rattle.logbook.specs.Pages.{Book}
use Rattle.cw_bytes.specs.declared.applied.Applied.{Applied}
use Rattle.cw_config.specs.declared.records.ConfigRecord.{ConfigRecord}
use Rattle.cw_config.specs.Compaction.{config_in}
use Rattle.cw_board.specs.declared.posted.Posted.{Posted}
use Rattle.cw_board.specs.Records.{configs_of}

-- what is published: the records of each worker's config state, and the beginning of the history that they are
pub record Shelved : Type 0 where
  pub book : Book
  pub log : List Posted
  pub shelved : List (List ConfigRecord)

-- the record that a record of the log is, as a list
abbrev pub added : Applied → List ConfigRecord
added a = filter_map config_in (a ∷ [])

-- more records in one of these lists
abbrev pub add_at : ℕ → List ConfigRecord → List (List ConfigRecord) → List (List ConfigRecord)
add_at worker more [] = []
add_at zero more (records ∷ rest) = (records ++ more) ∷ rest
add_at (suc worker) more (records ∷ rest) = records ∷ add_at worker more rest

-- each worker's state has the records that were put for it
pub record AreShelved (workers : ℕ) (log : List Posted) (shelved : List (List ConfigRecord)) : Type 0 where
  pub count : length shelved ≡ workers
  pub each : (worker : ℕ) → worker < workers → slice_get shelved worker ≡ Some (configs_of worker log)

-- the rule of a board: all that is published is of one history
pub record IsOfBoard (book : Book) (workers : ℕ) (s : Shelved) : Type 0 where
  pub book_is : s.book ≡ book
  pub shelved : AreShelved workers s.log s.shelved
