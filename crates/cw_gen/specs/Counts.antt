-- What a run comes to, counted off its last state: the transactions that were committed (KIP-618), and the records of a
-- topic that they made.
use Rattle.std.specs.Prelude.{◌≡◌, ℕ, ◌<◌, ◌^◌, Bool, true, false, List, length, map, Some}
use Rattle.std.specs.List.{count_by, AllByRecursion}
use Rattle.cw_types.specs.declared.logs.LogName.TheVariants.{Txn}
use Rattle.cw_bytes.specs.Frames.{joined}
use Rattle.cw_txn.specs.declared.entry.Entry.{Entry}
use Rattle.cw_txn.specs.declared.entry.Entry.TheVariants.{Bump, Commit, Set}
use Rattle.cw_txn.specs.Body.{AreEntries, entries_bytes}
use Rattle.cw_txn.specs.Legal.{is_committed}
use Rattle.cw_data.specs.declared.entry.DataEntry.{DataEntry}
use Rattle.cw_data.specs.Log.{records}
use Rattle.cw_log.specs.Log.{StandsFor, kind_of}
use Rattle.cw_log.specs.State.{LogState}

-- whether an entry commits a transaction
abbrev pub is_commit : Entry → Bool
is_commit (Bump tid) = false
is_commit (Commit tag generation spans) = true
is_commit (Set tid epoch list) = false

-- how many transactions were committed
abbrev pub commit_count : List Entry → ℕ
commit_count entries = count_by is_commit entries

-- how many records of a topic are committed: their transactions are
abbrev pub committed_count : (topic : List ℕ) → List Entry → List DataEntry → ℕ
committed_count topic entries log = count_by (λ r. is_committed r.tag entries) (records topic log)

-- ---- the transaction log, as it is read again

-- a file stands for these frames of the transaction log
pub record HoldsFrames (file : List ℕ) (frames : List (List Entry)) : Type 0 where
  pub stands : StandsFor (kind_of Txn) (map entries_bytes frames) file
  pub written : AllByRecursion AreEntries frames
  pub few : length (joined frames) < 2 ^ 64

-- an opened log has these frames
pub record HasFrames {D : Type 0} (log : LogState D) (frames : List (List Entry)) : Type 0 where
  pub bodies : log.bodies ≡ Some (map entries_bytes frames)
  pub count : log.count ≡ length frames
  pub written : AllByRecursion AreEntries frames
  pub few : length (joined frames) < 2 ^ 64

-- a body is what these entries are written as
pub record IsBodyOf (body : List ℕ) (entries : List Entry) : Type 0 where
  pub is : body ≡ entries_bytes entries
  pub written : AreEntries entries
