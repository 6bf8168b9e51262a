-- What a replay of a log's bodies has taken.
use Rattle.std.specs.Prelude.{◌≡◌, ℕ, List, ◌++◌, length, replicate}
use Rattle.cw_txn.specs.declared.entry.Entry.{Entry}
use Rattle.cw_txn.specs.Body.{entries_bytes, AreEntries}

-- the entries, the oldest first, and the gate of each entry's frame
pub record Replayed : Type 0 where
  pub entries : List Entry
  pub gates : List ℕ

-- a body's entries were taken, all with the gate of its frame
pub record TakesBody (body : List ℕ) (gate : ℕ) (old new : Replayed) : Type 0 where
  pub group : List Entry
  pub are : AreEntries group
  pub spelled : body ≡ entries_bytes group
  pub entries : new.entries ≡ old.entries ++ group
  pub gates : new.gates ≡ old.gates ++ replicate (length group) gate
