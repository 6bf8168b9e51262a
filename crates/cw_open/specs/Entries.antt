-- What is kept of a list of entries, whatever stands in it. Internal.
use Rattle.std.specs.Prelude.{◌≡◌, ℕ, ◌+◌, ◌<◌, ◌^◌, ◌||◌, List, length, if◌then◌else◌}
use Rattle.std.specs.List.{list_any}
use Rattle.std.specs.BTreeMap.{BTreeMap}
use Rattle.cw_types.specs.declared.ids.Tid.{Tid}
use Rattle.cw_types.specs.declared.ids.Tag.{Tag}
use Rattle.cw_types.specs.Same.{same_tag}
use Rattle.cw_txn.specs.declared.entry.Entry.{Entry}
use Rattle.cw_txn.specs.Legal.{is_bump_of, epoch_of, is_commit_of, is_committed}
use Rattle.cw_txn.specs.Tables.{epoch_at}

-- a table, transactions and a number are those of a list
pub record AreListed (epochs : BTreeMap Tid ℕ) (committed : List Tag) (entries : List Entry) (count : ℕ) : Type 0 where
  pub bumps : (tid : Tid) → epoch_at epochs tid ≡ epoch_of tid entries
  pub commits : (tag : Tag) → list_any (same_tag tag) committed ≡ is_committed tag entries
  pub counted : count ≡ length entries
  pub few : length entries < 2 ^ 64

-- one entry more in the table and among the transactions
pub record Notes
    (entry : Entry) (old : BTreeMap Tid ℕ) (before : List Tag) (new : BTreeMap Tid ℕ) (behind : List Tag) : Type 0 where
  pub bumps : (tid : Tid) → epoch_at new tid ≡ epoch_at old tid + (if is_bump_of tid entry then 1 else 0)
  pub commits : (tag : Tag) →
      list_any (same_tag tag) behind ≡ (list_any (same_tag tag) before || is_commit_of tag entry)
