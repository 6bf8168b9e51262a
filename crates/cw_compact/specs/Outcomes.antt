-- What a list of transaction entries says, so that no look-up walks it. Internal: no public contract cites this.
use Rattle.std.specs.Prelude.{◌≡◌, ℕ, ◌||◌, Bool, false, nat_lt, nat_le, List, length, drop, Option, None, Some}
use Rattle.std.specs.Prelude.{unwrap_or}
use Rattle.std.specs.Option.{option_map_or}
use Rattle.std.specs.List.{list_any, position}
use Rattle.std.specs.BTreeMap.{BTreeMap, get}
use Rattle.cw_types.specs.declared.ids.Tid.{Tid}
use Rattle.cw_types.specs.declared.ids.Tag.{Tag}
use Rattle.cw_types.specs.declared.ids.PartKey.{PartKey}
use Rattle.cw_types.specs.Same.{tid_order, tag_order, part_order}
use Rattle.cw_txn.specs.declared.entry.Entry.{Entry}
use Rattle.cw_txn.specs.Legal.{epoch_of, is_commit_of}
use Rattle.cw_offset.specs.declared.body.OffsetEntry.{OffsetEntry}
use Rattle.cw_offset.specs.Compaction.{sets_part, replaces_part}
use Rattle.cw_compact.specs.declared.outcomes.Outcomes.{Outcomes}

-- whether an entry sets or replaces a part
abbrev pub changes_part : List OffsetEntry → PartKey → Entry → Bool
changes_part log part entry = sets_part part entry || replaces_part log part entry

-- the epoch that a table has of a producer
abbrev pub epoch_at : BTreeMap Tid ℕ → Tid → ℕ
epoch_at epochs tid = unwrap_or (get tid_order epochs tid) 0

-- the first one that there is
abbrev pub first_of : Option ℕ → Option ℕ → Option ℕ
first_of None next = next
first_of (Some place) next = Some place

-- whether a change stands behind a commit
abbrev pub is_later : Option ℕ → Option ℕ → Bool
is_later None change = false
is_later (Some commit) None = false
is_later (Some commit) (Some change) = nat_lt commit change

-- the tables say what the entries do: of each producer its epoch, of each transaction its first commit, and of each
-- part whether it changes from a place on
pub record AreTables (outcomes : Outcomes) (log : List OffsetEntry) (entries : List Entry) : Type 0 where
  pub epochs : (tid : Tid) → epoch_at outcomes.epochs tid ≡ epoch_of tid entries
  pub commits : (tag : Tag) → get tag_order outcomes.commits tag ≡ position (is_commit_of tag) entries
  pub changes : (part : PartKey) (from : ℕ) → list_any (changes_part log part) (drop from entries)
      ≡ option_map_or (nat_le from) (get part_order outcomes.changes part) false

-- all that is known of the entries
pub record AreOutcomes (outcomes : Outcomes) (log : List OffsetEntry) (entries : List Entry) : Type 0 where
  pub tables : AreTables outcomes log entries
  pub count : outcomes.count ≡ length entries
