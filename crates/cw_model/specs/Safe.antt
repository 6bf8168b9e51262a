-- What it means that a state of the cluster is safe: current members run disjoint connectors and tasks (KIP-415),
-- behind a fence no task of an older set commits (KIP-618), and what is committed of each source's part is what the
-- source yields, each record once and in order.
use Rattle.std.specs.Prelude.{◌≡◌, ◌≢◌, ℕ, true, false, List, [], ◌∷◌}
use Rattle.std.specs.Bool.{⊤}
use Rattle.std.specs.List.{filter, AllByRecursion}
use Rattle.cw_types.specs.declared.ids.Item.{Item}
use Rattle.cw_types.specs.declared.ids.Tag.{Tag}
use Rattle.cw_types.specs.declared.ids.PartKey.{PartKey}
use Rattle.cw_types.specs.declared.ids.Span.{Span}
use Rattle.cw_assign.specs.Items.{has}
use Rattle.cw_txn.specs.declared.entry.Entry.{Entry}
use Rattle.cw_txn.specs.declared.entry.Entry.TheVariants.{Bump, Commit, Set}
use Rattle.cw_txn.specs.History.{base_of}
use Rattle.cw_txn.specs.Legal.{IsLegal, Chains}
use Rattle.cw_data.specs.declared.entry.Batch.{Batch}
use Rattle.cw_data.specs.declared.entry.DataEntry.{DataEntry}
use Rattle.cw_feed.specs.Feeds.{IsOfSource}
use Rattle.cw_feed.specs.Yield.{Yield}
use Rattle.cw_model.specs.State.{Cluster, Setting}
use Rattle.cw_model.specs.Lookups.{is_member, held, end_or_start}
use Rattle.cw_model.specs.Fences.{StandingFence, HoldsFrom}
use Rattle.cw_model.specs.Committed.{is_task, batches_of, is_batch_of, committed_records}

-- two different current members hold nothing in common (KIP-415: what one gives up is given to another in a later
-- round)
abbrev pub IsDisjoint : Cluster → Type 0
IsDisjoint s = (v w : ℕ) (x : Item) → v ≢ w → is_member v s ≡ true → is_member w s ≡ true →
    has (held v s) x ≡ true → has (held w s) x ≡ false

-- from each standing fence on, no task of an older set commits (KIP-618)
abbrev pub IsFenced : Cluster → Type 0
IsFenced s = (name : List ℕ) (generation mark : ℕ) → StandingFence s.configs name generation mark →
    HoldsFrom name generation mark s.entries

-- what is committed of a source's part is what it yields from its last set offset to its committed offset
abbrev pub YieldsCommitted : Setting → Cluster → PartKey → Type 0
YieldsCommitted setting s part =
    Yield setting.feeds part (base_of part s.entries) (end_or_start part s.entries)
    (committed_records part s.entries s.batches)

-- each committed span begins where the one before it ended, and, where the feeds agreed when the logs were opened,
-- each part's committed records are right (KIP-618)
pub record IsExact (setting : Setting) (s : Cluster) : Type 0 where
  pub chains : (part : PartKey) → Chains part s.entries
  pub yields : setting.agreed ≡ true → (part : PartKey) → IsOfSource part → YieldsCommitted setting s part

-- the data log has just one batch of a transaction and a span's part, and it begins and ends with the span
pub record HasBatch (log : List DataEntry) (tag : Tag) (span : Span) : Type 0 where
  pub batch : Batch
  pub only : filter (is_batch_of tag span.part) (batches_of log) ≡ batch ∷ []
  pub begins : batch.from ≡ span.from
  pub ends : batch.to ≡ span.to

-- each span that a task commits has its batch
abbrev pub HasBatches : List DataEntry → Entry → Type 0
HasBatches log (Bump tid) = ⊤
HasBatches log (Commit tag generation spans) = is_task tag.tid ≡ true → AllByRecursion (HasBatch log tag) spans
HasBatches log (Set tid epoch list) = ⊤

-- nobody writes under an epoch that was bumped away, and what is committed stands in the data log (KIP-98, KIP-618)
pub record IsBacked (s : Cluster) : Type 0 where
  pub legal : IsLegal s.entries
  pub batches : AllByRecursion (HasBatches s.batches) s.entries

-- a safe state
pub record IsSafe (setting : Setting) (s : Cluster) : Type 0 where
  pub disjoint : IsDisjoint s
  pub fenced : IsFenced s
  pub exact : IsExact setting s
  pub backed : IsBacked s
