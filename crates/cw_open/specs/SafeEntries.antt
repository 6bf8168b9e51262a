-- What makes an entry of the transaction log safe but for its parts, by what is kept of the other logs. Internal.
use Rattle.std.specs.Prelude.{ℕ, ◌≤◌, List}
use Rattle.std.specs.List.{Any, AllByRecursion}
use Rattle.cw_types.specs.declared.ids.Tag.{Tag}
use Rattle.cw_types.specs.declared.ids.Span.{Span}
use Rattle.cw_bytes.specs.Frames.{EachFrom, joined}
use Rattle.cw_config.specs.declared.records.ConfigRecord.{ConfigRecord}
use Rattle.cw_txn.specs.declared.entry.Entry.{Entry}
use Rattle.cw_txn.specs.Allowed.{IsAllowedBehind}
use Rattle.cw_data.specs.declared.entry.DataEntry.{DataEntry}
use Rattle.cw_model.specs.Fences.{StandingFence, IsNotOlder}
use Rattle.cw_model.specs.Committed.{batches_of}
use Rattle.cw_model.specs.StandsFor.{IsBatchFor, HasSomeBatches}
use Rattle.cw_open.specs.declared.safety.Known.{Known}
use Rattle.cw_open.specs.Backing.{AreBatchSpans}
use Rattle.cw_open.specs.Standing.{AreFences}

-- frames of entries, each of which may stand behind those before it
abbrev pub AreAllowedFrames : List (List Entry) → List (List Entry) → Type 0
AreAllowedFrames before frames = EachFrom (λ before frame. EachFrom IsAllowedBehind (joined before) frame) before frames

-- what is known of these logs
pub record AreKnown (known : Known) (records : List ConfigRecord) (log : List DataEntry) : Type 0 where
  pub fences : AreFences known.fences records
  pub spans : AreBatchSpans known.spans log

-- an entry at a place has its batches, and is no commit of an older task behind a standing fence
pub record StandsBehind
    (records : List ConfigRecord) (log : List DataEntry) (place : ℕ) (entry : Entry) : Type 0 where
  pub batches : HasSomeBatches log entry
  pub fenced : (name : List ℕ) (generation mark : ℕ) → StandingFence records name generation mark →
      mark ≤ place → IsNotOlder name generation entry

-- the same of a commit of a connector's task
pub record IsSafeTask (records : List ConfigRecord) (log : List DataEntry) (connector : List ℕ) (place : ℕ) (tag : Tag)
    (generation : ℕ) (spans : List Span) : Type 0 where
  pub batches : AllByRecursion (λ span. Any (IsBatchFor tag span) (batches_of log)) spans
  pub fenced : (newer mark : ℕ) → StandingFence records connector newer mark → mark ≤ place → newer ≤ generation
