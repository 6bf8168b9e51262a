-- When what the log files hold stands for a state without workers, and which harm is met first where it doesn't. All
-- of it is this project's own, as are the files.
use Rattle.std.specs.Prelude.{◌≡◌, ◌↔◌, ◌⊎◌, ℕ, ◌≤◌, true, List, [], ◌∷◌, ◌++◌, length, Some, None, IsSome}
use Rattle.std.specs.Bool.{⊤}
use Rattle.std.specs.Option.{IsSomeAnd}
use Rattle.std.specs.List.{AllZip, AllByRecursion, Any}
use Rattle.cw_types.specs.declared.ids.Tag.{Tag}
use Rattle.cw_types.specs.declared.ids.PartKey.{PartKey}
use Rattle.cw_types.specs.declared.ids.Span.{Span}
use Rattle.cw_types.specs.declared.logs.LogName.{LogName}
use Rattle.cw_types.specs.declared.logs.LogName.TheVariants.{Config, Offsets, Status, Txn, Batches}
use Rattle.cw_bytes.specs.declared.applied.Applied.{Applied}
use Rattle.cw_bytes.specs.Unread.{Unread}
use Rattle.cw_bytes.specs.Reading.{Read, records_at, body_at}
use Rattle.cw_bytes.specs.Frames.{EachFrom, joined}
use Rattle.cw_config.specs.declared.records.ConfigRecord.{ConfigRecord}
use Rattle.cw_config.specs.Compaction.{config_in, configs_in}
use Rattle.cw_log.specs.declared.fault.Harm.{Harm}
use Rattle.cw_log.specs.declared.fault.Harm.TheVariants.{Magic, Version, Kind, Header, SameSide, Length, Content}
use Rattle.cw_log.specs.declared.fault.Harm.TheVariants.{Unsafe}
use Rattle.cw_assign.specs.declared.delay.Delay.TheVariants.{Idle}
use Rattle.cw_group.specs.Group.{empty_group}
use Rattle.cw_txn.specs.declared.entry.Entry.{Entry}
use Rattle.cw_txn.specs.declared.entry.Entry.TheVariants.{Bump, Commit, Set}
use Rattle.cw_txn.specs.Legal.{ChainsBehind}
use Rattle.cw_txn.specs.Allowed.{IsAllowedBehind}
use Rattle.cw_txn.specs.BodyReading.{entries_at}
use Rattle.cw_offset.specs.declared.body.OffsetEntry.{OffsetEntry}
use Rattle.cw_offset.specs.BodyReading.{entry_at as stored_at}
use Rattle.cw_offset.specs.Acceptance.{IsAllowedStored}
use Rattle.cw_status.specs.Compaction.{IsAllowedStatus}
use Rattle.cw_data.specs.declared.entry.Batch.{Batch}
use Rattle.cw_data.specs.declared.entry.DataEntry.{DataEntry}
use Rattle.cw_data.specs.BodyReading.{entry_at as data_at}
use Rattle.cw_model.specs.State.{Setting, Cluster, Paired}
use Rattle.cw_model.specs.Lookups.{list_end}
use Rattle.cw_model.specs.Bodies.{statuses_in}
use Rattle.cw_model.specs.Fences.{StandingFence, IsNotOlder}
use Rattle.cw_model.specs.Committed.{is_task, batches_of, is_batch_of, Agrees}
use Rattle.cw_model.specs.ConfigsAllowed.{IsAllowedConfig}
use Rattle.cw_model.specs.Allowed.{IsAllowedData}

-- what the files of the five logs hold: the bodies of their frames, of a pair those of its chosen side, and that
-- side's number
pub record Stored : Type 0 where
  pub config : Paired (List ℕ)
  pub offsets : Paired (List ℕ)
  pub status : Paired (List ℕ)
  pub txn : List (List ℕ)
  pub batches : List (List ℕ)

-- the same, read field by field
pub record Frames : Type 0 where
  pub config : List (List Applied)
  pub offsets : List OffsetEntry
  pub status : List (List Applied)
  pub txn : List (List Entry)
  pub batches : List DataEntry

-- the transaction list that these frames hold
abbrev pub entries_in : Frames → List Entry
entries_in frames = joined frames.txn

-- ---- reading

-- bodies that are read as these frames
abbrev pub AreReadAs : {A : Type 0} → (Unread → Read A) → List (List ℕ) → List A → Type 0
AreReadAs at bodies frames = AllZip (λ body frame. body_at at body ≡ Some frame) bodies frames

-- the bodies of all logs are read as these
pub record AreRead (stored : Stored) (frames : Frames) : Type 0 where
  pub config : AreReadAs records_at stored.config.frames frames.config
  pub offsets : AreReadAs stored_at stored.offsets.frames frames.offsets
  pub status : AreReadAs records_at stored.status.frames frames.status
  pub txn : AreReadAs entries_at stored.txn frames.txn
  pub batches : AreReadAs data_at stored.batches frames.batches

-- ---- the first that lacks something

-- the place of the first member of a list that lacks a fact of it and of all before it
pub record IsFirstLacking {A : Type 0} (P : List A → A → Type 0) (xs : List A) (at : ℕ) : Type 0 where
  pub before : List A
  pub lacking : A
  pub behind : List A
  pub split : xs ≡ before ++ lacking ∷ behind
  pub place : length before ≡ at
  pub each : EachFrom P [] before
  pub lacks : ¬ P before lacking

-- a judgement of a log: nothing lacks, or the first frame that lacks something stands at this place
pub record Judgement : Type 1 where
  pub sound : Type 0
  pub lacks : ℕ → Type 0

-- a list is judged by a fact of each member and of all those before it
abbrev pub judged : {A : Type 0} → (List A → A → Type 0) → List A → Judgement
judged P xs = record { sound = EachFrom P [] xs; lacks = IsFirstLacking P xs }

-- the logs that are judged before a log
abbrev pub logs_before : LogName → List LogName
logs_before Config = []
logs_before Offsets = Config ∷ []
logs_before Status = Config ∷ Offsets ∷ []
logs_before Txn = Config ∷ Offsets ∷ Status ∷ []
logs_before Batches = Config ∷ Offsets ∷ Status ∷ Txn ∷ []

-- all logs are sound
abbrev pub AreSound : (LogName → Judgement) → Type 0
AreSound judge = AllByRecursion (λ log. (judge log).sound) (Config ∷ Offsets ∷ Status ∷ Txn ∷ Batches ∷ [])

-- the first log that lacks something, and where
pub record IsFirstOf (judge : LogName → Judgement) (log : LogName) (at : ℕ) : Type 0 where
  pub earlier : AllByRecursion (λ other. (judge other).sound) (logs_before log)
  pub here : (judge log).lacks at

-- ---- first each body is read

-- a body that can be read, whatever stands before it
abbrev pub IsReadable : {A : Type 0} → (Unread → Read A) → List (List ℕ) → List ℕ → Type 0
IsReadable at before body = IsSome (body_at at body)

-- the bodies of a log, as they are read
abbrev pub reading_of : Stored → LogName → Judgement
reading_of stored Config = judged (IsReadable records_at) stored.config.frames
reading_of stored Offsets = judged (IsReadable stored_at) stored.offsets.frames
reading_of stored Status = judged (IsReadable records_at) stored.status.frames
reading_of stored Txn = judged (IsReadable entries_at) stored.txn
reading_of stored Batches = judged (IsReadable data_at) stored.batches

-- ---- then each must be allowed at its place

-- What is allowed, item by item, and the definition that says it:
-- an offset above all earlier ones of its log, a key and a value in their grammars   IsAllowedConfig, IsAllowedStatus,
--                                                                                    IsAllowedOffset
-- a connector's value that its class takes, a task's value that names a task         FitsBehind
-- a commit that finds its tasks, none of whose parts is in two, and none if stopped  FitsCommit
-- a target Stopped that finds no task                                                FitsTarget
-- a fence that has its commit's number                                               FitsFence
-- entries that are legal, of parts that their producers own, none named twice        IsAllowedBehind (of transactions)
-- no epoch of a batch, an offset record or a marker ahead of its producer's          IsKnown
-- a batch that is its transaction's first of its part, without line ends in values   IsAllowedBatch
-- an offset record before its transaction's marker                                   AreAllowedRecords
-- a marker that is its transaction's first, and tells how that ended                 IsAllowedMark

-- records of the config topic, each of which may stand behind those before it
abbrev pub IsAllowedFrame : List ConfigRecord → List Applied → Type 0
IsAllowedFrame before [] = ⊤
IsAllowedFrame before (a ∷ frame) = IsSomeAnd (config_in a)
    (λ r. IsAllowedConfig before r × IsAllowedFrame (before ++ r ∷ []) frame)

-- the frames of a log, as each is allowed at its place
abbrev pub allowing_of : Frames → LogName → Judgement
allowing_of frames Config = judged (λ before frame. IsAllowedFrame (configs_in before) frame) frames.config
allowing_of frames Offsets = judged (IsAllowedStored (entries_in frames)) frames.offsets
allowing_of frames Status = judged (λ before frame. EachFrom IsAllowedStatus (joined before) frame) frames.status
allowing_of frames Txn = judged (λ before frame. EachFrom IsAllowedBehind (joined before) frame) frames.txn
allowing_of frames Batches = judged (IsAllowedData (entries_in frames)) frames.batches

-- ---- and then all must be safe

-- a batch of a transaction has the part, begin and end of a span
pub record IsBatchFor (tag : Tag) (span : Span) (batch : Batch) : Type 0 where
  pub is_of : is_batch_of tag span.part batch ≡ true
  pub begins : batch.from ≡ span.from
  pub ends : batch.to ≡ span.to

-- each span that a task commits has a batch
abbrev pub HasSomeBatches : List DataEntry → Entry → Type 0
HasSomeBatches log (Bump tid) = ⊤
HasSomeBatches log (Commit tag generation spans) =
    is_task tag.tid ≡ true → AllByRecursion (λ span. Any (IsBatchFor tag span) (batches_of log)) spans
HasSomeBatches log (Set tid epoch list) = ⊤

-- an entry behind others goes on from where its parts ended, has its batches, and is no commit of an older task behind
-- a standing fence
pub record IsSafeEntry
    (records : List ConfigRecord) (log : List DataEntry) (before : List Entry) (entry : Entry) : Type 0 where
  pub chains : (part : PartKey) → ChainsBehind part before entry
  pub batches : HasSomeBatches log entry
  pub fenced : (name : List ℕ) (generation mark : ℕ) → StandingFence records name generation mark →
      mark ≤ list_end before → IsNotOlder name generation entry

-- no stamp is past the end of the transaction list
abbrev pub AreStamped : List Entry → List Applied → Type 0
AreStamped entries records = AllByRecursion (λ a. a.stamp ≤ list_end entries) records

-- the frames of a log, as they are safe
abbrev pub safety_of : Frames → LogName → Judgement
safety_of frames Config = judged (λ before frame. AreStamped (entries_in frames) frame) frames.config
safety_of frames Offsets = judged (λ before frame. ⊤) frames.offsets
safety_of frames Status = judged (λ before frame. ⊤) frames.status
safety_of frames Txn = judged (λ before frame. EachFrom (IsSafeEntry (configs_in frames.config) frames.batches)
    (joined before) frame) frames.txn
safety_of frames Batches = judged (λ before frame. ⊤) frames.batches

-- ---- the first harm

-- a body that is read, though the frame isn't allowed at its place
pub record IsFirstNotAllowed (stored : Stored) (log : LogName) (at : ℕ) : Type 0 where
  pub frames : Frames
  pub read : AreRead stored frames
  pub first : IsFirstOf (allowing_of frames) log at

-- a frame that is allowed, and isn't safe
pub record IsFirstUnsafe (stored : Stored) (log : LogName) (at : ℕ) : Type 0 where
  pub frames : Frames
  pub read : AreRead stored frames
  pub allowed : AreSound (allowing_of frames)
  pub first : IsFirstOf (safety_of frames) log at

-- the first harm over all logs, and the number of its frame: all bodies are read before one is judged, and all are
-- judged before one is called unsafe
abbrev pub IsFirstHarm : Stored → LogName → ℕ → Harm → Type 0
IsFirstHarm stored log at Magic = ⊥
IsFirstHarm stored log at Version = ⊥
IsFirstHarm stored log at Kind = ⊥
IsFirstHarm stored log at Header = ⊥
IsFirstHarm stored log at SameSide = ⊥
IsFirstHarm stored log at Length = ⊥
IsFirstHarm stored log at Content = IsFirstOf (reading_of stored) log at ⊎ IsFirstNotAllowed stored log at
IsFirstHarm stored log at Unsafe = IsFirstUnsafe stored log at

-- ---- the state

-- a pair of these frames on the side that was chosen
abbrev pub on_side_of : {A : Type 0} → Paired (List ℕ) → List A → Paired A
on_side_of chosen frames = record { frames = frames; side = chosen.side }

-- the logs of a state hold just these frames, as they were spelled, and on the sides that were chosen
pub record Holds (stored : Stored) (frames : Frames) (s : Cluster) : Type 0 where
  pub config : s.config ≡ on_side_of stored.config frames.config
  pub offsets : s.offsets ≡ on_side_of stored.offsets frames.offsets
  pub status : s.status ≡ on_side_of stored.status frames.status
  pub txn : s.txn ≡ frames.txn
  pub batches : s.batches ≡ frames.batches

-- a state as it is opened: its lists are what its logs are read as, there is no worker, and nothing was done yet
pub record IsOpened (s : Cluster) : Type 0 where
  pub configs : s.configs ≡ configs_in s.config.frames
  pub statuses : s.statuses ≡ statuses_in s.status.frames
  pub entries : s.entries ≡ joined s.txn
  pub group : s.group ≡ empty_group
  pub lost : s.lost ≡ []
  pub delay : s.delay ≡ Idle
  pub moment : s.moment ≡ 0
  pub rows : s.rows ≡ []
  pub instances : s.instances ≡ []
  pub journal : s.journal ≡ []
  pub closed : s.closed ≡ None

-- what is stored stands for a state without workers, and for no other: each body is read, allowed at its place and safe
pub record StandFor (stored : Stored) (s : Cluster) : Type 0 where
  pub frames : Frames
  pub read : AreRead stored frames
  pub allowed : AreSound (allowing_of frames)
  pub safe : AreSound (safety_of frames)
  pub holds : Holds stored frames s
  pub opened : IsOpened s

-- a setting says of the state that was opened whether the feeds agree with it
abbrev pub TellsWhetherFeedsAgree : Setting → Cluster → Type 0
TellsWhetherFeedsAgree setting s = setting.agreed ≡ true ↔ Agrees setting.feeds s.entries s.batches
