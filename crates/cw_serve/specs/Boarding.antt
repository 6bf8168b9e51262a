-- What is published of the config log on the board of a server, and what a call was answered from a view of it. This
-- project's own.
use Rattle.std.specs.Prelude.{◌≡◌, ℕ, ◌<◌, ◌≤◌, Bool, true, false, List, [], length, take, Option, Some, None}
use Rattle.std.specs.Prelude.{slice_index}
use Rattle.cw_board.specs.declared.posted.Posted.{Posted}
use Rattle.cw_board.specs.Records.{configs_of}
use Rattle.cw_board.specs.Sides.{Writing}
use Rattle.cw_config.specs.declared.records.ConfigRecord.{ConfigRecord}
use Rattle.cw_model.specs.declared.journal.JournalEntry.{JournalEntry}
use Rattle.cw_model.specs.Lookups.{row_of}
use Rattle.cw_model.specs.State.{Cluster}
use Rattle.cw_rest.specs.Calls.{reads_configs, deed_of}
use Rattle.cw_rest.specs.Replies.{reply_to}
use Rattle.cw_rest.specs.Seen as rest
use Rattle.cw_route.specs.declared.call.Call.{Call}
use Rattle.cw_serve.specs.declared.seeing.Seen.{Seen}

-- ---- the board beside the world

-- so many records were given to the board for each worker: the first ones of the config log, none that the worker
-- hasn't read. Where nothing is lacking, all of them are published
pub record IsBoarded (workers : ℕ) (board : Writing) (given : List ℕ) (lacks : Bool) (s : Cluster) : Type 0 where
  pub count : length given ≡ workers
  pub first : (w : ℕ) → w < workers → configs_of w board.given ≡ take (slice_index given w) s.configs
  pub there : (w : ℕ) → w < workers → slice_index given w ≤ length s.configs
  pub read : (w : ℕ) → w < workers → slice_index given w ≤ (row_of w s).prefix
  pub shown : lacks ≡ false → board.published ≡ board.given

-- ---- what was seen

-- the records of a worker that a reader of the board saw or was told of
abbrev pub known_of : ℕ → Option (List Posted) → List ConfigRecord
known_of w None = []
known_of w (Some log) = configs_of w log

-- a view of configs alone
abbrev pub configs_alone : List ConfigRecord → rest.Seen
configs_alone configs = record { configs = configs; statuses = []; entries = []; feeds = [] }

-- a call that reads configs was answered from a view of these
pub record IsReadFrom (configs : List ConfigRecord) (call : Call) (seen : Seen) : Type 0 where
  pub deed : deed_of call ≡ reads_configs
  pub prefix : seen.prefix ≡ length configs
  pub reply : seen.reply ≡ reply_to false (configs_alone configs) call

-- these are the first records of the config log, and the worker has read all of them
pub record IsStanding (configs : List ConfigRecord) (w : ℕ) (s : Cluster) : Type 0 where
  pub first : take (length configs) s.configs ≡ configs
  pub read : length configs ≤ (row_of w s).prefix

-- the entry of a call that was answered from a view
abbrev pub entry_seen : ℕ → Call → Seen → JournalEntry
entry_seen w call seen = record {
  worker = w;
  board = true;
  prefix = seen.prefix;
  statuses = 0;
  entries = 0;
  call = call;
  reply = seen.reply;
}
