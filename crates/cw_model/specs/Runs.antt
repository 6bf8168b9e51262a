-- A run of the cluster: from a state that was opened on, one step behind the other, each where its caller may make it.
-- Whatever the order of the steps, at whatever workers and instances, it is a run. This project's own.
use Rattle.std.specs.Prelude.{ℕ, List, [], ◌∷◌, take, Option}
use Rattle.std.specs.Bool.{⊤}
use Rattle.std.specs.List.{fold}
use Rattle.cw_types.specs.declared.ids.Epoch.{Epoch}
use Rattle.cw_types.specs.declared.ids.Item.{Item}
use Rattle.cw_types.specs.declared.logs.DiskName.{DiskName}
use Rattle.cw_types.specs.declared.logs.LogName.{LogName}
use Rattle.cw_txn.specs.declared.entry.SetOffset.{SetOffset}
use Rattle.cw_rest.specs.Seen.{KeyedValues}
use Rattle.cw_model.specs.declared.instance.Cut.{Cut}
use Rattle.cw_model.specs.declared.instance.Trace.{Trace}
use Rattle.cw_model.specs.declared.journal.JournalEntry.{JournalEntry}
use Rattle.cw_model.specs.State.{Setting, Cluster}
use Rattle.cw_model.specs.EventsWorkers as workers
use Rattle.cw_model.specs.EventsGroups as groups
use Rattle.cw_model.specs.EventsItems as items
use Rattle.cw_model.specs.EventsLeading as leading
use Rattle.cw_model.specs.EventsSources as sources
use Rattle.cw_model.specs.EventsSinks as sinks
use Rattle.cw_model.specs.EventsReports as reports
use Rattle.cw_model.specs.EventsMarking as marking
use Rattle.cw_model.specs.EventsCompaction as compaction
use Rattle.cw_model.specs.EventsRaw as raw
use Rattle.cw_model.specs.Journal as calls
use Rattle.cw_model.specs.Reopening.{closed_by}

-- a step: an event with all that it names, the clock, or a disk that fails
pub data Step : Type 0 where
  clock : (to : ℕ) → Step
  closes : (disk : DiskName) (count : ℕ) → Step
  spawn : Step
  kill : (w : ℕ) → Step
  deaf : (w : ℕ) → Step
  hear : (w : ℕ) → Step
  expire : (w : ℕ) → Step
  join : (w : ℕ) → Step
  close_round : (w : ℕ) → Step
  store_plan : (w : ℕ) → Step
  sync : (w : ℕ) → Step
  read_config : (w : ℕ) → Step
  start_item : (w : ℕ) (item : Item) → Step
  stop_item : (i : ℕ) → Step
  restart : (w : ℕ) (item : Item) → Step
  claim_lead : (w : ℕ) → Step
  append_config : (w : ℕ) (values : KeyedValues) → Step
  fence_one : (w : ℕ) (name : List ℕ) → Step
  append_fence : (w : ℕ) (name : List ℕ) → Step
  set_offsets : (w : ℕ) (name : List ℕ) (list : List SetOffset) → Step
  init : (i : ℕ) → Step
  verify : (i : ℕ) → Step
  fetch : (i : ℕ) → Step
  produce : (i : ℕ) (cut : Cut) → Step
  put_offsets : (i : ℕ) → Step
  commit : (i : ℕ) → Step
  deliver : (i turn to : ℕ) → Step
  put_sink : (i to : ℕ) → Step
  fail : (i : ℕ) (trace : Trace) → Step
  put_status : (w : ℕ) (item : Item) → Step
  mark : (log : LogName) → Step
  compact : (log : LogName) → Step
  raw_init : (n : ℕ) → Step
  raw_commit : (n : ℕ) (epoch : Epoch) (list : List (ℕ × ℕ)) → Step
  journal : (entry : JournalEntry) → Step

-- the state behind a step. A tick, a plan and an expiry that come with a time are the clock, and then the event
abbrev pub behind : Setting → Cluster → Step → Cluster
behind setting s (clock to) = (workers.clock to s).1
behind setting s (closes disk count) = closed_by disk count s
behind setting s spawn = (workers.spawn s).1
behind setting s (kill w) = (workers.kill w s).1
behind setting s (deaf w) = (workers.deaf w s).1
behind setting s (hear w) = (workers.hear w s).1
behind setting s (expire w) = (workers.expire setting w s).1
behind setting s (join w) = (groups.join w s).1
behind setting s (close_round w) = (groups.close_round w s).1
behind setting s (store_plan w) = (groups.store_plan w s).1
behind setting s (sync w) = (groups.sync w s).1
behind setting s (read_config w) = (items.read_config w s).1
behind setting s (start_item w item) = (items.start_item w item s).1
behind setting s (stop_item i) = (items.stop_item i s).1
behind setting s (restart w item) = (items.restart w item s).1
behind setting s (claim_lead w) = (leading.claim_lead w s).1
behind setting s (append_config w values) = (leading.append_config w values s).1
behind setting s (fence_one w name) = (leading.fence_one w name s).1
behind setting s (append_fence w name) = (leading.append_fence w name s).1
behind setting s (set_offsets w name list) = (leading.set_offsets w name list s).1
behind setting s (init i) = (sources.init i s).1
behind setting s (verify i) = (sources.verify i s).1
behind setting s (fetch i) = (sources.fetch i s).1
behind setting s (produce i cut) = (sources.produce setting i cut s).1
behind setting s (put_offsets i) = (sources.put_offsets i s).1
behind setting s (commit i) = (sources.commit i s).1
behind setting s (deliver i turn to) = (sinks.deliver i turn to s).1
behind setting s (put_sink i to) = (sinks.put_sink i to s).1
behind setting s (fail i trace) = (reports.fail i trace s).1
behind setting s (put_status w item) = (reports.put_status w item s).1
behind setting s (mark log) = (marking.mark log s).1
behind setting s (compact log) = (compaction.compact log s).1
behind setting s (raw_init n) = (raw.raw_init n s).1
behind setting s (raw_commit n epoch list) = (raw.raw_commit n epoch list s).1
behind setting s (journal entry) = (calls.journal entry s).1

-- where a caller may make a step
abbrev pub May : Setting → Cluster → Step → Type 0
May setting s (clock to) = ⊤
May setting s (closes disk count) = ⊤
May setting s spawn = ⊤
May setting s (kill w) = ⊤
May setting s (deaf w) = ⊤
May setting s (hear w) = ⊤
May setting s (expire w) = ⊤
May setting s (join w) = groups.MayJoin w s
May setting s (close_round w) = ⊤
May setting s (store_plan w) = groups.MayStorePlan w s
May setting s (sync w) = ⊤
May setting s (read_config w) = ⊤
May setting s (start_item w item) = items.MayStart w item s
May setting s (stop_item i) = ⊤
May setting s (restart w item) = ⊤
May setting s (claim_lead w) = leading.MayClaim w s
May setting s (append_config w values) = leading.MayAppendConfig w values s
May setting s (fence_one w name) = leading.MayFence w name s
May setting s (append_fence w name) = leading.MayAppendFence w name s
May setting s (set_offsets w name list) = leading.MaySetOffsets w name list s
May setting s (init i) = sources.MayInit i s
May setting s (verify i) = sources.MayVerify i s
May setting s (fetch i) = sources.MayFetch i s
May setting s (produce i cut) = sources.MayProduce i cut s
May setting s (put_offsets i) = sources.MayPutOffsets i s
May setting s (commit i) = sources.MayCommit i s
May setting s (deliver i turn to) = sinks.MayDeliver i turn to s
May setting s (put_sink i to) = sinks.MayPutSink i to s
May setting s (fail i trace) = reports.MayFail i s
May setting s (put_status w item) = reports.MayReport w item s
May setting s (mark log) = marking.MayMark log s
May setting s (compact log) = compaction.MayCompact log
May setting s (raw_init n) = raw.MayRawInit n
May setting s (raw_commit n epoch list) = raw.MayRawCommit n list
May setting s (journal entry) = calls.MayJournal setting entry s

-- the state behind some steps
abbrev pub behind_all : Setting → Cluster → List Step → Cluster
behind_all setting s steps = fold (behind setting) s steps

-- each step is one that may be made in the state behind those before it
abbrev pub IsRun : Setting → Cluster → List Step → Type 0
IsRun setting s [] = ⊤
IsRun setting s (step ∷ steps) = May setting s step × IsRun setting (behind setting s step) steps
