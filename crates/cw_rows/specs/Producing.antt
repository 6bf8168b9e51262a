-- What a task does in its transaction, as the code comes to it: first the tests, in the order of the event, then one
-- entry more in a log (KIP-618).
use Rattle.std.specs.Prelude.{◌≡◌, ℕ, ◌≤◌, ◌^◌, ◌==◌, length, None, IsSome, Result, Ok, Err, option_and_then}
use Rattle.std.specs.Prelude.{if◌then◌else◌}
use Rattle.cw_types.specs.declared.logs.LogName.TheVariants.{Batches}
use Rattle.cw_io.specs.Shelf.{Files}
use Rattle.cw_data.specs.Body.{entry_bytes}
use Rattle.cw_data.specs.declared.entry.Batch.{Batch}
use Rattle.cw_data.specs.declared.entry.DataEntry.{DataEntry}
use Rattle.cw_data.specs.declared.entry.DataEntry.TheVariants.{Batch as InBatch}
use Rattle.cw_model.specs.declared.fault.WorldFault.{WorldFault}
use Rattle.cw_model.specs.declared.fault.WorldFault.TheVariants.{Fenced, BadCut, Full}
use Rattle.cw_model.specs.declared.instance.Cut.{Cut}
use Rattle.cw_model.specs.declared.instance.Instance.{Instance}
use Rattle.cw_model.specs.State.{Setting, Cluster}
use Rattle.cw_model.specs.Lookups.{instance_of, last_epoch}
use Rattle.cw_model.specs.Answers.{Answer}
use Rattle.cw_model.specs.Bodies.{frame_of}
use Rattle.cw_model.specs.Updates.{appends_data, epoch_in, tid_of}
use Rattle.cw_model.specs.EventsSources.{is_bad_cut}
use Rattle.cw_rows.specs.Kept.{instance_test}
use Rattle.std.specs.Result.{result_and}

-- whether a task's epoch is its producer's last (KIP-98)
abbrev pub producer_test : ℕ → Cluster → Result (Unit {0}) WorldFault
producer_test i s = let own = epoch_in (instance_of i s).epoch in
    let current = last_epoch (tid_of (instance_of i s).item) s in
    if own == current then Ok tt else Err (Fenced own current)

-- whether a task may write
abbrev pub writing_test : ℕ → Cluster → Result (Unit {0}) WorldFault
writing_test i s = result_and (instance_test i s) (producer_test i s)

-- whether a task may take a cut
abbrev pub cut_test : Files → Cut → Instance → Result (Unit {0}) WorldFault
cut_test feeds cut i = if is_bad_cut feeds i cut then Err (BadCut cut.from cut.to) else Ok tt

-- whether a task may write the records of a cut
abbrev pub producing_test : Setting → ℕ → Cut → Cluster → Result (Unit {0}) WorldFault
producing_test setting i cut s = result_and (writing_test i s) (cut_test setting.feeds cut (instance_of i s))

-- why a batch isn't written that is longer than any log may be: its log is full
pub record IsTooLong (batch : Batch) (bytes : ℕ) (why : WorldFault) : Type 0 where
  pub full : why ≡ Full Batches bytes (frame_of (entry_bytes (InBatch batch)))
  pub long : 2 ^ 32 ≤ length (entry_bytes (InBatch batch))

-- a task has a topic to write, as each task of a source has
abbrev pub HasTopic : Instance → Type 0
HasTopic i = IsSome (option_and_then (λ task. task.topic) i.task)

-- an event comes to one entry more in the data log and a change behind it
pub record AddsData {A : Type 0} (event : Cluster → Answer A) (entry : DataEntry) (change : Cluster → Cluster)
    (answer : A) (s : Cluster) : Type 0 where
  pub alive : s.closed ≡ None
  pub comes : event s ≡ appends_data entry change answer s
