-- The steps of a sink task that polls: it hands out the committed records of a topic, and then stores how far it came.
-- That a sink's offsets stand in the transaction list, under its own epoch, is this project's own.
use Rattle.std.specs.Prelude.{◌≡◌, ℕ, ◌<◌, ◌≤◌, true, List, [], ◌∷◌, length, Some}
use Rattle.cw_types.specs.declared.ids.PartKey.{PartKey}
use Rattle.cw_types.specs.declared.ids.PartKey.TheVariants.{Raw, File, Seq, Sink}
use Rattle.cw_txn.specs.declared.entry.Entry.{Entry}
use Rattle.cw_txn.specs.declared.entry.Entry.TheVariants.{Set}
use Rattle.cw_data.specs.Log.{stable}
use Rattle.cw_model.specs.declared.instance.Cut.{Cut}
use Rattle.cw_model.specs.declared.instance.Instance.{Instance}
use Rattle.cw_model.specs.declared.instance.InstancePhase.TheVariants as phase
use Rattle.cw_model.specs.State.{Cluster}
use Rattle.cw_model.specs.Lookups.{instance_of}
use Rattle.cw_model.specs.Answers.{Answer, answered, at_instance}
use Rattle.cw_model.specs.Updates.{changes_instance, appends_entries, as_producer}
use Rattle.cw_model.specs.Tasks.{parts_of, part_at, position_at, is_sink, tag_of, cut_of, taking, polling_from}

-- a cut of a part, from the task's position on
abbrev pub sink_cut : (turn to : ℕ) → Instance → Cut
sink_cut turn to i = record { turn = turn; from = position_at turn i; to = to }

-- a sink has handed out the records of a topic up to an offset
abbrev pub deliver : ℕ → (turn to : ℕ) → Cluster → Answer (Unit {0})
deliver i turn to = at_instance i (λ s. answered tt
    (changes_instance i (taking phase.Delivered (sink_cut turn to (instance_of i s))) s))

-- the topic that a sink reads
abbrev pub topic_in : PartKey → List ℕ
topic_in (Raw n) = []
topic_in (File connector feed) = []
topic_in (Seq connector index) = []
topic_in (Sink connector topic) = topic

-- a sink's task polls a topic that is stable up to there
pub record MayDeliver (i turn to : ℕ) (s : Cluster) : Type 0 where
  pub polling : (instance_of i s).phase ≡ phase.Polling
  pub sink : is_sink (instance_of i s) ≡ true
  pub within : turn < length (parts_of (instance_of i s))
  pub some : position_at turn (instance_of i s) < to
  pub settled : to ≤ stable (topic_in (part_at turn (instance_of i s))) s.batches

-- the entry that sets the offset of the topic that a sink took last
abbrev pub sink_offset : Instance → ℕ → Entry
sink_offset i to = Set (tag_of i).tid (tag_of i).epoch (record { part = part_at (cut_of i).turn i; to = Some to } ∷ [])

-- a sink stores how far it handed out a topic, under its own epoch
abbrev pub put_sink : ℕ → (to : ℕ) → Cluster → Answer (Unit {0})
put_sink i to = at_instance i (λ s. as_producer i
    (appends_entries (sink_offset (instance_of i s) to ∷ [])
    (changes_instance i (polling_from phase.Polling to)) tt s) s)

-- a sink's task has handed out just so far
pub record MayPutSink (i to : ℕ) (s : Cluster) : Type 0 where
  pub delivered : (instance_of i s).phase ≡ phase.Delivered
  pub as_far : to ≡ (cut_of (instance_of i s)).to
