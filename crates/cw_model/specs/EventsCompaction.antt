-- A log of configs, offsets or statuses is compacted onto its other side, as Kafka's compacted topics have it: what
-- stays of it is what cw_config, cw_offset and cw_status say. That a log has two sides is this project's own.
use Rattle.std.specs.Prelude.{ℕ, ◌+◌, ◌-◌, ◌^◌, List, length, nat_lt, if◌then◌else◌}
use Rattle.std.specs.Bool.{⊤}
use Rattle.std.specs.List.{flat_map}
use Rattle.cw_types.specs.declared.logs.LogName.{LogName}
use Rattle.cw_types.specs.declared.logs.LogName.TheVariants.{Config, Offsets, Status, Txn, Batches}
use Rattle.cw_bytes.specs.declared.applied.Applied.{Applied}
use Rattle.cw_bytes.specs.Frames.{joined}
use Rattle.cw_config.specs.Compaction.{compact_configs}
use Rattle.cw_offset.specs.declared.body.OffsetEntry.{OffsetEntry}
use Rattle.cw_offset.specs.Log.{offset_records}
use Rattle.cw_offset.specs.Compaction.{compact_offsets}
use Rattle.cw_status.specs.Compaction.{compact_statuses}
use Rattle.cw_model.specs.declared.fault.WorldFault.TheVariants.{Full}
use Rattle.cw_model.specs.State.{Cluster, Paired}
use Rattle.cw_model.specs.Answers.{Answer, refused, answered, at_open}
use Rattle.cw_model.specs.Bodies.{config_length, offsets_length, status_length}

-- a log on its other side, with these frames
abbrev pub on_other_side : {A : Type 0} → List A → Paired A → Paired A
on_other_side frames old = record { frames = frames; side = old.side + 1 }

-- a compaction, unless the log's side has the greatest number
abbrev pub unless_worn : {A : Type 0} → LogName → (size side : ℕ) → Answer A → Cluster → Answer A
unless_worn log size side done s = if nat_lt side (2 ^ 64 - 1) then done else refused (Full log size 0) s

-- the config log gets these frames: the answer is how many records it had, and has
abbrev pub compacts_configs : List (List Applied) → Cluster → Answer (ℕ × ℕ)
compacts_configs frames s = unless_worn Config (config_length s) s.config.side
    (answered (length (joined s.config.frames), length (joined frames))
    (record s { config = on_other_side frames s.config })) s

-- the offset log gets these entries; markers aren't counted
abbrev pub compacts_offsets : List OffsetEntry → Cluster → Answer (ℕ × ℕ)
compacts_offsets frames s = unless_worn Offsets (offsets_length s) s.offsets.side
    (answered (length (flat_map offset_records s.offsets.frames), length (flat_map offset_records frames))
    (record s { offsets = on_other_side frames s.offsets })) s

-- the status log gets these frames
abbrev pub compacts_statuses : List (List Applied) → Cluster → Answer (ℕ × ℕ)
compacts_statuses frames s = unless_worn Status (status_length s) s.status.side
    (answered (length (joined s.status.frames), length (joined frames))
    (record s { status = on_other_side frames s.status })) s

-- a log of two sides is compacted, the two others are not
abbrev pub compacts : LogName → Cluster → Answer (ℕ × ℕ)
compacts Config s = compacts_configs (compact_configs s.config.frames) s
compacts Offsets s = compacts_offsets (compact_offsets s.entries s.offsets.frames) s
compacts Status s = compacts_statuses (compact_statuses s.status.frames) s
compacts Txn s = answered (0, 0) s
compacts Batches s = answered (0, 0) s

-- a log is compacted onto its other side: the answer is how many records it had, and has
abbrev pub compact : LogName → Cluster → Answer (ℕ × ℕ)
compact log = at_open (compacts log)

-- the logs with two sides
abbrev pub MayCompact : LogName → Type 0
MayCompact Config = ⊤
MayCompact Offsets = ⊤
MayCompact Status = ⊤
MayCompact Txn = ⊥
MayCompact Batches = ⊥
