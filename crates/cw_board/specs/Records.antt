-- The records of the config log that are published for a worker, in the order in which they were put, and the first
-- parts of lists. This project's own rule.
use Rattle.std.specs.Prelude.{◌≡◌, ℕ, ◌==◌, List, [], ◌∷◌, length, take, map, Option, Some, None, option_and_then}
use Rattle.std.specs.Prelude.{if◌then◌else◌}
use Rattle.std.specs.List.{filter_map}
use Rattle.cw_bytes.specs.declared.applied.Applied.{Applied}
use Rattle.cw_config.specs.declared.records.ConfigRecord.{ConfigRecord}
use Rattle.cw_config.specs.Acceptance.{applied}
use Rattle.cw_config.specs.Compaction.{config_in}
use Rattle.cw_board.specs.declared.posted.Posted.{Posted}

-- records that are put for a worker
abbrev pub posted : ℕ → List Applied → List Posted
posted worker records = map (λ r. record { worker = worker; applied = r }) records

-- the record of the config log that was put, where it was put for this worker
abbrev pub config_for : ℕ → Posted → Option ConfigRecord
config_for worker p = if p.worker == worker then config_in p.applied else None

-- the published records of a worker, of all that are published
abbrev pub configs_of : ℕ → List Posted → List ConfigRecord
configs_of worker published = filter_map (config_for worker) published

-- the records of a config state once it has taken these one after the other, if it takes them
abbrev pub taken : List ConfigRecord → List Applied → Option (List ConfigRecord)
taken state [] = Some state
taken state (r ∷ rs) = option_and_then (λ next. taken next rs) (applied state r.offset r.stamp r.key r.value)

-- a list is the first part of another, as far as it goes
abbrev pub IsFirstPart : {A : Type 0} → List A → List A → Type 0
IsFirstPart part whole = take (length part) whole ≡ part
