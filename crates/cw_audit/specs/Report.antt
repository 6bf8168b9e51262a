-- What is printed of a stopped cluster: the sizes of its logs, the epochs of its producers, where the offsets of its
-- connectors' parts begin and end, its committed task sets, and whether the feeds are those that were read. The report
-- is this project's own; what it tells is Kafka Connect's.
use Rattle.std.specs.Prelude.{ℕ, Bool, List, ◌++◌, length}
use Rattle.cw_types.specs.declared.logs.LogName.{LogName}
use Rattle.cw_types.specs.declared.logs.LogName.TheVariants.{Config, Offsets, Status, Txn, Batches}
use Rattle.cw_log.specs.Log.{length_of}
use Rattle.cw_model.specs.State.{Cluster}
use Rattle.cw_model.specs.StandsFor.{Stored}
use Rattle.cw_model.specs.Reopening.{stored_of}
use Rattle.cw_audit.specs.Lines.{log_line, feeds_line}
use Rattle.cw_audit.specs.Listed.{id_lines, offsets_lines, tasks_lines}

-- the line of a log with these bodies, which are those of its frames
abbrev pub size_line : LogName → List (List ℕ) → List ℕ
size_line log bodies = log_line log (length bodies) (length_of bodies)

-- the lines of the five logs
unfoldable pub log_lines : Stored → List ℕ
log_lines stored =
    size_line Config stored.config.frames ++ size_line Offsets stored.offsets.frames
    ++ size_line Status stored.status.frames ++ size_line Txn stored.txn ++ size_line Batches stored.batches

-- what is printed of a cluster of this group, where the feeds agree with its committed records or don't
unfoldable pub audit_text : (group : List ℕ) → Cluster → (agrees : Bool) → List ℕ
audit_text group s agrees =
    log_lines (stored_of s) ++ id_lines group s.entries ++ offsets_lines s.entries ++ tasks_lines s.configs
    ++ feeds_line agrees
