-- What a sink's task hands out at its next step, and the file that it goes to (Kafka Connect's FileStreamSinkTask
-- writes one file).
use Rattle.std.specs.Prelude.{ℕ, Bool, true, false, List, [], Option, Some, None, unwrap_or, option_and_then}
use Rattle.std.specs.Prelude.{if◌then◌else◌}
use Rattle.cw_io.specs.Shelf.{Files}
use Rattle.cw_model.specs.declared.instance.Instance.{Instance}
use Rattle.cw_model.specs.declared.instance.InstancePhase.{InstancePhase}
use Rattle.cw_model.specs.declared.instance.InstancePhase.TheVariants as phase
use Rattle.cw_model.specs.Lookups.{instance_of}
use Rattle.cw_model.specs.Polls.{Delivery, gathered}
use Rattle.cw_model.specs.State.{Cluster}
use Rattle.cw_model.specs.Steps.{waits}
use Rattle.cw_edges.specs.Poured.{poured}

-- the file that a sink's task writes, where it is one of a sink
abbrev pub file_in : Instance → Option (List ℕ)
file_in i = option_and_then (λ task. task.file) i.task

-- the file that it writes
abbrev pub file_of : Instance → List ℕ
file_of i = unwrap_or (file_in i) []

-- whether an instance polls next
abbrev pub is_polling : InstancePhase → Bool
is_polling phase.Connector = false
is_polling phase.New = false
is_polling phase.Inited = false
is_polling phase.Verified = false
is_polling phase.Polling = true
is_polling phase.Produced = false
is_polling phase.Offered = false
is_polling phase.Delivered = false
is_polling phase.Failed = false
is_polling phase.Ended = false

-- what a sink's task hands out at its next step, where it does
abbrev pub hands_out : ℕ → Cluster → Option Delivery
hands_out i s =
    if waits (instance_of i s) s then None else
    if is_polling (instance_of i s).phase then gathered (instance_of i s) s.batches else None

-- files with what is handed out at the end of the one of this name
abbrev pub with_delivery : (file : List ℕ) → Option Delivery → Files → Files
with_delivery file None files = files
with_delivery file (Some d) files = poured file d.lines files
