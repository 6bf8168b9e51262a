-- The clock keeps all facts: none of them tells the time. Nor does any tell whether a disk has failed, but those of the
-- journal.
use Rattle.std.proofs.Common.{ℕ, max, Some, refl}
use Rattle.cw_types.specs.declared.logs.DiskName.{DiskName}
use Rattle.cw_model.specs.State.{Setting, Cluster}
use Rattle.cw_model.specs.EventsWorkers.{clock}
use Rattle.cw_model.specs.Reopening.{closed_by}
use Rattle.cw_model.specs.Facts.{AreFacts}
use Rattle.cw_laws.proofs.Grows.{goes_on-same}
use Rattle.cw_laws.proofs.Frames.{logs-frame}
use Rattle.cw_laws.proofs.Relog.{relog}

pub clock-keeps : (setting : Setting) (to : ℕ) (s : Cluster) → AreFacts setting s → AreFacts setting (clock to s).1
clock-keeps setting to s f =
    let t : Cluster = record s { moment = max s.moment to } in
    relog setting s t (goes_on-same s.statuses) (λ closed. closed) (logs-frame setting s t f.logs) f

pub closes-keeps : (setting : Setting) (disk : DiskName) (count : ℕ) (s : Cluster) → AreFacts setting s → AreFacts setting (closed_by disk count s)
closes-keeps setting disk count s f =
    let t : Cluster = record s { closed = Some (disk, count) } in
    relog setting s t (goes_on-same s.statuses) (λ closed. refl) (logs-frame setting s t f.logs) f
