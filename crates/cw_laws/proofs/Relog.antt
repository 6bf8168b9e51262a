-- Logs that no producer and no fence reads change, the clock moves, or a disk fails: only the facts of the logs are to
-- be shown.
use Rattle.std.proofs.Common.{IsSome, refl, arith}
use Rattle.cw_model.specs.State.{Setting, Cluster}
use Rattle.cw_model.specs.Lookups.{row_of, instance_of}
use Rattle.cw_model.specs.Grows.{GoesOn, Grows}
use Rattle.cw_model.specs.Facts.{AreFacts}
use Rattle.cw_model.specs.FactsLogs.{LogFacts}
use Rattle.cw_model.specs.FactsRows.{IsSoundRow, IsSoundInstance}
use Rattle.cw_laws.proofs.Lists.{each-weaker}
use Rattle.cw_laws.proofs.Grows.{goes_on-same, journal-stays}
use Rattle.cw_laws.proofs.Frames.{exact-frame, backed-frame}
use Rattle.cw_laws.proofs.Rows.{same_member, group-stays}
use Rattle.cw_laws.proofs.Fading.{fades-same, producers-fade}
use Rattle.cw_laws.proofs.Sound.{HasMore, sound_row-grows, sound_instance-grows}

abbrev pub relogged : Cluster → Cluster → Cluster
relogged s t = record s {
  config = t.config;
  offsets = t.offsets;
  status = t.status;
  statuses = t.statuses;
  moment = t.moment;
  closed = t.closed;
}

pub grows-relog : (s t : Cluster) → GoesOn s.statuses t.statuses → (IsSome s.closed → IsSome t.closed) → Grows s (relogged s t)
grows-relog s t statuses closed = record {
  configs = goes_on-same s.configs;
  statuses = statuses;
  entries = goes_on-same s.entries;
  journal = goes_on-same s.journal;
  read = λ w. omega arith;
  closed = closed;
}

pub relog : (setting : Setting) (s t : Cluster) → GoesOn s.statuses t.statuses → (IsSome s.closed → IsSome t.closed) → LogFacts setting (relogged s t) → AreFacts setting s →
    AreFacts setting (relogged s t)
relog setting s t statuses closed logs f =
    let more : HasMore s (relogged s t) = record { rows = omega arith; epochs = omega arith; entries = omega arith } in
    record {
      safe = record {
        disjoint = f.safe.disjoint;
        fenced = f.safe.fenced;
        exact = exact-frame setting s (relogged s t) f.safe.exact;
        backed = backed-frame s (relogged s t) f.safe.backed;
      };
      group = group-stays s (relogged s t) record { rows = λ w. same_member (row_of w s); held = λ w x holds. holds } f.group;
      logs = logs;
      rows = record {
        few = f.rows.few;
        rows = each-weaker (IsSoundRow s) (IsSoundRow (relogged s t)) s.rows (sound_row-grows s (relogged s t) more) f.rows.rows;
        instances = each-weaker (IsSoundInstance s) (IsSoundInstance (relogged s t)) s.instances (sound_instance-grows s (relogged s t) more) f.rows.instances;
      };
      producers = producers-fade setting s (relogged s t) record { count = refl; fencing = λ w lead fencing a b. (a, b) } (λ n. fades-same (instance_of n s)) f.producers;
      journal = journal-stays setting s (relogged s t) (grows-relog s t statuses closed) f.journal;
    }
