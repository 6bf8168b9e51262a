-- All facts but those of producers, and that they stay where one instance changes.
use Rattle.std.proofs.Common.{ℕ, refl, arith}
use Rattle.cw_model.specs.declared.instance.Instance.{Instance}
use Rattle.cw_model.specs.State.{Setting, Cluster}
use Rattle.cw_model.specs.Lookups.{row_of, instance_of, no_instance}
use Rattle.cw_model.specs.Updates.{changes_instance}
use Rattle.cw_model.specs.Safe.{IsSafe}
use Rattle.cw_model.specs.Facts.{AreFacts}
use Rattle.cw_model.specs.FactsGroup.{GroupFacts}
use Rattle.cw_model.specs.FactsLogs.{LogFacts}
use Rattle.cw_model.specs.FactsRows.{RowFacts, IsSoundRow, IsSoundInstance}
use Rattle.cw_model.specs.FactsProducers.{ProducerFacts}
use Rattle.cw_model.specs.Journal.{IsTrueJournal}
use Rattle.cw_laws.proofs.Lists.{each-set, each-weaker, reads-set}
use Rattle.cw_laws.proofs.Frames.{logs-frame, exact-frame, backed-frame}
use Rattle.cw_laws.proofs.Grows.{grows-instance, journal-stays}
use Rattle.cw_laws.proofs.Rows.{same_member, StaysMember, disjoint-stays, group-stays}
use Rattle.cw_laws.proofs.Held.{StaysHeld, held-stays}
use Rattle.cw_laws.proofs.Sound.{HasMore, sound_row-grows, sound_instance-grows}

pub record OtherFacts (setting : Setting) (s : Cluster) : Type 0 where
  pub safe : IsSafe setting s
  pub group : GroupFacts s
  pub logs : LogFacts setting s
  pub rows : RowFacts s
  pub journal : IsTrueJournal setting s

pub other_facts : (setting : Setting) (s : Cluster) → AreFacts setting s → OtherFacts setting s
other_facts setting s f = record { safe = f.safe; group = f.group; logs = f.logs; rows = f.rows; journal = f.journal }

pub all_facts : (setting : Setting) (s : Cluster) → OtherFacts setting s → ProducerFacts setting s → AreFacts setting s
all_facts setting s f producers = record { safe = f.safe; group = f.group; logs = f.logs; rows = f.rows; producers = producers; journal = f.journal }

same-held : (j : Instance) → StaysHeld j j
same-held j = record { worker = refl; item = refl; ended = λ over. over }

-- where one instance changes
module _ (setting : Setting) (i : ℕ) (change : Instance → Instance) (s : Cluster) where
  abbrev t : Cluster
  t = changes_instance i change s

  pub others-moved : StaysHeld (instance_of i s) (change (instance_of i s)) → IsSoundInstance s (change (instance_of i s)) → OtherFacts setting s → OtherFacts setting t
  others-moved held sound f =
      let stays : StaysMember s t = record {
        rows = λ w. same_member (row_of w s);
        held = held-stays s t (reads-set StaysHeld s.instances i (change (instance_of i s)) no_instance same-held held);
      } in
      let more : HasMore s t = record { rows = omega arith; epochs = omega arith; entries = omega arith } in
      record {
        safe = record {
          disjoint = disjoint-stays s t stays f.safe.disjoint;
          fenced = f.safe.fenced;
          exact = exact-frame setting s t f.safe.exact;
          backed = backed-frame s t f.safe.backed;
        };
        group = group-stays s t stays f.group;
        logs = logs-frame setting s t f.logs;
        rows = record {
          few = f.rows.few;
          rows = each-weaker (IsSoundRow s) (IsSoundRow t) s.rows (sound_row-grows s t more) f.rows.rows;
          instances = each-weaker (IsSoundInstance s) (IsSoundInstance t) t.instances (sound_instance-grows s t more)
              (each-set (IsSoundInstance s) s.instances i (change (instance_of i s)) sound f.rows.instances);
        };
        journal = journal-stays setting s t (grows-instance i change s) f.journal;
      }
