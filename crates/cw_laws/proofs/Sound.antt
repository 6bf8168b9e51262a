-- What stays of the facts of each row and each instance.
use Rattle.std.proofs.Common.{◌≡◌, ◌≤◌, true, false, List, Option, Some, None, length, refl, sym, subst, ap, arith}
use Rattle.std.proofs.lemmas.Bool.{false_from_ne_true}
use Rattle.std.specs.Option.{IsSomeAnd}
use Rattle.cw_model.specs.declared.instance.Cut.{Cut}
use Rattle.cw_types.specs.declared.ids.Item.{Item}
use Rattle.cw_types.specs.declared.ids.Item.TheVariants.{Connector, Task}
use Rattle.cw_types.specs.declared.ids.Tid.TheVariants.{Lead}
use Rattle.cw_config.specs.declared.records.ConfigRecord.{ConfigRecord}
use Rattle.cw_model.specs.declared.row.Row.{Row}
use Rattle.cw_model.specs.declared.instance.Instance.{Instance}
use Rattle.cw_model.specs.declared.instance.InstancePhase.TheVariants as phase
use Rattle.cw_model.specs.State.{Cluster}
use Rattle.cw_model.specs.Lookups.{last_epoch}
use Rattle.cw_model.specs.FactsRows.{IsSoundRow, IsSoundInstance, IsOfItem, HandsOut}
use Rattle.cw_model.specs.Phases.{has_cut, has_epoch, has_open_transaction, is_fetched, is_working}
use Rattle.cw_laws.proofs.Fading.{Fades, passed-before, phase-before}

-- t has all that s has
pub record HasMore (s t : Cluster) : Type 0 where
  pub rows : length s.rows ≤ length t.rows
  pub epochs : last_epoch Lead s ≤ last_epoch Lead t
  pub entries : length s.entries ≤ length t.entries

abbrev configured : Cluster → Cluster → Cluster
configured s t = record t { configs = s.configs }

pub sound_row-grows : (s t : Cluster) → HasMore s t → (row : Row) → IsSoundRow s row → IsSoundRow (configured s t) row
sound_row-grows s t g row f = record {
  prefix = f.prefix;
  lead = omega (arith, f.lead, g.epochs);
  fencing = f.fencing;
  round = f.round;
}

pub sound_instance-grows : (s t : Cluster) → HasMore s t → (i : Instance) → IsSoundInstance s i → IsSoundInstance (configured s t) i
sound_instance-grows s t g i f = record {
  at_worker = omega (arith, f.at_worker, g.rows);
  named = f.named;
  of_item = f.of_item;
  generation = f.generation;
  source = f.source;
  sink = f.sink;
  epoch = f.epoch;
  positions = f.positions;
  cut = f.cut;
  delivered = f.delivered;
  number = omega (arith, f.number, g.entries);
}

hands_out-fades : (cut : Option Cut) (j k : Instance) → Fades j k → IsSomeAnd cut (HandsOut j) → IsSomeAnd cut (HandsOut k)
hands_out-fades None j k f h = h
hands_out-fades (Some cut) j k f h = record { begins = rw f.is h.begins; some = h.some; fits = h.fits }

of_item-fades : (records : List ConfigRecord) (item : Item) (j k : Instance) → Fades j k → IsOfItem records item j → IsOfItem records item k
of_item-fades records (Connector name) j k f o = record {
  idle = false_from_ne_true (is_working k.phase) (λ works. let worked : is_working j.phase ≡ true = passed-before is_working refl refl j k f works in let idle : is_working j.phase ≡ false = o.idle in cc);
  task = rw f.is o.task;
  generation = rw f.is o.generation;
}
of_item-fades records (Task id) j k f o = record {
  phase = λ connector. o.phase (phase-before phase.Connector refl j k f connector);
  task = rw f.is o.task;
  generation = rw f.is o.generation;
}

pub sound_instance-fades : (s : Cluster) (j k : Instance) → Fades j k → IsSoundInstance s j → IsSoundInstance s k
sound_instance-fades s j k a f = record {
  at_worker = rw a.is f.at_worker;
  named = rw a.is f.named;
  of_item = subst (λ item. IsOfItem s.configs item k) (sym (ap (λ i. i.item) a.is)) (of_item-fades s.configs j.item j k a f.of_item);
  generation = rw a.is f.generation;
  source = λ opened. rw a.is (f.source (passed-before has_open_transaction refl refl j k a opened));
  sink = λ delivered. rw a.is (f.sink (phase-before phase.Delivered refl j k a delivered));
  epoch = λ has. rw a.is (f.epoch (passed-before has_epoch refl refl j k a has));
  positions = λ has. rw a.is (f.positions (passed-before is_fetched refl refl j k a has));
  cut = λ has. rw a.is (f.cut (passed-before has_cut refl refl j k a has));
  delivered = λ delivered. subst (λ cut. IsSomeAnd cut (HandsOut k)) (sym (ap (λ i. i.cut) a.is)) (hands_out-fades j.cut j k a (f.delivered (phase-before phase.Delivered refl j k a delivered)));
  number = rw a.is f.number;
}
