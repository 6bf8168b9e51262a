-- A source's task has a topic to write, by what its config asks.
use Rattle.std.proofs.Common.{◌≡◌, ℕ, ◌<◌, true, false, length, List, Option, Some, None, IsSome, option_and_then, refl, sym, ap, subst}
use Rattle.std.specs.Option.{IsSomeAnd, option_map_or}
use Rattle.cw_types.specs.Name.{IsName}
use Rattle.cw_types.specs.declared.ids.Item.{Item}
use Rattle.cw_types.specs.declared.ids.Item.TheVariants.{Connector, Task}
use Rattle.cw_types.specs.declared.ids.TaskId.{TaskId}
use Rattle.cw_config.specs.declared.records.ConfigRecord.{ConfigRecord}
use Rattle.cw_plugin.specs.Classes.{row_of}
use Rattle.cw_plugin.specs.declared.task.TaskSpec.{TaskSpec}
use Rattle.cw_model.specs.declared.instance.Cut.{Cut}
use Rattle.cw_model.specs.declared.instance.Instance.{Instance}
use Rattle.cw_model.specs.State.{Setting, Cluster}
use Rattle.cw_model.specs.EventsSources.{MayProduce}
use Rattle.cw_model.specs.Facts.{AreFacts}
use Rattle.cw_model.specs.FactsRows.{IsSoundInstance, IsOfItem, IsConnectorInstance}
use Rattle.cw_model.specs.Lookups.{instance_of, no_instance}
use Rattle.cw_model.specs.Tasks.{is_source}
use Rattle.cw_laws.proofs.AtWork.{HasSpec, has_spec, spec-source}
use Rattle.cw_laws.proofs.Lists.{each-at}
use Rattle.cw_rows.specs.Producing.{HasTopic}

some-name : (o : Option (List ℕ)) → IsSomeAnd o IsName → IsSome o
some-name None none = absurd none
some-name (Some topic) named = refl

task-topic : (id : TaskId) (j : Instance) → HasSpec id j → is_source j ≡ true → HasTopic j
task-topic id j h source = subst (λ (o : Option TaskSpec). IsSome (option_and_then (λ (t : TaskSpec). t.topic) o)) (sym h.has)
    (some-name h.spec.topic (h.is.topic (spec-source id j h source)))

pub no-source : (j : Instance) → IsConnectorInstance j → is_source j ≡ false
no-source j own = ap (λ (o : Option TaskSpec). option_map_or (λ (t : TaskSpec). (row_of t.class).is_source) o false) own.task

item-topic : (records : List ConfigRecord) (item : Item) (j : Instance) → IsOfItem records item j → is_source j ≡ true → HasTopic j
item-topic records (Connector name) j own source = let none : is_source j ≡ false = no-source j own in absurd (cc)
item-topic records (Task id) j own source = task-topic id j (has_spec id j own.task) source

pub has-topic : (setting : Setting) (s : Cluster) (i : ℕ) (cut : Cut) → AreFacts setting s → i < length s.instances → MayProduce i cut s → HasTopic (instance_of i s)
has-topic setting s i cut facts within may =
    let sound : IsSoundInstance s (instance_of i s) = each-at (IsSoundInstance s) s.instances i no_instance within facts.rows.instances in
    item-topic s.configs (instance_of i s).item (instance_of i s) sound.of_item may.source
