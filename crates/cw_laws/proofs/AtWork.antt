-- An instance that may write under its producer's last epoch is a task's: it has an id, and what its config asks.
use Rattle.std.proofs.Common.{◌≡◌, ◌≢◌, ℕ, ◌==◌, ◌<◌, ◌^◌, [], true, false, Any, List, Option, Some, None, IsSome, option_and_then, unwrap_or, slice_get, length, refl, sym, ap, subst, ◌∙◌}
use Rattle.std.specs.Option.{IsSomeAnd, option_map_or}
use Rattle.std.proofs.lemmas.Bool.{or_right}
use Rattle.std.proofs.lemmas.Bool.Decides.{Decides-eqb}
use Rattle.cw_types.specs.Name.{IsName}
use Rattle.cw_types.specs.declared.ids.Epoch.{Epoch}
use Rattle.cw_types.specs.declared.ids.Item.{Item}
use Rattle.cw_types.specs.declared.ids.Item.TheVariants.{Connector, Task}
use Rattle.cw_types.specs.declared.ids.PartKey.{PartKey}
use Rattle.cw_types.specs.declared.ids.Tid.{Tid}
use Rattle.cw_types.specs.declared.ids.Tid.TheVariants as producer
use Rattle.cw_types.specs.declared.ids.Tag.{Tag}
use Rattle.cw_types.specs.declared.ids.TaskId.{TaskId}
use Rattle.cw_types.specs.Same.{same_tid}
use Rattle.cw_types.proofs.SameLemmas.{same_tid-Decides}
use Rattle.cw_keys.specs.Statuses.{IsItem}
use Rattle.cw_plugin.specs.Classes.{row_of}
use Rattle.cw_plugin.specs.declared.task.TaskSpec.{TaskSpec}
use Rattle.cw_model.specs.declared.instance.Instance.{Instance}
use Rattle.cw_model.specs.declared.instance.InstancePhase.{InstancePhase}
use Rattle.cw_model.specs.declared.instance.InstancePhase.TheVariants as phase
use Rattle.cw_model.specs.State.{Setting, Cluster}
use Rattle.cw_model.specs.Phases.{is_working, is_starting, is_verified, has_epoch}
use Rattle.cw_model.specs.Lookups.{instance_of, last_epoch}
use Rattle.cw_model.specs.Updates.{epoch_in, tid_of}
use Rattle.cw_model.specs.Tasks.{parts_of, is_source, count_of, topic_of, tag_of}
use Rattle.cw_model.specs.FactsRows.{IsSoundInstance, IsOfItem, IsConnectorInstance, IsTaskSpecOf, IsCommitOf}
use Rattle.cw_model.specs.FactsProducers.{ProducerFacts, IsUnfenced, Writes, tag_in_hand}
use Rattle.cw_laws.proofs.TaskParts.{IsSpecOf, spec-of}

-- what a task's instance has by its config
pub record HasSpec (id : TaskId) (i : Instance) : Type 0 where
  pub spec : TaskSpec
  pub has : i.task ≡ Some spec
  pub is : IsSpecOf id.connector spec

pub record IsAtWork (s : Cluster) (i : ℕ) (id : TaskId) : Type 0 where
  pub unfenced : IsUnfenced s i id
  pub task : HasSpec id (instance_of i s)
  pub name : IsName id.connector
  pub index : id.index < 2 ^ 32
  pub generation : Any (IsCommitOf id.connector (instance_of i s).generation) s.configs

pub has_spec : (id : TaskId) (i : Instance) → IsSomeAnd i.task (IsTaskSpecOf id.connector) → HasSpec id i
has_spec id i asks = at i.task refl asks where
  at : (o : Option TaskSpec) → i.task ≡ o → IsSomeAnd o (IsTaskSpecOf id.connector) → HasSpec id i
  at None is none = absurd none
  at (Some spec) is asked = record { spec = spec; has = is; is = spec-of id.connector asked.properties spec asked.asked }

-- its parts are those of the config
pub parts-spec : (id : TaskId) (i : Instance) (h : HasSpec id i) → parts_of i ≡ h.spec.parts
parts-spec id i h = ap (λ (o : Option TaskSpec). option_map_or (λ (t : TaskSpec). t.parts) o []) h.has

verified-works : (p : InstancePhase) → is_verified p ≡ true → is_working p ≡ true
verified-works phase.Connector is = cc
verified-works phase.New is = cc
verified-works phase.Inited is = cc
verified-works phase.Verified is = refl
verified-works phase.Polling is = refl
verified-works phase.Produced is = refl
verified-works phase.Offered is = refl
verified-works phase.Delivered is = refl
verified-works phase.Failed is = cc
verified-works phase.Ended is = cc

pub verified-has : (p : InstancePhase) → is_verified p ≡ true → has_epoch p ≡ true
verified-has p is = or_right (is_starting p) (is_verified p) is

abbrev some-epoch : ℕ → Option Epoch
some-epoch m = Some (record { 0 = m })

under-last : (o : Option Epoch) (n : ℕ) → IsSome o → epoch_in o ≡ n → o ≡ Some (record { 0 = n })
under-last None n some is = cc
under-last (Some epoch) n some is = ap some-epoch is

pub at-work : (s : Cluster) (i : ℕ) → i < length s.instances → IsSoundInstance s (instance_of i s) → is_verified (instance_of i s).phase ≡ true →
    (epoch_in (instance_of i s).epoch == last_epoch (tid_of (instance_of i s).item) s) ≡ true → (id : TaskId) × IsAtWork s i id
at-work s i within sound verified current = at (instance_of i s).item refl sound.of_item sound.named where
  last : epoch_in (instance_of i s).epoch ≡ last_epoch (tid_of (instance_of i s).item) s
  last = (Decides-eqb (epoch_in (instance_of i s).epoch) (last_epoch (tid_of (instance_of i s).item) s)).0 current

  has : IsSome (instance_of i s).epoch
  has = sound.epoch (verified-has (instance_of i s).phase verified)

  at : (item : Item) → (instance_of i s).item ≡ item → IsOfItem s.configs item (instance_of i s) → IsItem item → (id : TaskId) × IsAtWork s i id
  at (Connector name) is of named = absurd (never (verified-works (instance_of i s).phase verified) of) where
    never : is_working (instance_of i s).phase ≡ true → IsConnectorInstance (instance_of i s) → ⊥
    never works own = let idle : is_working (instance_of i s).phase ≡ false = own.idle in cc
  at (Task id) is of named = (
    id,
    record {
      unfenced = record {
        verified = verified;
        last = record {
          is_task = record { within = within; item = is };
          under = under-last (instance_of i s).epoch (last_epoch (producer.Task id) s) has (last ∙ ap (λ (item : Item). last_epoch (tid_of item) s) is);
        };
      };
      task = has_spec id (instance_of i s) of.task;
      name = named.0;
      index = named.1;
      generation = of.generation;
    },
  )

abbrev tagged : ℕ → Tid → Epoch → Tag
tagged number tid epoch = record { number = number; epoch = epoch; tid = tid }

-- what it writes under, told by its id and epoch
pub tag_of-is : (s : Cluster) (i : ℕ) (id : TaskId) (epoch : ℕ) → Writes s i id epoch → tag_of (instance_of i s) ≡ tag_in_hand id epoch (instance_of i s)
tag_of-is s i id epoch o =
    ap (λ (item : Item). tagged (instance_of i s).number (tid_of item) (unwrap_or (instance_of i s).epoch (record { 0 = 0 }))) o.is_task.item
    ∙ ap (λ (o : Option Epoch). tagged (instance_of i s).number (producer.Task id) (unwrap_or o (record { 0 = 0 }))) o.under

-- no other instance writes under it
pub others-tag : (setting : Setting) (s : Cluster) → ProducerFacts setting s → (n i : ℕ) → n ≢ i → (id own : TaskId) (epoch last : ℕ) → Writes s n id epoch → Writes s i own last →
    same_tid (producer.Task id) (tag_of (instance_of i s)).tid ≡ true → (tag_of (instance_of i s)).epoch.0 ≡ epoch → ⊥
others-tag setting s f n i ne id own epoch last o w tid of =
    never (subst (λ (t : Tag). same_tid (producer.Task id) t.tid ≡ true) (tag_of-is s i own last w) tid) (subst (λ (t : Tag). t.epoch.0 ≡ epoch) (tag_of-is s i own last w) of)
  where
    never : same_tid (producer.Task id) (producer.Task own) ≡ true → last ≡ epoch → ⊥
    never tid of =
        let tids : producer.Task id ≡ producer.Task own = (same_tid-Decides (producer.Task id) (producer.Task own)).0 tid in
        let one : id ≡ own = cc in
        f.apart_epochs n i own last ne (subst (λ (k : TaskId). Writes s n k last) one (subst (λ (k : ℕ). Writes s n id k) (sym of) o)) w

-- a part of the instance is one of its spec
pub spec-get : (id : TaskId) (i : Instance) (h : HasSpec id i) (turn : ℕ) (part : PartKey) → slice_get (parts_of i) turn ≡ Some part → slice_get h.spec.parts turn ≡ Some part
spec-get id i h turn part there = subst (λ (parts : List PartKey). slice_get parts turn ≡ Some part) (parts-spec id i h) there

pub spec-source : (id : TaskId) (i : Instance) (h : HasSpec id i) → is_source i ≡ true → (row_of h.spec.class).is_source ≡ true
spec-source id i h source = subst (λ (o : Option TaskSpec). option_map_or (λ (t : TaskSpec). (row_of t.class).is_source) o false ≡ true) h.has source

pub spec-count : (id : TaskId) (i : Instance) → HasSpec id i → count_of i < 2 ^ 64
spec-count id i h = subst (λ (o : Option TaskSpec). option_map_or (λ (t : TaskSpec). t.count) o 0 < 2 ^ 64) (sym h.has) h.is.count

named-topic : (o : Option (List ℕ)) → IsSomeAnd o IsName → IsName (unwrap_or o [])
named-topic None none = absurd none
named-topic (Some topic) named = named

pub spec-topic : (id : TaskId) (i : Instance) → HasSpec id i → is_source i ≡ true → IsName (topic_of i)
spec-topic id i h source = subst (λ (o : Option TaskSpec). IsName (unwrap_or (option_and_then (λ (t : TaskSpec). t.topic) o) [])) (sym h.has)
    (named-topic h.spec.topic (h.is.topic (spec-source id i h source)))
