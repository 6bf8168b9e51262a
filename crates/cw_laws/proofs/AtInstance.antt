-- The facts of producers, taken apart: those of one instance, and those of two.
use Rattle.std.proofs.Common.{◌≡◌, ◌≢◌, ℕ, ◌<◌, ◌≤◌, true, Some, map, subst, List}
use Rattle.std.specs.List.{zip, AllByRecursion}
use Rattle.cw_types.specs.declared.ids.TaskId.{TaskId}
use Rattle.cw_types.specs.declared.ids.Tid.TheVariants as producer
use Rattle.cw_config.specs.View.{fenced_count_of}
use Rattle.cw_plugin.specs.Tasks.{ShareNone}
use Rattle.cw_model.specs.declared.row.Fencing.{Fencing}
use Rattle.cw_types.specs.declared.ids.Tag.{Tag}
use Rattle.cw_io.specs.Shelf.{Files}
use Rattle.cw_data.specs.declared.entry.Batch.{Batch}
use Rattle.cw_model.specs.declared.instance.Instance.{Instance}
use Rattle.cw_model.specs.State.{Setting, Cluster}
use Rattle.cw_model.specs.Lookups.{instance_of, last_epoch, end_or_start}
use Rattle.cw_model.specs.Tasks.{parts_of}
use Rattle.cw_model.specs.EventsItems.{spec_in}
use Rattle.cw_model.specs.Fences.{fenced_generation_of}
use Rattle.cw_model.specs.Committed.{batches_of}
use Rattle.cw_model.specs.FactsProducers.{ProducerFacts, Writes, IsUnfenced, IsNewest, IsFencing, IsToBeFenced, HasItsBatch, HasUsed, IsBelow, batch_tags, commit_tags, batches_up_to, commits_up_to, tag_in_hand}
use Rattle.cw_model.specs.Phases.{is_fetched, has_epoch, has_open_transaction}

-- the facts of producers that are of one instance
pub record InstanceFacts (setting : Setting) (s : Cluster) (n : ℕ) : Type 0 where
  pub generation : (id : TaskId) → IsUnfenced s n id → fenced_generation_of id.connector s.configs ≡ Some (instance_of n s).generation
  pub counted : (id : TaskId) → IsUnfenced s n id → id.index < fenced_count_of id.connector s.configs
  pub positions : (id : TaskId) → IsUnfenced s n id → is_fetched (instance_of n s).phase ≡ true →
      (instance_of n s).positions ≡ map (λ part. end_or_start part s.entries) (parts_of (instance_of n s))
  pub task : (id : TaskId) → IsNewest s n id → spec_in s.configs id ≡ (instance_of n s).task
  pub one_batch : (id : TaskId) (epoch : ℕ) → Writes s n id epoch → has_open_transaction (instance_of n s).phase ≡ true →
      HasItsBatch setting.feeds (batches_of s.batches) (tag_in_hand id epoch (instance_of n s)) (instance_of n s)
  pub fencing : (w : ℕ) (fencing : Fencing) (id : TaskId) → IsFencing s w fencing → IsUnfenced s n id → id.connector ≡ fencing.connector →
      (instance_of n s).generation < fencing.generation → IsToBeFenced fencing id.index
  pub not_ahead : (id : TaskId) → IsNewest s n id →
      AllByRecursion (λ p. p.1 ≤ end_or_start p.0 s.entries) (zip (parts_of (instance_of n s)) (instance_of n s).positions)
  pub known_epochs : (id : TaskId) (epoch : ℕ) → Writes s n id epoch → epoch ≤ last_epoch (producer.Task id) s
  pub numbers : (id : TaskId) (epoch : ℕ) → Writes s n id epoch → has_epoch (instance_of n s).phase ≡ true →
      HasUsed s id epoch (batches_up_to (instance_of n s)) (commits_up_to (instance_of n s))

-- those of two
pub record PairFacts (s : Cluster) (m n : ℕ) : Type 0 where
  pub apart : (a b : TaskId) → IsUnfenced s m a → IsUnfenced s n b → a.connector ≡ b.connector →
      ShareNone (parts_of (instance_of m s)) (parts_of (instance_of n s))
  pub epochs : (id : TaskId) (epoch : ℕ) → Writes s m id epoch → Writes s n id epoch → ⊥

pub facts_of_one : (setting : Setting) (s : Cluster) → ProducerFacts setting s → (n : ℕ) → InstanceFacts setting s n
facts_of_one setting s f n = record {
  generation = f.generation n;
  counted = f.counted n;
  positions = f.positions n;
  task = f.task n;
  one_batch = f.one_batch n;
  fencing = λ w. f.fencing w n;
  not_ahead = f.not_ahead n;
  known_epochs = f.known_epochs n;
  numbers = f.numbers n;
}

pub facts_of_two : (setting : Setting) (s : Cluster) → ProducerFacts setting s → (m n : ℕ) → m ≢ n → PairFacts s m n
facts_of_two setting s f m n ne = record { apart = λ a b. f.apart m n a b ne; epochs = λ id epoch. f.apart_epochs m n id epoch ne }

pub facts_of_all : (setting : Setting) (s : Cluster) → ((n : ℕ) → InstanceFacts setting s n) → ((m n : ℕ) → m ≢ n → PairFacts s m n) → ProducerFacts setting s
facts_of_all setting s one two = record {
  generation = λ n. (one n).generation;
  counted = λ n. (one n).counted;
  positions = λ n. (one n).positions;
  apart = λ m n a b ne. (two m n ne).apart a b;
  task = λ n. (one n).task;
  one_batch = λ n. (one n).one_batch;
  fencing = λ w n. (one n).fencing w;
  not_ahead = λ n. (one n).not_ahead;
  apart_epochs = λ m n id epoch ne. (two m n ne).epochs id epoch;
  known_epochs = λ n. (one n).known_epochs;
  numbers = λ n. (one n).numbers;
}

-- what an instance has used stays where data and transactions do
pub used-frame : (s t : Cluster) (id : TaskId) (epoch b c b' c' : ℕ) → b ≡ b' → c ≡ c' → HasUsed s id epoch b c →
    HasUsed (record t { batches = s.batches; entries = s.entries }) id epoch b' c'
used-frame s t id epoch b c b' c' same same' u = record {
  batches = subst (λ n. AllByRecursion (IsBelow id epoch n) (batch_tags s)) same u.batches;
  commits = subst (λ n. AllByRecursion (IsBelow id epoch n) (commit_tags s)) same' u.commits;
}

-- ---- who a producer is stays where instances, transactions and configs do: t is any state, taken with those of s

pub writes-frame : (s t : Cluster) (n : ℕ) (id : TaskId) (epoch : ℕ) → Writes (record t { instances = s.instances }) n id epoch → Writes s n id epoch
writes-frame s t n id epoch o = record { is_task = record { within = o.is_task.within; item = o.is_task.item }; under = o.under }

pub unfenced-frame : (s t : Cluster) (n : ℕ) (id : TaskId) → IsUnfenced (record t { instances = s.instances; entries = s.entries }) n id → IsUnfenced s n id
unfenced-frame s t n id o = record { verified = o.verified; last = writes-frame s (record t { entries = s.entries }) n id (last_epoch (producer.Task id) s) o.last }

pub newest-frame : (s t : Cluster) (n : ℕ) (id : TaskId) → IsNewest (record t { instances = s.instances; configs = s.configs }) n id → IsNewest s n id
newest-frame s t n id o = record { is_task = record { within = o.is_task.within; item = o.is_task.item }; newest = o.newest }

pub pair-frame : (s t : Cluster) (m n : ℕ) → PairFacts s m n → PairFacts (record t { instances = s.instances; entries = s.entries }) m n
pair-frame s t m n f = record {
  apart = λ a b u v. f.apart a b (unfenced-frame s t m a u) (unfenced-frame s t n b v);
  epochs = λ id epoch u v. f.epochs id epoch (writes-frame s (record t { entries = s.entries }) m id epoch u) (writes-frame s (record t { entries = s.entries }) n id epoch v);
}

-- the one batch of a transaction is that of any instance with the same task, positions and cut
pub its_batch-frame : (feeds : Files) (batches : List Batch) (tag : Tag) (j k : Instance) → HasItsBatch feeds batches tag j →
    HasItsBatch feeds batches tag (record k { task = j.task; positions = j.positions; cut = j.cut })
its_batch-frame feeds batches tag j k h = record {
  batch = h.batch;
  cut = h.cut;
  only = h.only;
  is_cut = h.is_cut;
  part = h.part;
  begins = h.begins;
  cut_begins = h.cut_begins;
  cut_ends = h.cut_ends;
  some = h.some;
  whole = h.whole;
  yields = h.yields;
}
