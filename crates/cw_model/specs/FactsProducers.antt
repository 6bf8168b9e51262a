-- The facts of producers by which each commits what goes on from what is committed, once, whatever happens next: what
-- an instance is like that isn't fenced, and which transactions it may still write (KIP-618, KIP-98). They are this
-- project's own.
use Rattle.std.specs.Prelude.{◌≡◌, ◌≢◌, ℕ, ◌<◌, ◌≤◌, ◌+◌, ◌&&◌, Bool, true, false, not, List, [], ◌∷◌, ◌++◌, length}
use Rattle.std.specs.Prelude.{map, Option, Some, None, slice_get, if◌then◌else◌}
use Rattle.std.specs.List.{filter, filter_map, zip, AllByRecursion}
use Rattle.cw_types.specs.declared.ids.Item.TheVariants.{Task}
use Rattle.cw_types.specs.declared.ids.Tid.TheVariants as producer
use Rattle.cw_types.specs.declared.ids.TaskId.{TaskId}
use Rattle.cw_types.specs.declared.ids.Tag.{Tag}
use Rattle.cw_config.specs.View.{generation_of, fenced_count_of}
use Rattle.cw_txn.specs.declared.entry.Entry.{Entry}
use Rattle.cw_txn.specs.declared.entry.Entry.TheVariants.{Bump, Commit, Set}
use Rattle.cw_types.specs.Same.{same_tid, same_tag}
use Rattle.cw_data.specs.declared.entry.Batch.{Batch}
use Rattle.cw_feed.specs.Yield.{Yield}
use Rattle.cw_io.specs.Shelf.{Files}
use Rattle.cw_plugin.specs.Tasks.{ShareNone}
use Rattle.cw_model.specs.declared.row.Fencing.{Fencing}
use Rattle.cw_model.specs.declared.instance.Cut.{Cut}
use Rattle.cw_model.specs.declared.instance.Instance.{Instance}
use Rattle.cw_model.specs.State.{Cluster, Setting}
use Rattle.cw_model.specs.Phases.{is_starting, is_verified, is_fetched, has_epoch, has_open_transaction}
use Rattle.cw_model.specs.Lookups.{row_of, instance_of, last_epoch, end_or_start}
use Rattle.cw_model.specs.Tasks.{parts_of, count_of}
use Rattle.cw_model.specs.EventsItems.{spec_in}
use Rattle.cw_model.specs.EventsSources.{ends_badly}
use Rattle.cw_model.specs.Fences.{fenced_generation_of}
use Rattle.cw_model.specs.Committed.{batches_of}

-- an instance of a task
pub record IsOfTask (s : Cluster) (n : ℕ) (id : TaskId) : Type 0 where
  pub within : n < length s.instances
  pub item : (instance_of n s).item ≡ Task id

-- an instance of a task that writes as its producer of this epoch
pub record Writes (s : Cluster) (n : ℕ) (id : TaskId) (epoch : ℕ) : Type 0 where
  pub is_task : IsOfTask s n id
  pub under : (instance_of n s).epoch ≡ Some (record { 0 = epoch })

-- an unfenced producer: an instance that may write, under the last epoch of its id (KIP-98)
pub record IsUnfenced (s : Cluster) (n : ℕ) (id : TaskId) : Type 0 where
  pub verified : is_verified (instance_of n s).phase ≡ true
  pub last : Writes s n id (last_epoch (producer.Task id) s)

-- an instance of a task of the newest generation
pub record IsNewest (s : Cluster) (n : ℕ) (id : TaskId) : Type 0 where
  pub is_task : IsOfTask s n id
  pub newest : generation_of id.connector s.configs ≡ Some (instance_of n s).generation

-- the transactions under which batches stand in the data log
abbrev pub batch_tags : Cluster → List Tag
batch_tags s = map (λ batch. batch.tag) (batches_of s.batches)

-- the transaction that an entry commits
abbrev pub commit_tag : Entry → Option Tag
commit_tag (Bump tid) = None
commit_tag (Commit tag generation spans) = Some tag
commit_tag (Set tid epoch list) = None

-- the transactions that are committed
abbrev pub commit_tags : Cluster → List Tag
commit_tags s = filter_map commit_tag s.entries

-- a transaction of this producer and epoch has a number below this one
abbrev pub IsBelow : TaskId → ℕ → ℕ → Tag → Type 0
IsBelow id epoch number tag = same_tid (producer.Task id) tag.tid ≡ true → tag.epoch.0 ≡ epoch → tag.number < number

-- of this producer and epoch no batch has this number or a later one, and no commit that one or a later one
pub record HasUsed (s : Cluster) (id : TaskId) (epoch next_batch next_commit : ℕ) : Type 0 where
  pub batches : AllByRecursion (IsBelow id epoch next_batch) (batch_tags s)
  pub commits : AllByRecursion (IsBelow id epoch next_commit) (commit_tags s)

-- the number of its next batch: nothing was written while it is starting, and while its transaction is open, that has
-- a batch
abbrev pub batches_up_to : Instance → ℕ
batches_up_to i =
    if is_starting i.phase then 0 else if has_open_transaction i.phase then i.number + 1 else i.number

-- the number of its next commit
abbrev pub commits_up_to : Instance → ℕ
commits_up_to i = if is_starting i.phase then 0 else i.number

-- the transaction that an instance has in hand
abbrev pub tag_in_hand : TaskId → ℕ → Instance → Tag
tag_in_hand id epoch i = record { tid = producer.Task id; epoch = record { 0 = epoch }; number = i.number }

-- the one batch of an instance's transaction: it is of the part that was polled last, begins at the position there, is
-- what was cut, isn't empty, and has what the feeds yield between
pub record HasItsBatch (feeds : Files) (batches : List Batch) (tag : Tag) (i : Instance) : Type 0 where
  pub batch : Batch
  pub cut : Cut
  pub only : filter (λ b. same_tag tag b.tag) batches ≡ batch ∷ []
  pub is_cut : i.cut ≡ Some cut
  pub part : slice_get (parts_of i) cut.turn ≡ Some batch.part
  pub begins : slice_get i.positions cut.turn ≡ Some batch.from
  pub cut_begins : cut.from ≡ batch.from
  pub cut_ends : cut.to ≡ batch.to
  pub some : batch.from < batch.to
  -- it ends where the part has a record's end: `put_offsets` needs it, whose record tells that place
  pub whole : ends_badly feeds batch.part (count_of i) batch.to ≡ false
  pub yields : Yield feeds batch.part batch.from batch.to batch.values

-- the leader whose epoch is the last one is fencing the older producers of a connector (KIP-618)
pub record IsFencing (s : Cluster) (w : ℕ) (fencing : Fencing) : Type 0 where
  pub leads : (row_of w s).lead ≡ Some (record { 0 = last_epoch producer.Lead s })
  pub keeps : (row_of w s).fencing ≡ Some fencing

-- a producer whose turn in a fencing is still to come
pub record IsToBeFenced (fencing : Fencing) (index : ℕ) : Type 0 where
  pub later : fencing.next ≤ index
  pub counted : index < fencing.count

-- the facts of producers
pub record ProducerFacts (setting : Setting) (s : Cluster) : Type 0 where
  -- an unfenced producer is of the generation for which the last fence stands: nothing that it commits is older than a
  -- standing fence
  pub generation : (n : ℕ) (id : TaskId) → IsUnfenced s n id →
      fenced_generation_of id.connector s.configs ≡ Some (instance_of n s).generation
  -- and it is one of the tasks that this fence counts, so that the next fencing meets it
  pub counted : (n : ℕ) (id : TaskId) → IsUnfenced s n id → id.index < fenced_count_of id.connector s.configs
  -- its positions are the ends of its parts: what it commits next goes on from there
  pub positions : (n : ℕ) (id : TaskId) → IsUnfenced s n id → is_fetched (instance_of n s).phase ≡ true →
      (instance_of n s).positions ≡ map (λ part. end_or_start part s.entries) (parts_of (instance_of n s))
  -- no other one reads its parts, so that its positions stay the ends
  pub apart : (m n : ℕ) (a b : TaskId) → m ≢ n → IsUnfenced s m a → IsUnfenced s n b → a.connector ≡ b.connector →
      ShareNone (parts_of (instance_of m s)) (parts_of (instance_of n s))
  -- an instance of the newest generation does what its task's config asks: `verify` needs it, since the configs of one
  -- commit share no part, and what is quiet is done by it
  pub task : (n : ℕ) (id : TaskId) → IsNewest s n id → spec_in s.configs id ≡ (instance_of n s).task
  -- while its transaction is open, the data log has one batch of it, which is what it would commit: `commit` needs it,
  -- which writes the span of the cut. It is so of an instance that is fenced, too
  pub one_batch : (n : ℕ) (id : TaskId) (epoch : ℕ) → Writes s n id epoch →
      has_open_transaction (instance_of n s).phase ≡ true →
      HasItsBatch setting.feeds (batches_of s.batches) (tag_in_hand id epoch (instance_of n s)) (instance_of n s)
  -- an older producer that isn't fenced yet has its turn still to come: when the fence is written, there is none
  pub fencing : (w n : ℕ) (fencing : Fencing) (id : TaskId) → IsFencing s w fencing → IsUnfenced s n id →
      id.connector ≡ fencing.connector →
      (instance_of n s).generation < fencing.generation → IsToBeFenced fencing id.index
  -- an instance of the newest generation isn't ahead of what is committed: one that is at its end leaves nothing
  -- behind it
  pub not_ahead : (n : ℕ) (id : TaskId) → IsNewest s n id →
      AllByRecursion (λ p. p.1 ≤ end_or_start p.0 s.entries)
      (zip (parts_of (instance_of n s)) (instance_of n s).positions)
  -- no two instances have one id and one epoch: a bump fences all but one
  pub apart_epochs : (m n : ℕ) (id : TaskId) (epoch : ℕ) → m ≢ n → Writes s m id epoch → Writes s n id epoch → ⊥
  -- no instance is ahead of its id's last epoch, so that the next one is new
  pub known_epochs : (n : ℕ) (id : TaskId) (epoch : ℕ) → Writes s n id epoch → epoch ≤ last_epoch (producer.Task id) s
  -- what it has written has numbers below those of its next transaction: `produce`, `commit` and `put_sink` need it,
  -- so that no transaction has two batches of a part, and none is committed twice. It is so of an instance that is
  -- fenced, too
  pub numbers : (n : ℕ) (id : TaskId) (epoch : ℕ) → Writes s n id epoch → has_epoch (instance_of n s).phase ≡ true →
      HasUsed s id epoch (batches_up_to (instance_of n s)) (commits_up_to (instance_of n s))
