-- What a quiet cluster has done, one step on the other: the round is planned and each member has its assignment; each
-- configured item has its member; each runs there, with the tasks that its connector asks for; and what has come to
-- its end leaves nothing behind it. This project's own: Kafka Connect says none of it.
use Rattle.std.specs.Prelude.{◌≡◌, ◌≢◌, ℕ, true, false, List, [], map, Some, IsSome}
use Rattle.std.specs.List.{AllByRecursion}
use Rattle.cw_types.specs.declared.ids.Item.{Item}
use Rattle.cw_assign.specs.declared.delay.Delay.TheVariants.{Idle}
use Rattle.cw_assign.specs.Items.{has}
use Rattle.cw_group.specs.declared.answers.Phase.TheVariants.{Planned}
use Rattle.cw_keys.specs.declared.target.Target.TheVariants.{Stopped}
use Rattle.cw_config.specs.View.{config_of, target_of, is_pending}
use Rattle.cw_model.specs.declared.instance.InstancePhase.TheVariants.{Failed}
use Rattle.cw_model.specs.declared.row.RowPhase.TheVariants.{Stable}
use Rattle.cw_model.specs.State.{Setting, Cluster}
use Rattle.cw_model.specs.Lookups.{row_of, is_member, held, configured_items}
use Rattle.cw_model.specs.EventsItems.{is_active}
use Rattle.cw_model.specs.Facts.{AreFacts}
use Rattle.cw_model.specs.FactsGroup.{AreAmong}
use Rattle.cw_model.specs.Proposals.{proposal_of, tasks_of}
use Rattle.cw_model.specs.Quiet.{IsQuiet}

-- ---- of which states

-- a worker that takes part
pub record SomeActive (s : Cluster) : Type 0 where
  pub worker : ℕ
  pub active : is_active s worker ≡ true

-- a quiet state of the cluster, in which nothing is waited for
pub record IsCalm (setting : Setting) (s : Cluster) : Type 0 where
  pub facts : AreFacts setting s
  -- no rule applies to a worker that takes part, and each instance is at rest
  pub quiet : IsQuiet setting s
  -- no departed member's return is waited for
  pub no_delay : s.delay ≡ Idle
  -- no instance has failed
  pub none_failed : AllByRecursion (λ i. i.phase ≢ Failed) s.instances
  -- some worker takes part, and so does each member
  pub some_active : SomeActive s
  pub members_active : (w : ℕ) → is_member w s ≡ true → is_active s w ≡ true

-- ---- first: the group

-- a member has its assignment of the round, and nothing to give up
pub record HasItsAssignment (s : Cluster) (w : ℕ) : Type 0 where
  pub leader : ℕ
  pub stable : (row_of w s).phase ≡ Stable s.group.round leader
  pub nothing_revoked : (row_of w s).revoked ≡ []

-- the round is planned, and its members know
pub record IsSettledGroup (s : Cluster) : Type 0 where
  pub planned : s.group.phase ≡ Planned
  pub members : (w : ℕ) → is_member w s ≡ true → HasItsAssignment s w

-- ---- second: the assignment

-- an item is assigned to just one member
pub record IsAssignedOnce (s : Cluster) (item : Item) : Type 0 where
  pub worker : ℕ
  pub member : is_member worker s ≡ true
  pub assigned : has (row_of worker s).assigned item ≡ true
  pub only : (other : ℕ) → is_member other s ≡ true → has (row_of other s).assigned item ≡ true → other ≡ worker

-- what is configured is what is planned, and it is what is assigned
pub record IsAssigned (s : Cluster) : Type 0 where
  pub planned : s.group.planned ≡ configured_items s.configs
  pub once : (item : Item) → has (configured_items s.configs) item ≡ true → IsAssignedOnce s item
  pub only : (w : ℕ) → is_member w s ≡ true → AreAmong (row_of w s).assigned (configured_items s.configs)

-- ---- third: what runs

-- an item runs at this member, and at no other
pub record RunsAt (s : Cluster) (w : ℕ) (item : Item) : Type 0 where
  pub here : has (held w s) item ≡ true
  pub only : (other : ℕ) → is_member other s ≡ true → has (held other s) item ≡ true → other ≡ w

-- configured connectors have the tasks that they ask for, older ones are fenced, and all that is assigned runs
pub record IsRunning (s : Cluster) : Type 0 where
  pub fenced : (name : List ℕ) → IsSome (config_of name s.configs) → is_pending name s.configs ≡ false
  pub tasks : (name : List ℕ) → IsSome (config_of name s.configs) → target_of name s.configs ≢ Stopped →
      tasks_of name s.configs ≡ map Some (proposal_of name s.configs)
  pub runs : (w : ℕ) (item : Item) → is_member w s ≡ true → has (row_of w s).assigned item ≡ true → RunsAt s w item
