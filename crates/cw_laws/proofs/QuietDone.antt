-- A calm cluster has done all that its connectors ask for.
use Rattle.std.proofs.Common.{◌≡◌, ◌≢◌, inl, inr, ℕ, ◌+◌, ◌==◌, ◌<◌, Bool, true, false, not, ◌&&◌, ◌||◌, cond, List, [], ◌∷◌, length, map, zero, suc, slice_index_or, Option, Some, None, refl, sym, ap, ◌∙◌, subst, arith}
use Rattle.std.proofs.lemmas.Bool.{and_parts, or_right, or_parts, not-false}
use Rattle.std.specs.Prelude.{slice_get}
use Rattle.std.specs.Option.{is_some, IfSome, option_and_then}
use Rattle.std.specs.List.{AllByRecursion, filter, list_any, range_with_len}
use Rattle.std.proofs.lemmas.Bool.Decides.{Decides-eqb}
use Rattle.cw_types.specs.declared.ids.TaskId.{TaskId}
use Rattle.cw_types.specs.declared.ids.Item.{Item}
use Rattle.cw_types.specs.declared.ids.Item.TheVariants.{Task}
use Rattle.cw_assign.specs.Items.{has, same_item, in_order}
use Rattle.cw_assign.proofs.ItemLemmas.{same_item-Decides}
use Rattle.cw_keys.specs.declared.target.Target.TheVariants.{Started, Paused}
use Rattle.cw_config.specs.declared.records.ConfigRecord.{ConfigRecord}
use Rattle.cw_config.specs.View.{Properties, config_of, target_of, generation_of, task_count_of, task_of as task_config_of}
use Rattle.cw_plugin.specs.declared.task.TaskSpec.{TaskSpec}
use Rattle.cw_plugin.specs.Parts.{task_of as task_with}
use Rattle.cw_model.specs.declared.instance.Instance.{Instance}
use Rattle.cw_model.specs.declared.instance.InstancePhase.TheVariants as phase
use Rattle.cw_model.specs.State.{Setting, Cluster}
use Rattle.cw_model.specs.Phases.{is_ended}
use Rattle.cw_model.specs.Lookups.{row_of, seen, instance_of, no_instance, is_member, is_at, connector_of, items_of, configured_items, is_configured}
use Rattle.cw_model.specs.FactsRows.{IsSoundInstance, IsOfItem, IsTaskInstance}
use Rattle.cw_model.specs.FactsProducers.{IsNewest}
use Rattle.cw_types.specs.Task.{task_id}
use Rattle.cw_model.specs.Proposals.{proposal_of}
use Rattle.cw_model.specs.Quiet.{PollsNothing, IsAtRest, RunsOnce, IsThrough, IsDone}
use Rattle.cw_model.specs.TickRules.{is_generation, is_of_other, is_outdated}
use Rattle.cw_laws.specs.QuietLaws.{IsCalm, IsAssignedOnce, RunsAt}
use Rattle.cw_laws.proofs.Lists.{each-at}
use Rattle.cw_laws.proofs.Held.{has-in_order, held-any}
use Rattle.cw_laws.proofs.ConfiguredItems.{items-configured, task-listed}
use Rattle.cw_laws.proofs.QuietRules.{member-rule}
use Rattle.cw_laws.proofs.QuietGroup.{member-seen, quiet-assigned}
use Rattle.cw_laws.proofs.QuietItems.{some-is, quiet-running}
use Rattle.cw_laws.proofs.QuietSources.{newest-through}
use Rattle.cw_laws.proofs.Tests.{not-second}

-- ---- lists

-- what holds of each item that a list has holds of all
all-of : (P : Item → Type 0) (xs : List Item) → ((x : Item) → has xs x ≡ true → P x) → AllByRecursion P xs
all-of P [] so = tt
all-of P (x ∷ xs) so = (so x (first x), all-of P xs (λ y is. so y (later y is))) where
  first : (x : Item) → (same_item x x || has xs x) ≡ true
  first x = ap (λ b. b || has xs x) ((same_item-Decides x x).1 refl)

  later : (y : Item) → has xs y ≡ true → (same_item y x || has xs y) ≡ true
  later y is = or_right (same_item y x) (has xs y) is

-- an element that passes, by its place
pub record PassesAt {X : Type 0} (p : X → Bool) (xs : List X) (d : X) : Type 0 where
  pub place : ℕ
  pub within : place < length xs
  pub passes : p (slice_index_or xs place d) ≡ true

place-of : {X : Type 0} (p : X → Bool) (xs : List X) (d : X) → list_any p xs ≡ true → PassesAt p xs d
place-of p [] d is = absurd (cc)
place-of p (x ∷ xs) d is = pick (p x) refl is (place-of p xs d) where
  pick : (b : Bool) → p x ≡ b → (b || list_any p xs) ≡ true → (list_any p xs ≡ true → PassesAt p xs d) → PassesAt p (x ∷ xs) d
  pick true here is rest = record { place = 0; within = omega arith; passes = here }
  pick false fails is rest =
      let behind : PassesAt p xs d = rest is in
      record { place = suc behind.place; within = omega (arith, behind.within); passes = behind.passes }

-- what a filter keeps of instances has the item of each one that passes
filtered-has : (p : Instance → Bool) (is : List Instance) (n : ℕ) (d : Instance) → n < length is → p (slice_index_or is n d) ≡ true →
    has (map (λ i. i.item) (filter p is)) (slice_index_or is n d).item ≡ true
filtered-has p [] n d within passes = absurd (omega arith)
filtered-has p (i ∷ is) zero d within passes = ap (λ (b : Bool). has (map (λ i. i.item) (cond b (i ∷ filter p is) (filter p is))) i.item) passes
    ∙ ap (λ b. b || has (map (λ i. i.item) (filter p is)) i.item) ((same_item-Decides i.item i.item).1 refl)
filtered-has p (i ∷ is) (suc n) d within passes = pick (p i) (filtered-has p is n d (omega arith) passes) where
  pick : (b : Bool) → has (map (λ i. i.item) (filter p is)) (slice_index_or is n d).item ≡ true →
      has (map (λ i. i.item) (cond b (i ∷ filter p is) (filter p is))) (slice_index_or is n d).item ≡ true
  pick true rest = or_right (same_item (slice_index_or is n d).item i.item) (has (map (λ i. i.item) (filter p is)) (slice_index_or is n d).item) rest
  pick false rest = rest

nothing-first : (xs : List Item) (x : Item) → slice_get xs 0 ≡ None → has xs x ≡ false
nothing-first [] x none = refl
nothing-first (y ∷ ys) x none = absurd (cc)

-- no instance passes where none is the first
none-runs : (p : Instance → Bool) (is : List Instance) (n : ℕ) (d : Instance) → n < length is → slice_get (in_order (map (λ i. i.item) (filter p is))) 0 ≡ None →
    p (slice_index_or is n d) ≡ false
none-runs p is n d within none = pick (p (slice_index_or is n d)) refl where
  clash : p (slice_index_or is n d) ≡ true → ⊥
  clash passes =
      let some : has (in_order (map (λ i. i.item) (filter p is))) (slice_index_or is n d).item ≡ true =
      has-in_order (slice_index_or is n d).item (map (λ i. i.item) (filter p is)) ∙ filtered-has p is n d within passes in
      let nothing : has (in_order (map (λ i. i.item) (filter p is))) (slice_index_or is n d).item ≡ false =
      nothing-first (in_order (map (λ i. i.item) (filter p is))) (slice_index_or is n d).item none in cc

  pick : (b : Bool) → p (slice_index_or is n d) ≡ b → b ≡ false
  pick true passes = absurd (clash passes)
  pick false fails = refl

-- what holds of each task by its number holds of all that are proposed
each-proposed : (f : ℕ → Option Properties) (P : Properties → Type 0) (proposal : List Properties) (from count : ℕ) → map f (range_with_len from count) ≡ map Some proposal →
    ((index : ℕ) → index < from + count → (props : Properties) → f index ≡ Some props → P props) → AllByRecursion P proposal
each-proposed f P [] from count same so = tt
each-proposed f P (props ∷ proposal) from zero same so = absurd (cc)
each-proposed f P (props ∷ proposal) from (suc count) same so =
    let first : f from ≡ Some props = cc in
    let later : map f (range_with_len (from + 1) count) ≡ map Some proposal = cc in
    (so from (omega arith) props first, each-proposed f P proposal (from + 1) count later (λ index below props is. so index (omega (arith, below)) props is))

-- ---- a task that runs

newest-generation : (generation : ℕ) (newest : Option ℕ) → not (is_generation generation newest) ≡ false → newest ≡ Some generation
newest-generation generation None is = absurd (cc)
newest-generation generation (Some n) is = ap (λ (k : ℕ). Some k) ((Decides-eqb n generation).0 (not-false (n == generation) is))

module _ (setting : Setting) (s : Cluster) (c : IsCalm setting s) where
  pub runs-once : (x : Item) → has (configured_items s.configs) x ≡ true → RunsOnce s x
  runs-once x listed =
      let once : IsAssignedOnce s x = (quiet-assigned setting s c).once x listed in
      let here : RunsAt s once.worker x = (quiet-running setting s c).runs once.worker x once.member once.assigned in
      record { worker = once.worker; member = once.member; holds = here.here; only = here.only }

  -- an instance that doesn't stop is of the newest generation
  is-newest : (w n : ℕ) (id : TaskId) → is_member w s ≡ true → n < length s.instances → is_at w (instance_of n s) ≡ true → (instance_of n s).item ≡ Task id → IsNewest s n id
  is-newest w n id current within at item =
      let none : (is_at w (instance_of n s) && (not (is_member w s) || is_outdated w s (instance_of n s))) ≡ false =
      none-runs (λ i. is_at w i && (not (is_member w s) || is_outdated w s i)) s.instances n no_instance within (member-rule setting s c w current).stop in
      let goes_on : (not (is_member w s) || is_outdated w s (instance_of n s)) ≡ false =
      not-second (is_at w (instance_of n s)) (not (is_member w s) || is_outdated w s (instance_of n s)) none at in
      let not_outdated : is_outdated w s (instance_of n s) ≡ false = (or_parts (not (is_member w s)) (is_outdated w s (instance_of n s)) goes_on).1 in
      let not_other : is_of_other (seen w s) (instance_of n s).generation (instance_of n s).item ≡ false =
      (or_parts (not (has (row_of w s).assigned (instance_of n s).item) || not (is_configured (seen w s) (instance_of n s).item))
      (is_of_other (seen w s) (instance_of n s).generation (instance_of n s).item) not_outdated).1 in
      let of_task : is_of_other s.configs (instance_of n s).generation (Task id) ≡ false =
      subst (λ (records : List ConfigRecord). is_of_other records (instance_of n s).generation (Task id) ≡ false) (member-seen setting s c w current)
      (subst (λ (x : Item). is_of_other (seen w s) (instance_of n s).generation x ≡ false) item not_other) in
      record {
        is_task = record { within = within; item = item };
        newest = newest-generation (instance_of n s).generation (generation_of id.connector s.configs) of_task;
      }

  -- it finds nothing more, unless its connector is paused
  finds-nothing : (w n : ℕ) (id : TaskId) → is_member w s ≡ true → n < length s.instances → is_at w (instance_of n s) ≡ true → (instance_of n s).item ≡ Task id →
      target_of id.connector s.configs ≡ Started → PollsNothing setting s (instance_of n s)
  finds-nothing w n id current within at item started =
      let parts : (((instance_of n s).worker == w) ≡ true) × (not (is_ended (instance_of n s).phase) ≡ true) = and_parts ((instance_of n s).worker == w) (not (is_ended (instance_of n s).phase)) at in
      let worker : (instance_of n s).worker ≡ w = (Decides-eqb (instance_of n s).worker w).0 parts.0 in
      pick worker (each-at (λ i. is_ended i.phase ≡ false → IsAtRest setting s i) s.instances n no_instance within c.quiet.at_rest (goes_on (is_ended (instance_of n s).phase) parts.1)) where
        goes_on : (b : Bool) → not b ≡ true → b ≡ false
        goes_on true is = absurd (cc)
        goes_on false is = refl

        sound : IsSoundInstance s (instance_of n s)
        sound = each-at (IsSoundInstance s) s.instances n no_instance within c.facts.rows.instances

        of_task : IsTaskInstance s.configs id (instance_of n s)
        of_task = subst (λ (x : Item). IsOfItem s.configs x (instance_of n s)) item sound.of_item

        paused : (instance_of n s).worker ≡ w → target_of (connector_of (instance_of n s).item) (seen (instance_of n s).worker s) ≡ Paused → ⊥
        paused worker is =
            let own : target_of id.connector (seen w s) ≡ Paused =
            subst (λ (v : ℕ). target_of id.connector (seen v s) ≡ Paused) worker (subst (λ (x : Item). target_of (connector_of x) (seen (instance_of n s).worker s) ≡ Paused) item is) in
            let now : target_of id.connector s.configs ≡ Paused = subst (λ (records : List ConfigRecord). target_of id.connector records ≡ Paused) (member-seen setting s c w current) own in
            let clash : Started ≡ Paused = sym started ∙ now in cc

        pick : (instance_of n s).worker ≡ w → IsAtRest setting s (instance_of n s) → PollsNothing setting s (instance_of n s)
        pick worker (inl failed) = absurd (each-at (λ i. i.phase ≢ phase.Failed) s.instances n no_instance within c.none_failed failed)
        pick worker (inr (inl (inl connector))) = absurd (of_task.phase connector)
        pick worker (inr (inl (inr polls))) = polls
        pick worker (inr (inr stopped)) = absurd (paused worker stopped.target)

  at-end : (id : TaskId) (props : Properties) (n : ℕ) → IsNewest s n id → PollsNothing setting s (instance_of n s) → task_config_of id s.configs ≡ Some props →
      IfSome (task_with id.connector props) (IsThrough setting s)
  at-end id props n newest polls config =
      let spec : task_with id.connector props ≡ Some polls.task =
      ap (λ (o : Option Properties). option_and_then (task_with id.connector) o) (sym config) ∙ c.facts.producers.task n id newest ∙ polls.is_task in
      subst (λ (o : Option TaskSpec). IfSome o (IsThrough setting s)) (sym spec) (newest-through setting s n id c.facts newest polls)

  -- what a connector's task reads is read through
  task-through : (id : TaskId) (props : Properties) → is_some (config_of id.connector s.configs) ≡ true → target_of id.connector s.configs ≡ Started →
      id.index < task_count_of id.connector s.configs → task_config_of id s.configs ≡ Some props → IfSome (task_with id.connector props) (IsThrough setting s)
  task-through id props is started below config =
      let once : RunsOnce s (Task id) = runs-once (Task id) (task-listed s.configs id is below) in
      let at : PassesAt (λ i. is_at once.worker i && same_item (Task id) i.item) s.instances no_instance =
      place-of (λ i. is_at once.worker i && same_item (Task id) i.item) s.instances no_instance (sym (held-any s once.worker (Task id)) ∙ once.holds) in
      let parts : (is_at once.worker (instance_of at.place s) ≡ true) × (same_item (Task id) (instance_of at.place s).item ≡ true) =
      and_parts (is_at once.worker (instance_of at.place s)) (same_item (Task id) (instance_of at.place s).item) at.passes in
      let item : (instance_of at.place s).item ≡ Task id = sym ((same_item-Decides (Task id) (instance_of at.place s).item).0 parts.1) in
      let newest : IsNewest s at.place id = is-newest once.worker at.place id once.member at.within parts.0 item in
      let polls : PollsNothing setting s (instance_of at.place s) = finds-nothing once.worker at.place id once.member at.within parts.0 item started in
      at-end id props at.place newest polls config

-- all is done
pub quiet-done : (setting : Setting) (s : Cluster) → IsCalm setting s → IsDone setting s
quiet-done setting s c name is other = record {
  tasks = (quiet-running setting s c).tasks name is other;
  runs = all-of (RunsOnce s) (items_of s.configs name) (λ x there. runs-once setting s c x (items-configured s.configs name x (some-is (config_of name s.configs) is) there));
  through = λ started. each-proposed (λ index. task_config_of (task_id name index) s.configs) (λ props. IfSome (task_with name props) (IsThrough setting s)) (proposal_of name s.configs)
      0 (task_count_of name s.configs) ((quiet-running setting s c).tasks name is other)
      (λ index below props config. task-through setting s c (task_id name index) props (some-is (config_of name s.configs) is) started (omega (arith, below)) config);
}
