-- In a calm cluster each configured connector is fenced and has its tasks, and each assigned item runs at its member alone.
use Rattle.std.proofs.Common.{◌≡◌, ◌≢◌, ◌⊎◌, inl, inr, ℕ, Bool, true, false, not, ◌&&◌, ◌||◌, cond, List, [], ◌∷◌, map, Option, Some, None, refl, sym, ap, ◌∙◌, subst}
use Rattle.std.proofs.lemmas.Bool.{and_parts, or_right, or_cases, not-false}
use Rattle.std.specs.Prelude.{slice_get}
use Rattle.std.specs.Option.{is_some, is_none, IsSome, option_map, option_map_or, option_eq}
use Rattle.std.specs.Str.{bytes_eq}
use Rattle.std.specs.Cmp.Lexicographic.{pointwise}
use Rattle.std.specs.List.{find, filter, filter_map, cons_option, list_any}
use Rattle.std.proofs.lemmas.Slice.Eq.{bytes_eq-Decides}
use Rattle.cw_types.specs.declared.ids.Item.{Item}
use Rattle.cw_types.specs.declared.ids.Item.TheVariants.{Connector, Task}
use Rattle.cw_assign.specs.Items.{has, same_item}
use Rattle.cw_assign.proofs.ItemLemmas.{same_item-Decides}
use Rattle.cw_keys.specs.declared.target.Target.{Target}
use Rattle.cw_keys.specs.declared.target.Target.TheVariants.{Started, Paused, Stopped}
use Rattle.cw_config.specs.declared.records.ConfigRecord.{ConfigRecord}
use Rattle.cw_config.specs.View.{Properties, config_of, target_of, is_pending}
use Rattle.cw_model.specs.declared.row.RowPhase.{RowPhase}
use Rattle.cw_model.specs.declared.row.RowPhase.TheVariants.{Stable}
use Rattle.cw_model.specs.State.{Setting, Cluster}
use Rattle.cw_model.specs.Lookups.{row_of, seen, is_member, held, configured_items, is_configured}
use Rattle.cw_model.specs.EventsItems.{is_active}
use Rattle.cw_model.specs.EventsLeading.{leads}
use Rattle.cw_model.specs.Proposals.{proposal_of, tasks_of, same_property, same_properties, are_configs, needs_tasks}
use Rattle.cw_model.specs.Ready.{is_stable, is_stable_in, leads_round, leader_for, ready, connector_in, configured_connectors, pending_connectors}
use Rattle.cw_model.specs.TickRules.{Proposing, may_start, waits_for_fence}
use Rattle.cw_laws.specs.QuietLaws.{IsCalm, IsAssignedOnce, RunsAt, IsRunning}
use Rattle.cw_laws.proofs.Members.{same_itself, same_or_not}
use Rattle.cw_laws.proofs.ConfiguredItems.{find-none, connector-listed, listed-configured}
use Rattle.cw_laws.proofs.QuietRules.{member-rule, calm-lowest, lowest-member}
use Rattle.cw_laws.proofs.QuietGroup.{member-leads, member-seen, quiet-assigned}
use Rattle.cw_laws.proofs.Tests.{not-second, all-three}
use Rattle.cw_rest.specs.Replies.{is_stopped}

-- ---- connectors among items

in-connectors : (name : List ℕ) (items : List Item) → has items (Connector name) ≡ true → list_any (λ other. bytes_eq name other) (filter_map connector_in items) ≡ true
in-connectors name [] is = absurd (cc)
in-connectors name (x ∷ items) is = pick x (or_cases (same_item (Connector name) x) (has items (Connector name)) is) (in-connectors name items) where
  same-name : (a b : List ℕ) → a ≡ b → (rest : Bool) → (bytes_eq a b || rest) ≡ true
  same-name a b same rest = ap (λ c. c || rest) ((bytes_eq-Decides a b).1 same)

  pick : (x : Item) → (same_item (Connector name) x ≡ true) ⊎ (has items (Connector name) ≡ true) →
      (has items (Connector name) ≡ true → list_any (λ other. bytes_eq name other) (filter_map connector_in items) ≡ true) →
      list_any (λ other. bytes_eq name other) (cons_option (connector_in x) (filter_map connector_in items)) ≡ true
  pick (Connector a) (inl here) rest =
      let same : Connector name ≡ Connector a = (same_item-Decides (Connector name) (Connector a)).0 here in
      same-name name a (cc) (list_any (λ other. bytes_eq name other) (filter_map connector_in items))
  pick (Connector a) (inr there) rest = or_right (bytes_eq name a) (list_any (λ other. bytes_eq name other) (filter_map connector_in items)) (rest there)
  pick (Task id) (inl here) rest = absurd (let same : Connector name ≡ Task id = (same_item-Decides (Connector name) (Task id)).0 here in cc)
  pick (Task id) (inr there) rest = rest there

none-passes : {X : Type 0} (p : X → Bool) (xs : List X) → slice_get (filter p xs) 0 ≡ None → find p xs ≡ None
none-passes p [] none = refl
none-passes p (x ∷ xs) none = pick (p x) none (none-passes p xs) where
  pick : (b : Bool) → slice_get (cond b (x ∷ filter p xs) (filter p xs)) 0 ≡ None → (slice_get (filter p xs) 0 ≡ None → find p xs ≡ None) → cond b (Some x) (find p xs) ≡ None
  pick true none rest = absurd (cc)
  pick false none rest = rest none

if-none : {A : Type 0} (b : Bool) (o : Option A) → cond b o None ≡ None → b ≡ true → o ≡ None
if-none true o none is = none
if-none false o none is = absurd (cc)

some-from : {A : Type 0} (o : Option A) → is_none o ≡ false → is_some o ≡ true
some-from None is = absurd (cc)
some-from (Some x) is = refl

-- ---- the leader

module _ (setting : Setting) (s : Cluster) (c : IsCalm setting s) where
  abbrev leader : ℕ
  leader = (calm-lowest setting s c).leader

  leader-current : is_member leader s ≡ true
  leader-current = lowest-member setting s c

  abbrev leading : RowPhase
  leading = Stable s.group.round leader

  stands : (w : ℕ) → is_member w s ≡ true → (row_of w s).phase ≡ leading
  stands = member-leads setting s c

  has-lead : is_some (row_of leader s).lead ≡ true
  has-lead =
      let leads-it : leads leader (row_of leader s).phase ≡ true = ap (leads leader) (stands leader leader-current) ∙ same_itself leader in
      some-from (row_of leader s).lead (not-second (leads leader (row_of leader s).phase) (is_none (row_of leader s).lead) (member-rule setting s c leader leader-current).lead leads-it)

  member-stands : (w : ℕ) → is_member w s ≡ true → is_stable (row_of w s).phase ≡ true
  member-stands w current = ap is_stable (stands w current)

  -- ---- no connector waits for a fence

  no-fence : slice_get (pending_connectors leader s) 0 ≡ None
  no-fence = if-none (is_some (row_of leader s).lead && is_stable (row_of leader s).phase) (slice_get (pending_connectors leader s) 0) (member-rule setting s c leader leader-current).fence
      (ap (λ b. b && is_stable (row_of leader s).phase) has-lead ∙ member-stands leader leader-current)

  not-pending : (name : List ℕ) → is_some (config_of name s.configs) ≡ true → is_pending name s.configs ≡ false
  not-pending name is =
      let none : slice_get (filter (λ name. is_pending name s.configs) (configured_connectors s.configs)) 0 ≡ None =
      subst (λ (records : List ConfigRecord). slice_get (filter (λ name. is_pending name records) (configured_connectors records)) 0 ≡ None)
      (member-seen setting s c leader leader-current) no-fence in
      find-none (λ a b. bytes_eq a b) bytes_eq-Decides (λ name. is_pending name s.configs) (configured_connectors s.configs) name
      (none-passes (λ name. is_pending name s.configs) (configured_connectors s.configs) none)
      (in-connectors name (configured_items s.configs) (connector-listed s.configs name is))

  -- ---- what is assigned runs

  no-wait : (records : List ConfigRecord) (x : Item) → ((name : List ℕ) → is_some (config_of name records) ≡ true → is_pending name records ≡ false) → is_configured records x ≡ true →
      waits_for_fence records x ≡ false
  no-wait records (Connector name) fenced is = refl
  no-wait records (Task id) fenced is = fenced id.connector (and_parts (is_some (config_of id.connector records)) _ is).0

  starts-held : (a b w : Bool) → (a && not b && not w) ≡ false → a ≡ true → w ≡ false → b ≡ true
  starts-held true true w none is fenced = refl
  starts-held true false true none is fenced = absurd (cc)
  starts-held true false false none is fenced = absurd (cc)
  starts-held false b w none is fenced = absurd (cc)

  assigned-held : (w : ℕ) (x : Item) → is_member w s ≡ true → has (row_of w s).assigned x ≡ true → has (held w s) x ≡ true
  assigned-held w x current assigned =
      let none : find (may_start w s) (row_of w s).assigned ≡ None =
      if-none (is_stable (row_of w s).phase) (find (may_start w s) (row_of w s).assigned) (member-rule setting s c w current).start (member-stands w current) in
      let not-started : may_start w s x ≡ false = find-none same_item same_item-Decides (may_start w s) (row_of w s).assigned x none assigned in
      let same : seen w s ≡ s.configs = member-seen setting s c w current in
      let configured : is_configured s.configs x ≡ true = listed-configured s.configs x ((quiet-assigned setting s c).only w current x assigned) in
      starts-held (is_configured (seen w s) x) (has (held w s) x) (waits_for_fence (seen w s) x) not-started
      (subst (λ (records : List ConfigRecord). is_configured records x ≡ true) (sym same) configured)
      (subst (λ (records : List ConfigRecord). waits_for_fence records x ≡ false) (sym same) (no-wait s.configs x not-pending configured))

  pub runs-at : (w : ℕ) (x : Item) → is_member w s ≡ true → has (held w s) x ≡ true → RunsAt s w x
  runs-at w x current here = record {
    here = here;
    only = λ other other-current there. elim (same_or_not other w) [
      | inl same ↦ same
      | inr ne ↦ absurd (let none : has (held w s) x ≡ false = c.facts.safe.disjoint other w x ne other-current current there in cc)
    ];
  }

  -- ---- connectors have the tasks that they ask for

  is-ready : (w : ℕ) → is_member w s ≡ true → ready w s ≡ Some leader
  is-ready w current =
      let active : is_active s w ≡ true = c.members_active w current in
      let leader-active : is_active s leader ≡ true = c.members_active leader leader-current in
      let stable : is_stable_in s.group.round (row_of leader s).phase ≡ true = ap (is_stable_in s.group.round) (stands leader leader-current) ∙ same_itself s.group.round in
      let leads-it : leads leader (row_of leader s).phase ≡ true = ap (leads leader) (stands leader leader-current) ∙ same_itself leader in
      let all : leads_round s.group.round leader s ≡ true =
      ap (λ b. b && is_some (row_of leader s).lead) (all-three (is_active s leader) (is_stable_in s.group.round (row_of leader s).phase) (leads leader (row_of leader s).phase) leader-active stable leads-it)
      ∙ has-lead in
      ap (λ b. cond b (leader_for (row_of w s).phase s) None) active
      ∙ ap (λ (p : RowPhase). leader_for p s) (stands w current)
      ∙ ap (λ b. cond b (Some leader) None) all

  abbrev at_leader : ℕ → List ℕ → Proposing
  at_leader l name = record { leader = l; connector = name }

  none-needed : (w : ℕ) (o : Option ℕ) → o ≡ Some leader →
      option_map_or (λ l. option_map (at_leader l) (find (needs_tasks (seen w s)) (filter_map connector_in (held w s)))) o None ≡ None →
      find (needs_tasks (seen w s)) (filter_map connector_in (held w s)) ≡ None
  none-needed w None is none = absurd (cc)
  none-needed w (Some l) is none = unmapped (find (needs_tasks (seen w s)) (filter_map connector_in (held w s))) none where
    unmapped : (o : Option (List ℕ)) → option_map (at_leader l) o ≡ None → o ≡ None
    unmapped None none = refl
    unmapped (Some name) none = absurd (cc)

  needs-none : (w : ℕ) (name : List ℕ) → is_member w s ≡ true → has (held w s) (Connector name) ≡ true → needs_tasks s.configs name ≡ false
  needs-none w name current runs =
      subst (λ (records : List ConfigRecord). needs_tasks records name ≡ false) (member-seen setting s c w current)
      (find-none (λ a b. bytes_eq a b) bytes_eq-Decides (needs_tasks (seen w s)) (filter_map connector_in (held w s)) name
      (none-needed w (ready w s) (is-ready w current) (member-rule setting s c w current).propose)
      (in-connectors name (held w s) runs))

  connector-runs : (name : List ℕ) → is_some (config_of name s.configs) ≡ true → needs_tasks s.configs name ≡ false
  connector-runs name is =
      let once : IsAssignedOnce s (Connector name) = (quiet-assigned setting s c).once (Connector name) (connector-listed s.configs name is) in
      needs-none once.worker name once.member (assigned-held once.worker (Connector name) once.member once.assigned)

-- ---- tasks that are the same are equal

pointwise-equal : {X : Type 0} (E : X → X → Bool) → ((a b : X) → E a b ≡ true → a ≡ b) → (xs ys : List X) → pointwise E xs ys ≡ true → xs ≡ ys
pointwise-equal E equal [] [] is = refl
pointwise-equal E equal [] (y ∷ ys) is = absurd (cc)
pointwise-equal E equal (x ∷ xs) [] is = absurd (cc)
pointwise-equal E equal (x ∷ xs) (y ∷ ys) is =
    let parts : (E x y ≡ true) × (pointwise E xs ys ≡ true) = and_parts (E x y) (pointwise E xs ys) is in
    ap (λ z. z ∷ xs) (equal x y parts.0) ∙ ap (λ zs. y ∷ zs) (pointwise-equal E equal xs ys parts.1)

property-equal : (p q : List ℕ × List ℕ) → same_property p q ≡ true → p ≡ q
property-equal p q is =
    let parts : (bytes_eq p.0 q.0 ≡ true) × (bytes_eq p.1 q.1 ≡ true) = and_parts (bytes_eq p.0 q.0) (bytes_eq p.1 q.1) is in
    ap (λ (k : List ℕ). (k, p.1)) ((bytes_eq-Decides p.0 q.0).0 parts.0) ∙ ap (λ (v : List ℕ). (q.0, v)) ((bytes_eq-Decides p.1 q.1).0 parts.1)

properties-equal : (a b : Option Properties) → option_eq same_properties a b ≡ true → a ≡ b
properties-equal None None is = refl
properties-equal None (Some b) is = absurd (cc)
properties-equal (Some a) None is = absurd (cc)
properties-equal (Some a) (Some b) is = ap (λ (ps : Properties). Some ps) (pointwise-equal same_property property-equal a b is)

configs-equal : (tasks : List (Option Properties)) (proposal : List Properties) → are_configs tasks proposal ≡ true → tasks ≡ map Some proposal
configs-equal tasks proposal is = pointwise-equal (option_eq same_properties) properties-equal tasks (map Some proposal) is

has-tasks : (target : Target) (same : Bool) → (not (is_stopped target) && not same) ≡ false → target ≢ Stopped → same ≡ true
has-tasks Started same none other = not-false same none
has-tasks Paused same none other = not-false same none
has-tasks Stopped same none other = absurd (other refl)

pub some-is : {A : Type 0} (o : Option A) → IsSome o → is_some o ≡ true
some-is None is = absurd (cc)
some-is (Some x) is = refl

-- the third law
pub quiet-running : (setting : Setting) (s : Cluster) → IsCalm setting s → IsRunning s
quiet-running setting s c = record {
  fenced = λ name is. not-pending setting s c name (some-is (config_of name s.configs) is);
  tasks = λ name is other. configs-equal (tasks_of name s.configs) (proposal_of name s.configs)
      (has-tasks (target_of name s.configs) (are_configs (tasks_of name s.configs) (proposal_of name s.configs)) (connector-runs setting s c name (some-is (config_of name s.configs) is)) other);
  runs = λ w item current assigned. runs-at setting s c w item current (assigned-held setting s c w item current assigned);
}
